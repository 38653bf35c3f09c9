pub mod Links
pub mod Promotable
