pub mod Passes
pub mod Idle
