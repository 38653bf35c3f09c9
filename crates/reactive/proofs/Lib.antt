pub mod Places
pub mod Steps
pub mod Lists
