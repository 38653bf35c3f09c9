pub mod Words
pub mod Turns
