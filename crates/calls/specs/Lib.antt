pub mod Steps
pub mod Histories
pub mod Words
pub mod Promise
pub mod Equal
