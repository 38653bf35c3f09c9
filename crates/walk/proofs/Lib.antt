pub mod Opened
pub mod Rows
pub mod Acting
pub mod Fitting
