pub mod Codes
pub mod Numbers
pub mod Rows
pub mod Tables
pub mod Sound
pub mod Kinds
pub mod Given
pub mod Lvalues
