pub mod Grammar
pub mod Tables
pub mod Rows
pub mod Sound
