pub mod Tables
pub mod Recorded
