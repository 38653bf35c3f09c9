pub mod Bytes
pub mod Layouts
pub mod Format
pub mod Steps
pub mod Faults
