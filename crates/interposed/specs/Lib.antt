pub mod Kinds
pub mod Acts
pub mod Interposed
