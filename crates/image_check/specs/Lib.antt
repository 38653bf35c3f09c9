pub mod Ranks
pub mod Steps
pub mod Verdicts
