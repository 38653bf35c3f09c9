pub mod Heads
pub mod Trees
pub mod Checks
pub mod Moves
pub mod Keeps
pub mod Given
