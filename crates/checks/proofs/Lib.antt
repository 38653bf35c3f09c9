pub mod Loops
pub mod Slots
pub mod Opening
pub mod Answering
pub mod Seeing
pub mod Sound
