pub mod Spans
pub mod Chunks
pub mod Holding
pub mod Growing
pub mod Loading
