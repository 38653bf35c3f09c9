pub mod Growing
pub mod Listing
pub mod Passing
pub mod Visiting
