pub mod Lists
pub mod Sections
pub mod Exact
pub mod Leaves
pub mod Rows
pub mod Contents
pub mod Whole
pub mod Verdicts
