pub mod Trees
pub mod Sections
pub mod Standings
pub mod Sources
