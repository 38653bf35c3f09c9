pub mod Identifier
pub mod Growth
pub mod Temporaries
