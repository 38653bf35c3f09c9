pub mod Journals
pub mod Escapes
pub mod Interposed
pub mod Coverings
pub mod Small
pub mod Passes
pub mod Laws
pub mod Sentences
