pub mod Naming
pub mod Fates
pub mod Refusing
pub mod Spellings
pub mod Promises
pub mod Passing
pub mod Calling
pub mod Equal
