pub mod Puts
pub mod Fields
pub mod Opens
pub mod Trees
pub mod Panels
pub mod Fits
pub mod Values
