pub mod Following
pub mod Keeping
pub mod Leaves
pub mod Beginning
