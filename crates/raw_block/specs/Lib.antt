pub mod BlockState
pub mod Filling
pub mod Ownership
