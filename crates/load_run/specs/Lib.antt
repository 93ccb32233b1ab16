pub mod Counts
pub mod Following
pub mod Load
pub mod Summary
