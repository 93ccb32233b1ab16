pub mod Bounds
pub mod Once
