pub mod Allowed
pub mod Room
