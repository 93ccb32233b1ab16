pub mod Meant
pub mod Traced
