pub mod Along
pub mod Repeating
pub mod Rounding
