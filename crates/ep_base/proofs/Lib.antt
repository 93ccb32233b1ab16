pub mod Images
pub mod Known
pub mod Sizes
pub mod Values
