pub mod Alike
pub mod Carrying
pub mod Imaging
pub mod Limits
pub mod Passing
pub mod Placing
pub mod Reading
