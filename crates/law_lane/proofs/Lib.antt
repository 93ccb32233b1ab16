pub mod Commanding
pub mod Ending
pub mod Following
pub mod Keeping
pub mod Known
pub mod Moving
pub mod Worked
