pub mod Accepted
pub mod Apart
pub mod Formed
pub mod Numbered
pub mod Turns
pub mod Whole
