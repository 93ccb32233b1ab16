pub mod Following
pub mod Hearing
pub mod LaneLaw
pub mod Lossless
