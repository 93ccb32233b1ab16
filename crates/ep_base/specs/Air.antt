-- Air.
pub mod Check
pub mod Fates
pub mod Frame
pub mod FrameSize
pub mod Heard
pub mod Medium
