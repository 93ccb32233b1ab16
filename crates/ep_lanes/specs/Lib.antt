pub mod Causes
pub mod Lanes
pub mod Saying
pub mod Scripted
pub mod Turns
pub mod Upcoming
