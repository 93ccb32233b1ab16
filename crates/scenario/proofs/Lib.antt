pub mod Accepted
pub mod Commands
pub mod Root
pub mod Sending
