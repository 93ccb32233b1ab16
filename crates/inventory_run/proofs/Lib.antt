pub mod Accepted
pub mod Appending
pub mod Finding
pub mod Leaving
pub mod Taking
