pub mod Cards
pub mod Draws
pub mod Fates
pub mod Load
pub mod Responses
pub mod Scripts
pub mod Terms
