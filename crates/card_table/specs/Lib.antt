pub mod Cards
pub mod Outsides
pub mod Placing
