pub mod CardLimits
pub mod Choices
pub mod Lanes
pub mod Purchases
pub mod Settings
