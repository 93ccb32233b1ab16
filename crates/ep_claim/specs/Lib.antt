pub mod Promise
pub mod Lanes
pub mod Text
