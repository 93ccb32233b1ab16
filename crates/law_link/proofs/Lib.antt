pub mod Bounding
pub mod Cutting
pub mod Exchange
pub mod Few
pub mod Worked
