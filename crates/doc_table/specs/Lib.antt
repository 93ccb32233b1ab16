pub mod Fault
pub mod Order
pub mod Path
pub mod Read
pub mod Section
