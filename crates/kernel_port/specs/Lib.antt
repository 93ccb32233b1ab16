pub mod Event
pub mod Kernels
pub mod Outcome
pub mod Scripts
