pub mod Heads
pub mod Runs
pub mod Whole
pub mod Pieces
pub mod Forest
