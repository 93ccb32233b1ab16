pub mod Held
pub mod Pairs
pub mod Ranks
pub mod Sorting
