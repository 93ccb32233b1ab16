pub mod Following
pub mod Openings
pub mod Runs
pub mod Transactions
pub mod Writing
