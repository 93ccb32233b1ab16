pub mod Accepted
pub mod Cuts
pub mod Forms
pub mod Runs
pub mod Spelled
pub mod Starts
