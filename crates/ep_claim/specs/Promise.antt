-- Promise.
pub mod Run
pub mod Counts
pub mod Lane
pub mod Logs
pub mod Thirds
pub mod Transaction
pub mod Cards
pub mod Closings
pub mod Perfection
