pub mod Answers
pub mod ArenaState
pub mod Calls
pub mod Layout
pub mod StoreState
