pub mod Objects
pub mod Poll
pub mod Cards
pub mod Link
pub mod Air
pub mod Streams
