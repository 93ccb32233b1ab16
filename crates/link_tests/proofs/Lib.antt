pub mod Fielding
pub mod Ready
