pub mod Failing
pub mod HexText
pub mod Parts
pub mod Spelt
pub mod Taken
pub mod Words
