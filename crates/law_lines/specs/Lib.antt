pub mod Bytes
pub mod RunLines
