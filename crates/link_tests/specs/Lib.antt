pub mod OneCommand
pub mod Open
pub mod Reader
