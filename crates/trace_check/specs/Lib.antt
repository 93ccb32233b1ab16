pub mod Allowed
pub mod Commands
pub mod Held
pub mod Latests
pub mod Lines
pub mod Meaning
pub mod Verdicts
pub mod Watch
