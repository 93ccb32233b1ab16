pub mod Allowing
pub mod Openings
pub mod RunLines
