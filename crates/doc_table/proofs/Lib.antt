pub mod Accepted
pub mod Ascent
pub mod Counts
pub mod Elements
pub mod Keys
pub mod Texts
