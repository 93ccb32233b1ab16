pub mod Bounding
pub mod Hearing
pub mod Legal
pub mod Picking
pub mod Playing
pub mod Scripting
pub mod Starting
pub mod Whole
