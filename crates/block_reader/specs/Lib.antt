pub mod Counts
pub mod Follows
pub mod Progress
pub mod ReadBlocks
pub mod Stands
