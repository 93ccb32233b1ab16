pub mod Nodes
pub mod Costs
pub mod Spare
pub mod Groups
pub mod Path
