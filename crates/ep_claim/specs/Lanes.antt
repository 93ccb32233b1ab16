-- Lanes.
pub mod Probing
pub mod WholeReplay
pub mod Apart
pub mod Counting
pub mod Ending
pub mod LaneText
pub mod Order
pub mod Pieces
pub mod Telling
pub mod Turning
pub mod WholeRun
pub mod Exchanges
pub mod Limits
pub mod ShortLanes
pub mod Standing
pub mod ReplayRun
pub mod Steps
