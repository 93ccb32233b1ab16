pub mod Listing
pub mod Tagged
pub mod Text
