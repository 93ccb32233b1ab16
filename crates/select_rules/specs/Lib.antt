pub mod Left
pub mod Offer
pub mod Order
