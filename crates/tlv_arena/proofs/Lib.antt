pub mod Held
pub mod Lists
pub mod Pulls
pub mod Rising
pub mod Room
pub mod Slide
pub mod Slots
