pub mod Acting
pub mod Alone
pub mod Ending
pub mod Linked
pub mod Once
pub mod Polled
