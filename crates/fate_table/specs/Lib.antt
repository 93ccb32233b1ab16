pub mod Fates
pub mod Forms
pub mod Presence
pub mod Tokens
