pub mod Bytes
pub mod Lending
pub mod Places
pub mod Values
pub mod Steps
