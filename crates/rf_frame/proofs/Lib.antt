pub mod BurstLaw
pub mod Inverted
pub mod Opening
pub mod Places
pub mod Register
pub mod Sealing
pub mod Words
