-- Poll.
pub mod Polling
pub mod Radio
pub mod Round
pub mod Transport
