-- Streams.
pub mod Causes
pub mod Io
pub mod Memory
pub mod Words
