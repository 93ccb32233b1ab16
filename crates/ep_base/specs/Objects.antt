-- Objects.
pub mod Arena
pub mod Directory
pub mod Forest
pub mod RawBytes
pub mod Reading
