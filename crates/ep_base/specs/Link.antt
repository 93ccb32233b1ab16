-- Link.
pub mod Block
pub mod CardEnd
pub mod Carry
pub mod Dialogue
pub mod LinkEvents
pub mod LinkFrames
pub mod OneLink
pub mod Parts
pub mod ReaderEnd
pub mod Spelling
pub mod Wire
