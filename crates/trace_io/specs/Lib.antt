pub mod Meaning
pub mod MismatchText
pub mod Replays
