pub mod CandidateFacts
pub mod Heard
pub mod Legality
pub mod OverPerfect
pub mod ScriptCounts
pub mod StartB
