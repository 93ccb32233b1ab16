pub mod FaultWords
pub mod Worked
