pub mod Answers
pub mod Carried
pub mod Direct
pub mod Heard
pub mod Radio
