pub mod Meaning
pub mod Poll
pub mod PollView
