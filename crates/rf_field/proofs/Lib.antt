pub mod Left
pub mod OneByOne
pub mod Replies
pub mod Rounds
pub mod Taking
pub mod Together
