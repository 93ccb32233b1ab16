pub mod Accepted
pub mod Document
pub mod Jobs
pub mod Outcomes
pub mod Plan
pub mod Scenario
pub mod Scripts
pub mod Turns
