-- EntryPoint.
pub mod Became
pub mod Bounds
pub mod Candidates
pub mod Configuration
pub mod Event
pub mod EventSteps
pub mod Kernel
pub mod KernelCommands
pub mod KernelCounts
pub mod OverChannel
pub mod Perfect
pub mod PreProcessing
pub mod Talk
pub mod Transaction
pub mod TransportRun
