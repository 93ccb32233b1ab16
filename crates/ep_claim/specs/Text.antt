-- Text.
pub mod FaultText
pub mod ReportLine
pub mod TraceForm
pub mod TraceLine
pub mod WrittenText
