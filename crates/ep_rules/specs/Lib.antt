pub mod EntryPoint
