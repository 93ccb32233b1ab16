pub mod ScriptCounts
