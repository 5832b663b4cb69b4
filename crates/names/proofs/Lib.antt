pub mod Rows
pub mod Proper
