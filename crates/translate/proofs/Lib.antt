pub mod Members
pub mod Looked
pub mod Counting
pub mod Stepping
pub mod Answering
