pub mod Marking
pub mod Truths
pub mod Placed
