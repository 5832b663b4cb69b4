pub mod Marks
pub mod Verdicts
