pub mod Pooled
pub mod Levels
pub mod Whole
pub mod Parts
pub mod Pasting
