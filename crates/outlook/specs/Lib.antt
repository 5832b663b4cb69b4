pub mod Letters
pub mod Pairs
