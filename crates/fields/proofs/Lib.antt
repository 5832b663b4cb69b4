pub mod Stretch
pub mod Written
