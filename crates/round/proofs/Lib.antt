pub mod Letterwise
pub mod Granted
