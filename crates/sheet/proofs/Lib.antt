pub mod Few
pub mod Steps
pub mod Tags
pub mod Content
pub mod Granted
pub mod Refused
pub mod SheetLaw
