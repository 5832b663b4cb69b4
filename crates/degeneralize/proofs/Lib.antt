pub mod Granting
pub mod Moving
