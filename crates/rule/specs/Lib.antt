pub mod Pools
pub mod Rules
pub mod Written
