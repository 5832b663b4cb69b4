pub mod Held
pub mod Named
pub mod Rows
pub mod Sets
pub mod Temporals
pub mod Staying
pub mod Ruled
pub mod Visiting
