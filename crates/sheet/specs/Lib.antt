pub mod Kinds
pub mod Layout
pub mod Contents
pub mod Laws
pub mod Turns
