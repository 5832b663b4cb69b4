pub mod Formula
pub mod Lists
pub mod Arena
pub mod Laws
pub mod Words
pub mod Rounds
