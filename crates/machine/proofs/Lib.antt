pub mod Single
pub mod Looping
pub mod Alike
pub mod Telling
