pub mod Lexing
pub mod Expecting
