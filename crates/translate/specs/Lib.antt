pub mod States
pub mod Tables
pub mod Meaning
pub mod Sifted
