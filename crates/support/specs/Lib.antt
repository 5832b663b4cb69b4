pub mod Tables
pub mod Printed
