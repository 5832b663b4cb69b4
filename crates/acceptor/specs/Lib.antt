pub mod Printed
pub mod Said
pub mod Walks
