pub mod Marks
pub mod Grammar
pub mod Descent
pub mod Writing
pub mod Laws
