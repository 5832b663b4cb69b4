pub mod Cyclic
pub mod Turning
pub mod Verdicts
