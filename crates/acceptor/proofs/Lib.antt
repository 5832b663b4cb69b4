pub mod Walking
pub mod Places
pub mod Positions
pub mod Verdicts
