pub mod Machines
pub mod Runs
pub mod Judging
pub mod Laws
