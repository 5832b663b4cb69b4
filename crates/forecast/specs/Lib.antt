pub mod Bounded
pub mod Forecasts
pub mod Steady
pub mod Rules
pub mod Laws
