pub mod Fronts
pub mod Years
