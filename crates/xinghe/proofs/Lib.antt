pub mod Fronts
pub mod Located
