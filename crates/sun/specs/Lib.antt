pub mod Solstices
pub mod Points
