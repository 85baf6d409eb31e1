pub mod Chunks
pub mod Locations
pub mod Labels
pub mod Stems
