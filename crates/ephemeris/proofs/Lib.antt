pub mod Points
pub mod Refusals
pub mod Moons
pub mod Rows
