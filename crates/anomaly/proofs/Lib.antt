pub mod Whole
pub mod Sums
pub mod Moves
pub mod Fair
pub mod Instants
pub mod Steps
