pub mod Eclipses
pub mod Sides
pub mod Nodes
pub mod Marks
pub mod Passages
