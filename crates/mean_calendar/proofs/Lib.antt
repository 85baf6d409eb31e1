pub mod Found
pub mod Points
pub mod Lawful
pub mod Refusals
pub mod Stays
pub mod LeapYears
pub mod Terms
