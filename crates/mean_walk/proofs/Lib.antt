pub mod HandedIn
pub mod Demand3
pub mod Refusals
