pub mod Heads
pub mod Elements
pub mod Rows
pub mod Dates
pub mod Answers
pub mod Carries
