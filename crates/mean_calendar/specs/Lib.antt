pub mod Parts
pub mod Heads
pub mod Months
pub mod Points
pub mod Answers
pub mod Carries
pub mod Cases
