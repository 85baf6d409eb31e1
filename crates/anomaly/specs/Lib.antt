pub mod Rates
pub mod Amounts
pub mod Corrections
pub mod Steps
