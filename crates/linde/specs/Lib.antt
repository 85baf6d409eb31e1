pub mod Linde
pub mod Cases
