pub mod Readings
pub mod Decimals
pub mod Lengths
pub mod Fits
