pub mod Sums
pub mod Blocks
pub mod Values
pub mod Altered
pub mod Small
pub mod Same
pub mod Fits
pub mod Offsets
