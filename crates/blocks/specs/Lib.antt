pub mod Bytes
pub mod Check
pub mod Block
