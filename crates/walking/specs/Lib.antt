pub mod Walk
pub mod Paper
pub mod Signed
pub mod Fields
