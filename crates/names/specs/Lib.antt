pub mod Names
pub mod Ganzhi
