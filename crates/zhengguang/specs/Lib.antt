pub mod Zhengguang
pub mod Nodes
pub mod Rows
pub mod Answers
pub mod Carries
pub mod Years
pub mod Cases
