pub mod Sound
pub mod Calendar
pub mod Starred
