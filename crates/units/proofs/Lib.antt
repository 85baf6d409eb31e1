pub mod Sound
pub mod Years
pub mod Table
