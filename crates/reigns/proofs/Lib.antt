pub mod Spans
pub mod Only
pub mod Counted
pub mod Refusals
pub mod Damaged
pub mod Cut
pub mod Renamed
