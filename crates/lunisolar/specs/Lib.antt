pub mod Sixty
pub mod Calendars
pub mod Heads
pub mod Names
pub mod Dates
pub mod Answers
