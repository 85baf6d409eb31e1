pub mod Fields
pub mod Walks
pub mod Calendars
