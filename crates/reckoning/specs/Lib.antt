pub mod Search
pub mod Climb
pub mod Rule
pub mod Means
pub mod Dates
pub mod Days
pub mod Chapters
pub mod Figures
