pub mod NewMoons
pub mod Phases
