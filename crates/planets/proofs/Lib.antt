pub mod Cases
pub mod Decoded
pub mod EveryYear
pub mod Five
pub mod Printed
pub mod Refusals
pub mod Room
