pub mod Addition
pub mod PhaseOrder
