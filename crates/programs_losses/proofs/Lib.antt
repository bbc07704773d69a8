-- The laws of the crate `programs_losses`.
pub mod Lines
pub mod Drives
