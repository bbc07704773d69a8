-- The definitions of the crate `programs_losses`.
pub mod Lines
pub mod Drives
pub mod Histories
