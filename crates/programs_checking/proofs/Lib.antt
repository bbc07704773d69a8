-- The laws of the crate `programs_checking`.
pub mod Lent
pub mod Checks
