-- The definitions of the crate `programs_checking`.
pub mod Checks
