-- The theorem on the ranges.
pub mod Ranges
