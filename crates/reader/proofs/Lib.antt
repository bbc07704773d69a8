-- The laws of the crate `reader`.
pub mod Fields
pub mod Widths
