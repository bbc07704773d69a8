-- The laws of the crate `programs`.
pub mod Inputs
pub mod Batches
pub mod Showing
pub mod Frames
