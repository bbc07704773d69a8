-- The definitions of the crate `programs`.
pub mod Inputs
pub mod Batches
pub mod Frames
