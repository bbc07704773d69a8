-- The definitions of the crate `packing`.
pub mod Entries
pub mod Message
pub mod Lengths
pub mod Sizes
pub mod Steps
