-- The definitions of the crate `meaning`.
pub mod Values
pub mod Steps
pub mod Coded
pub mod Walk
pub mod Reading
pub mod Extents
pub mod Writing
pub mod Messages
pub mod Fields
pub mod Says
