-- The definitions of the crate `writing`.
pub mod Target
pub mod Cells
pub mod Entry
