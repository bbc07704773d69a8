-- The definitions of the position resolver.
pub mod Ranges
pub mod Checked
pub mod Resolution
