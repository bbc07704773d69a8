-- The definitions of the crate `basics`.
pub mod Counts
pub mod Lists
pub mod Rings
