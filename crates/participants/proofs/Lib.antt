-- The laws and theorems of the crate `participants`.
pub mod Types
pub mod Gathering
pub mod Fields
pub mod Frame
pub mod Theorems
