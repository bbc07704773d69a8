-- The definitions of the crate `sheet`.
pub mod Values
pub mod Standing
pub mod Sole
pub mod Moving
pub mod Says
