-- The definitions of the crate `findings`.
pub mod Finding
pub mod Told
pub mod Found
pub mod Lines
