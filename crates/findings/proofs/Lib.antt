-- The laws and theorems of the crate `findings`.
pub mod Lines
pub mod Found
pub mod Told
