-- The definitions of the crate `printing`.
pub mod Characters
pub mod Digits
pub mod Texts
pub mod Buffers
