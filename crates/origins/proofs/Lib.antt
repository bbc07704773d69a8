-- The laws and theorems of the crate `origins`.
pub mod Bytes
pub mod Messages
pub mod Frame
pub mod Theorems
