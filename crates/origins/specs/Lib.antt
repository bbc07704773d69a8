-- The definitions of the crate `origins`.
pub mod Frame
pub mod Octets
