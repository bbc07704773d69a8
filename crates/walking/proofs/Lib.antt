-- The laws and theorems of the crate `walking`.
pub mod Packed
pub mod Laws
pub mod Rows
pub mod Texts
