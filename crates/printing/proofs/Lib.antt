-- The laws and theorems of the crate `printing`.
pub mod Examples
pub mod Appending
pub mod Digits
pub mod Signed
pub mod Printing
pub mod Lengths
