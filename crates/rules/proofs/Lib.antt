-- The laws and theorems of the crate `rules`.
pub mod Broken
pub mod Rsi
pub mod Frame
pub mod Theorems
pub mod Breaches
