-- The definitions of the crate `rules`.
pub mod Components
pub mod Ruling
pub mod Rsi
pub mod Lists
pub mod Breaches
