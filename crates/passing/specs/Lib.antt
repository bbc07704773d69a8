-- The definitions of the crate `passing`.
pub mod Ended
pub mod Passing
