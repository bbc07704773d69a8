-- The definitions of the crate `records`.
pub mod Records
