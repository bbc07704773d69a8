-- The laws of the crate `records`.
pub mod Records
