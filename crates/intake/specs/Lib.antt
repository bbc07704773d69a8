-- The definitions of the crate `intake`.
pub mod Arguments
