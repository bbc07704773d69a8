-- The definitions of the crate `participants`.
pub mod Components
pub mod Rsm
pub mod Sentences
pub mod Steps
