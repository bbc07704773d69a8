-- The definitions of the crate `plans`.
pub mod Plans
pub mod Planner
pub mod Sentences
pub mod Steps
