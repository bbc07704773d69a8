-- The definitions of the crate `signals`.
pub mod Components
pub mod References
pub mod Phases
pub mod Verdict
pub mod Signal
pub mod Sentences
pub mod Steps
pub mod Mismatches
