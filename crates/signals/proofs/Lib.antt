-- The laws and theorems of the crate `signals`.
pub mod Types
pub mod Searching
pub mod Keys
pub mod Flags
pub mod Stepping
pub mod Referring
pub mod Gathering
pub mod Levels
pub mod Nodes
pub mod Frames
pub mod Using
pub mod Judging
pub mod Theorems
pub mod Mismatches
