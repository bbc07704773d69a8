-- The laws of the crate `messages`.
pub mod Frames
pub mod Entries
pub mod Figures
pub mod Few
pub mod Repeats
pub mod Places
pub mod Keys
pub mod Seen
pub mod Told
