-- The definitions of the crate `messages`.
pub mod Message
pub mod Taking
pub mod Repeats
pub mod Places
pub mod Keys
pub mod Seeking
