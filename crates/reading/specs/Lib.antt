-- The definitions of the crate `reading`.
pub mod Given
pub mod Taken
pub mod Telling
pub mod Judged
pub mod Rows
