-- The laws and theorems of the crate `reading`.
pub mod Answers
pub mod Leaves
pub mod Telling
pub mod Windows
pub mod Steps
pub mod Runs
pub mod Tops
pub mod Parts
pub mod Walks
pub mod Loops
pub mod Entry
pub mod Texts
