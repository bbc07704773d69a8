-- The definitions of the crate `answers`.
pub mod GivenBack
pub mod Reasons
pub mod Refusals
pub mod Answers
pub mod Said
