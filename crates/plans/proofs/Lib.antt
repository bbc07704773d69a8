-- The laws and theorems of the crate `plans`.
pub mod Counting
pub mod Fitting
pub mod Counted
pub mod Tallying
pub mod Filling
pub mod Judging
pub mod Theorems
pub mod Sized
pub mod Packed
pub mod Storing
pub mod Answered
pub mod Planning
pub mod Fewest
pub mod Sending
pub mod Checked
