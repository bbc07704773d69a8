-- The laws and theorems of the crate `parsing`.
pub mod Lines
pub mod Numbers
pub mod Filling
pub mod Complaints
pub mod RoundTrip
pub mod Examples
pub mod Says
