-- The definitions of the crate `parsing`.
pub mod Lines
pub mod Numbers
pub mod Sheets
pub mod Complaints
pub mod Says
