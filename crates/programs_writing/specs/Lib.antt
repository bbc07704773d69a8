-- The definitions of the crate `programs_writing`.
pub mod Cells
pub mod Sheets
