-- The definitions of the loss table.
pub mod Rows
pub mod Table
pub mod History
