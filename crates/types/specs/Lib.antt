-- The definitions of the crate `types`.
pub mod Shape
pub mod Kinds
pub mod Columns
pub mod Row
pub mod Line
pub mod Rows
pub mod Table
pub mod Rule
pub mod Ready
pub mod Names
pub mod Named
