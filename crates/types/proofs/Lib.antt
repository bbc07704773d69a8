-- The laws and theorems of the crate `types`.
pub mod Rule
pub mod Computed
pub mod Depth
pub mod Numbers
pub mod Lowest
pub mod Steps
pub mod Words
pub mod Ready
pub mod Walkable
pub mod RowNames
pub mod NamedTypes
pub mod Description
