-- The laws and theorems of the crate `sheet`.
pub mod Cells
pub mod Front
pub mod Questions
pub mod Says
pub mod Apart
pub mod Components
pub mod Standing
pub mod Must
pub mod Alone
pub mod Named
