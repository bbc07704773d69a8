-- The proofs of the crate `passing`.
pub mod Laws
pub mod Signs
pub mod Cells
pub mod Root
pub mod Says
