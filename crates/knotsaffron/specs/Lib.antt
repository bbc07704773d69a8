-- The definitions of the crate `knotsaffron`.
pub mod Cells
