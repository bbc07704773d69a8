-- The laws and theorems of the crate `knotsaffron`.
pub mod Theorems
