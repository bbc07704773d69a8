-- Laws that the functions' proofs share, and the theorems on the resolver.
pub mod Ranges
pub mod Meridians
pub mod Theorems
pub mod Adding
pub mod Resolving
