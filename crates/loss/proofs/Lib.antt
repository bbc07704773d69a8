-- Laws of the ring and of reasons, and the theorems on the loss count, which belong to no one function.
pub mod Ring
pub mod Theorems
