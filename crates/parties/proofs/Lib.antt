-- The laws and theorems of the loss tables of two parties.
pub mod Shares
pub mod Theorems
pub mod Told
