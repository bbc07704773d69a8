-- The definitions of the loss tables of two parties.
pub mod Parties
pub mod History
