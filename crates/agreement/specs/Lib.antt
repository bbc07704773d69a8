-- What the loss count and the resolver share with the type table.
pub mod Ranges
