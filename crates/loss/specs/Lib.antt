-- The definitions of the loss count.
pub mod Ring
