-- Laws of what is given back.
pub mod Lent
pub mod Numbered
