-- Laws of lists and of rings that the crates above share.
pub mod Lists
pub mod Rings
