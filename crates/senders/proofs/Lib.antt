-- Laws of the loss table.
pub mod Bytes
pub mod First
pub mod Outcomes
pub mod Counts
pub mod Keys
pub mod Keeping
pub mod Steps
pub mod History
pub mod Theorems
pub mod Numbers
pub mod Changes
pub mod Told
