-- The theorems on what the programs print.
pub mod Theorems
pub mod Back
pub mod Batches
pub mod Frames
pub mod Checked
pub mod Losses
pub mod Examples
