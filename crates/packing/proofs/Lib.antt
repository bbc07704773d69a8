-- The laws of the crate `packing`.
pub mod Tests
pub mod Types
pub mod Moved
pub mod Growing
pub mod Flags
pub mod Pieces
pub mod Header
pub mod Length
pub mod Framed
pub mod Cells
pub mod Capped
pub mod Held
pub mod Sizes
pub mod Measuring
pub mod Input
pub mod Formed
pub mod Within
