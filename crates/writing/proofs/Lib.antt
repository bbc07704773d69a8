-- The laws of the crate `writing`.
mod Signs
mod Silence
mod Target
mod Leaves
mod Walks
mod Texts
mod Entry
