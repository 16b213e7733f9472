-- The lemmas of the crate, each file after those that it uses.
mod Levels
pub mod Places
