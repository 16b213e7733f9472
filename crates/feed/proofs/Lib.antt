-- The lemmas of the crate, each file after those that it uses.
mod Within
pub mod Summed
mod Pairs
