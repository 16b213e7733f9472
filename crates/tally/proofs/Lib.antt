-- The lemmas of the crate, each file after those that it uses.
pub mod Made
pub mod Pairs
pub mod Tallies
