-- The definitions of the crate, each file after those that it uses.
pub mod Few
pub mod Feed
pub mod Binary
pub mod Contents
pub mod Passed
pub mod Weighted
pub mod Reached
pub mod Ascending
