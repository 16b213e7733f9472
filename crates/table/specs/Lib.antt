-- The definitions of the crate, each file after those that it uses.
pub mod Table
pub mod Binary
pub mod Contents
pub mod Passed
