-- The definitions of the crate, each file after those that it uses.
pub mod Places
pub mod Kept
pub mod Model
