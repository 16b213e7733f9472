-- The definitions of the crate, each file after those that it uses.
pub mod Model
pub mod Holding
pub mod Bounds
pub mod Words
pub mod Changes
pub mod Examining
