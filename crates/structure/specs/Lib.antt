-- The definitions of the crate, each file after those that it uses.
pub mod Refusals
pub mod Conditions
pub mod Shape
pub mod Questions
pub mod Order
pub mod Minimal
pub mod Listing
