-- The definitions of the crate.
pub mod Radio
pub mod Lawful
