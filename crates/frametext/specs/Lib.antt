-- The definitions of the crate.
pub mod Frame
