-- The definitions of the crate, each file after those that it uses.
pub mod Numbers
pub mod Lines
pub mod Readings
pub mod Results
