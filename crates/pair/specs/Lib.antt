-- The definitions of the crate, each file after those that it uses.
pub mod Fit
pub mod Size
pub mod Joined
pub mod Paired
pub mod Contents
pub mod Lawful
pub mod Fitting
pub mod Parts
