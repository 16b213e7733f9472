-- The lemmas of the crate.
pub mod Digits
pub mod Fronts
pub mod Pieces
pub mod Errors
