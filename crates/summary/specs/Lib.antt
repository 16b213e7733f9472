-- The definitions of the crate, each file after those that it uses.
pub mod Lines
pub mod Uses
pub mod Reports
