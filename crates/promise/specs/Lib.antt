-- The definitions of the crate, each file after those that it uses.
pub mod Figures
pub mod Use
pub mod Held
pub mod Calls
pub mod Further
pub mod InForce
pub mod Rules
pub mod Honest
pub mod Promise
pub mod Shown
