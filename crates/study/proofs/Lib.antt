-- The lemmas of the crate, each file after those that it uses.
mod Carrying
mod Opening
mod FromTallies
mod Digits
mod Near
mod Examined
mod Steps
