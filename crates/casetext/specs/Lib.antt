-- The definitions of the crate, each file after those that it uses; those of lines and values come from below.
pub use Rattle.fields.specs.Numbers
pub use Rattle.fields.specs.Lines
pub use Rattle.fields.specs.Readings
pub mod Case
pub mod Contents
