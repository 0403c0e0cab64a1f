-- The number of a partial scalar is the sum of the additions behind its last reset.
pub mod Additions
pub mod Statements
pub mod Resets
pub mod OnlyAdded
