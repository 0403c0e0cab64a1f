-- Reads of the blocks as they stood when the epoch began are reads of the present ones, up to the first refusal.
pub mod Clashes
pub mod Untouched
pub mod Fold
pub mod Statement
pub mod Steps
