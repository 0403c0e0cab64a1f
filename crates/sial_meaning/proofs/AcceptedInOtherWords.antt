-- The pairs of a log, its counts, its marks and its first refusal say the same.
pub mod Pairs
pub mod Counts
pub mod Refusals
pub mod Marks
pub mod EpochOrder
