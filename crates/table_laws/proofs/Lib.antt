pub mod Proving
pub mod CodeFits
pub mod TextsFit
pub mod Counts
pub mod WholeFits
