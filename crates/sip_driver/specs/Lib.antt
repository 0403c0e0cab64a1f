pub mod Headline
pub mod Asked
pub mod Prints
pub mod Kinds
pub mod Says
pub mod Performed
pub mod Seen
