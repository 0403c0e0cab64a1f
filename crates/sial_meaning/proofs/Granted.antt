-- What the rules and a sound setting give of a program, its indices and its blocks.
pub mod ClosedNames
pub mod Shapes
pub mod Rules
pub mod Segments
pub mod Visits
pub mod Sameness
pub mod Declared
pub mod Ranges
pub mod Runs
