pub mod Names
pub mod Sources
pub mod Programs
pub mod Syntax
pub mod Granting
pub mod Loads
pub mod Refusals
pub mod Ruled
