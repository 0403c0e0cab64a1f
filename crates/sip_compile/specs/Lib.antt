pub mod Filing
pub mod Compiling
