-- In every state that steps reach, each number is below 2^64.
pub mod Lists
pub mod Statements
pub mod Start
pub mod Steps
