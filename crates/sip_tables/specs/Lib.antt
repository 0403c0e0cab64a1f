pub mod Lists
pub mod Texts
pub mod Entries
pub mod Code
pub mod Flatten
pub mod Places
pub mod PlaceLaws
pub mod UniqueLaws
