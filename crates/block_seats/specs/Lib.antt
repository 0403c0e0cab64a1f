pub mod Seated
pub mod Counted
pub mod Leaving
pub mod Putting
