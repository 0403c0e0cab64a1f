pub mod Refused
pub mod Known
pub mod Breaks
pub mod Walk
