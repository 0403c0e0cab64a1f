pub mod Given
pub mod Grants
pub mod Seen
pub mod Printing
