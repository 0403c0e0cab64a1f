pub mod Characters
pub mod Pieces
pub mod Cut
pub mod Faults
pub mod Scanning
pub mod Reading
