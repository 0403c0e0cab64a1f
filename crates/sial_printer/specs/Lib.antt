pub mod Spelling
pub mod Symbols
pub mod Lines
pub mod Parts
pub mod Placed
pub mod Relined
pub mod Unlined
pub mod Printed
