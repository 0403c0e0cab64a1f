-- The course comes to the end, or to the first trap, of the fold.
pub mod Stand
pub mod Depth
pub mod Rest
pub mod Fit
pub mod Pardos
pub mod Steps
pub mod Walk
