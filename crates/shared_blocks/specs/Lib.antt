pub mod Standing
pub mod Lengths
pub mod Starting
pub mod Laws
