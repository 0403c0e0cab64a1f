pub mod Parts
pub mod Forms
pub mod Faults
pub mod Places
pub mod Laws
