pub mod Turns
pub mod Alone
pub mod Laws
