pub mod Contraction
pub mod Positions
pub mod Sum
pub mod Product
pub mod Order
pub mod Walks
pub mod Parts
pub mod Panels
