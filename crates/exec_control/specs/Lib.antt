pub mod Bindings
pub mod Position
pub mod Depth
pub mod Stands
pub mod Needs
pub mod Moves
