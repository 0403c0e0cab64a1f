-- Each write along the course has as many elements as its block.
pub mod Flags
pub mod Iterations
pub mod Course
pub mod Epochs
pub mod Blocks
