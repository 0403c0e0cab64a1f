-- In every state that steps reach, each block has as many elements as positions.
pub mod Blocks
pub mod OwnLengths
pub mod Statements
pub mod Effects
pub mod Created
pub mod Start
pub mod Rest
pub mod Bound
pub mod Steps
pub mod Maps
