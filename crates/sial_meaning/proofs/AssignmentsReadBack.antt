-- What an assignment leaves in its target, by named positions.
pub mod Copies
pub mod Joins
pub mod GrantedJoins
pub mod Rows
pub mod Held
pub mod Places
pub mod Positions
pub mod Elements
