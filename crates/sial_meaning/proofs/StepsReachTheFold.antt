-- Steps of the rest of the work lead where the fold over the tree leads.
pub mod Asked
pub mod Steps
pub mod BoundNumbers
pub mod Fold
pub mod KeptNumbers
pub mod Rules
pub mod Turns
