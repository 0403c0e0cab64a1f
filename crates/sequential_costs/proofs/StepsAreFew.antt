-- Each step lowers what the rest of the work still owes, from the number of steps on.
pub mod Uncapped
pub mod Owed
pub mod Pieces
pub mod Control
pub mod Step
pub mod Ends
