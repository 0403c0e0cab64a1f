pub mod Standing
pub mod Lent
pub mod Naming
pub mod Answers
pub mod Fitting
pub mod Made
