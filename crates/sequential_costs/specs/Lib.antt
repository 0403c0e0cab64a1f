pub mod Cuttings
pub mod Called
pub mod Over
pub mod FewSteps
