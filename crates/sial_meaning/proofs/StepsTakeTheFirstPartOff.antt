-- Along an iteration, a step takes the first part of what is still to come off.
pub mod Stands
pub mod Step
pub mod Walk
pub mod End
