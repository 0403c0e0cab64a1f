-- A pardo changes nothing of what steers a worker, and so do its iterations.
pub mod Changes
pub mod Statement
pub mod Fold
pub mod Calls
pub mod Bodies
pub mod OfTheCourse
