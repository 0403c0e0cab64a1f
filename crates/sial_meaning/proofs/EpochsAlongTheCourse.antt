-- Epochs, copies and counts at the points of the course.
pub mod Steps
pub mod Points
pub mod Deeds
