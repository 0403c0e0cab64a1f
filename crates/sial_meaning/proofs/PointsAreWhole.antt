-- Each point of the course is whole and has numbers alone, behind noted traps too.
pub mod Whole
pub mod Numbers
