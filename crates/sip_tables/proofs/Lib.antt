pub mod CodeLemmas
pub mod PlaceLemmas
pub mod Rebuilding
pub mod BodiesFound
pub mod OneProgram
