pub mod CutLemmas
pub mod NamedLemmas
pub mod MatchLemmas
pub mod TurnLemmas
pub mod SlotLemmas
pub mod WidthLemmas
