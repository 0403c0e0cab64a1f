pub mod ListLemmas
pub mod ConditionLemmas
pub mod BreaksLemmas
pub mod FirstLemmas
pub mod WalkLemmas
