pub mod MeetLemmas
pub mod SetLemmas
pub mod StandLemmas
pub mod NumberLemmas
pub mod FlatLemmas
pub mod StartLemmas
pub mod BeginLemmas
pub mod ZeroLemmas
