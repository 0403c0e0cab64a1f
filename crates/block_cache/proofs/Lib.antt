pub mod RecencyLemmas
pub mod DistinctLemmas
pub mod FitsLemmas
