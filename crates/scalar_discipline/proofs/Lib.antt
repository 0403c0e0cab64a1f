pub mod LineLemmas
pub mod ListLemmas
pub mod CallListLemmas
pub mod DepthRoundLemmas
pub mod ReachRoundLemmas
pub mod CallDepthLemmas
pub mod HandLemmas
pub mod SideRoundLemmas
pub mod DeedLemmas
pub mod AllLemmas
pub mod JudgeLemmas
pub mod FirstLemmas
pub mod ToldLemmas
pub mod MixLemmas
pub mod ClassifyLemmas
mod DistinctLemmas
