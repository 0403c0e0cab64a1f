pub mod ReadingLemmas
pub mod RunLemmas
pub mod NumberLemmas
pub mod FrontLemmas
pub mod AgainLemmas
pub mod WholeLemmas
pub mod SpanLemmas
