mod AskedLemmas
mod CompileLemmas
mod PerformLemmas
mod ReadLemmas
mod RunLemmas
mod SaysLemmas
mod TopLemmas
mod WroteLemmas
