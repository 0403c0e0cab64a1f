pub mod LaidLemmas
pub mod MemoryLemmas
pub mod StoreLemmas
pub mod LentLemmas
