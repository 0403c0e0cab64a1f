pub mod GrownLemmas
pub mod ProgramLemmas
pub mod NameLemmas
