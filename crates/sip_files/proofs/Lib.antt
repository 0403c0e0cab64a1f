pub mod EntriesLemmas
pub mod FilesLemmas
pub mod SinkLemmas
pub mod StreamLemmas
pub mod WritingLemmas
