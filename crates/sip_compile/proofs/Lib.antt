mod FilingLemmas
mod CompilingLemmas
