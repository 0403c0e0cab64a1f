pub mod TurnLemmas
mod AloneLemmas
