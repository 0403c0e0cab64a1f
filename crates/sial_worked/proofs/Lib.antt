mod SoundLemmas
mod ProgramsRun
mod FeaturesRun
mod RulesAre
mod EpochsAre
mod CostsAre
mod BoundsHold
mod FaultsAreFound
