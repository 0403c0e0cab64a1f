-- Recorded runs of a barrier alone with two workers, entry by entry, under three lists of choices.
use Rattle.std.specs.Prelude.{List, [], ◌∷◌, replicate}
use Rattle.sial_worked.specs.Barrier.{barrier}
use Rattle.sip_model.specs.declared.entry.Entry.{Entry}
use Rattle.sip_model.specs.Legal.{AllDone}
use Rattle.machine_worked.specs.Records.{quiet, of_workers, Recorded}

-- its entries where each choice is 0
abbrev pub barrier_zeros : List Entry
barrier_zeros =
    quiet 2 0 5 0 0 ∷ quiet 2 0 5 1 0 ∷ quiet 2 0 22 0 255 ∷ quiet 1 0 22 1 255 ∷ quiet 2 0 23 255 0 ∷ quiet 1 0 23 255 1 ∷ []

-- its entries where the choices are all 5
abbrev pub barrier_late : List Entry
barrier_late =
    quiet 2 1 5 1 0 ∷ quiet 2 1 22 1 255 ∷ quiet 1 0 5 0 0 ∷ quiet 1 0 22 0 255 ∷ quiet 2 1 23 255 1 ∷ quiet 1 0 23 255 0 ∷ []

-- its entries where the choices are mixed
abbrev pub barrier_mixed : List Entry
barrier_mixed =
    quiet 2 1 5 1 0 ∷ quiet 2 0 5 0 0 ∷ quiet 2 0 22 1 255 ∷ quiet 1 0 22 0 255 ∷ quiet 2 1 23 255 1 ∷ quiet 1 0 23 255 0 ∷ []

-- they come out of the definitions
pub record BarrierRecorded : Type 0 where
  pub zeros : Recorded barrier (of_workers 2)
      []
      barrier_zeros AllDone []
  pub late : Recorded barrier (of_workers 2)
      (replicate 6 5)
      barrier_late AllDone []
  pub mixed : Recorded barrier (of_workers 2)
      (1 ∷ 0 ∷ 2 ∷ 5 ∷ 3 ∷ 1 ∷ [])
      barrier_mixed AllDone []
