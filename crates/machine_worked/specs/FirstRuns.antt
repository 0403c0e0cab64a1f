-- Recorded runs of a loop over static blocks with one worker, entry by entry, under three lists of choices.
use Rattle.std.specs.Prelude.{List, [], ◌∷◌, replicate, codes}
use Rattle.sial_worked.specs.First.{first}
use Rattle.sip_model.specs.declared.entry.Entry.{Entry}
use Rattle.sip_model.specs.Legal.{AllDone}
use Rattle.machine_worked.specs.Records.{quiet, of_workers, Recorded}

-- its entries where each choice is 0
abbrev pub first_zeros : List Entry
first_zeros =
    quiet 1 0 1 0 0 ∷ quiet 1 0 1 0 0 ∷ quiet 1 0 1 0 0 ∷ quiet 1 0 1 0 0 ∷ quiet 1 0 1 0 0 ∷ quiet 1 0 1 0 0 ∷ quiet 1 0 1 0 0 ∷
    quiet 1 0 1 0 0 ∷ quiet 1 0 1 0 0 ∷ quiet 1 0 1 0 0 ∷ quiet 1 0 1 0 0 ∷ []

-- its entries where the choices are all 5
abbrev pub first_late : List Entry
first_late =
    quiet 1 0 1 0 0 ∷ quiet 1 0 1 0 0 ∷ quiet 1 0 1 0 0 ∷ quiet 1 0 1 0 0 ∷ quiet 1 0 1 0 0 ∷ quiet 1 0 1 0 0 ∷ quiet 1 0 1 0 0 ∷
    quiet 1 0 1 0 0 ∷ quiet 1 0 1 0 0 ∷ quiet 1 0 1 0 0 ∷ quiet 1 0 1 0 0 ∷ []

-- its entries where the choices are mixed
abbrev pub first_mixed : List Entry
first_mixed =
    quiet 1 0 1 0 0 ∷ quiet 1 0 1 0 0 ∷ quiet 1 0 1 0 0 ∷ quiet 1 0 1 0 0 ∷ quiet 1 0 1 0 0 ∷ quiet 1 0 1 0 0 ∷ quiet 1 0 1 0 0 ∷
    quiet 1 0 1 0 0 ∷ quiet 1 0 1 0 0 ∷ quiet 1 0 1 0 0 ∷ quiet 1 0 1 0 0 ∷ []

-- they come out of the definitions
pub record FirstRecorded : Type 0 where
  pub zeros : Recorded first (of_workers 1)
      []
      first_zeros AllDone (codes "s 72" ∷ codes "s 36" ∷ [])
  pub late : Recorded first (of_workers 1)
      (replicate 11 5)
      first_late AllDone (codes "s 72" ∷ codes "s 36" ∷ [])
  pub mixed : Recorded first (of_workers 1)
      (1 ∷ 0 ∷ 2 ∷ 5 ∷ 3 ∷ 1 ∷ 4 ∷ 0 ∷ 7 ∷ 2 ∷ 2 ∷ [])
      first_mixed AllDone (codes "s 72" ∷ codes "s 36" ∷ [])
