-- Recorded runs of an array that is created again with two workers, entry by entry, under three lists of choices.
use Rattle.std.specs.Prelude.{List, [], ◌∷◌, replicate}
use Rattle.sial_worked.specs.Again.{again}
use Rattle.sip_model.specs.declared.entry.Entry.{Entry}
use Rattle.sip_model.specs.Legal.{AllDone}
use Rattle.machine_worked.specs.Records.{quiet, about, from, of_workers, Recorded}

-- its entries where each choice is 0
abbrev pub again_zeros : List Entry
again_zeros =
    quiet 2 0 5 0 0 ∷ quiet 2 0 5 1 0 ∷ quiet 2 0 22 0 255 ∷ quiet 1 0 22 1 255 ∷ quiet 2 0 23 255 0 ∷ quiet 2 0 1 0 0 ∷
    quiet 2 0 7 0 0 ∷ quiet 2 0 23 255 1 ∷ quiet 2 0 1 1 0 ∷ quiet 2 0 7 1 0 ∷ quiet 2 0 20 0 255 ∷ quiet 2 0 20 1 255 ∷
    quiet 2 0 21 255 0 ∷ quiet 2 0 1 0 0 ∷ quiet 2 0 1 0 0 ∷ about 2 0 4 0 0 1 0 ∷ quiet 3 0 7 0 0 ∷ quiet 3 0 21 255 1 ∷
    quiet 3 0 1 1 0 ∷ quiet 3 0 5 1 0 ∷ about 3 0 18 0 0 1 0 ∷ quiet 3 0 20 0 255 ∷ quiet 3 0 22 1 255 ∷ quiet 2 0 19 0 0 ∷
    quiet 1 0 21 255 0 ∷ quiet 1 0 1 0 0 ∷ quiet 1 0 5 0 0 ∷ quiet 1 0 22 0 255 ∷ quiet 2 0 23 255 0 ∷ quiet 2 0 5 0 0 ∷
    quiet 2 0 23 255 1 ∷ quiet 2 0 5 1 0 ∷ quiet 2 0 22 0 255 ∷ quiet 1 0 22 1 255 ∷ quiet 2 0 23 255 0 ∷ quiet 2 0 1 0 0 ∷
    quiet 2 0 7 0 0 ∷ quiet 2 0 23 255 1 ∷ quiet 2 0 1 1 0 ∷ quiet 2 0 7 1 0 ∷ quiet 2 0 20 0 255 ∷ quiet 2 0 20 1 255 ∷
    quiet 2 0 21 255 0 ∷ quiet 2 0 1 0 0 ∷ quiet 2 0 1 0 0 ∷ from 1 0 0 (about 2 0 4 0 0 1 0) ∷ quiet 3 0 7 0 0 ∷ quiet 3 0 21 255 1 ∷
    quiet 3 0 1 1 0 ∷ from 1 0 0 (about 2 0 18 0 0 1 0) ∷ quiet 2 0 20 0 255 ∷ quiet 2 0 19 0 0 ∷ quiet 1 0 21 255 0 ∷
    quiet 1 0 1 0 0 ∷ []

-- its entries where the choices are all 5
abbrev pub again_late : List Entry
again_late =
    quiet 2 1 5 1 0 ∷ quiet 2 1 22 1 255 ∷ quiet 1 0 5 0 0 ∷ quiet 1 0 22 0 255 ∷ quiet 2 1 23 255 1 ∷ quiet 2 1 23 255 0 ∷
    quiet 2 1 1 1 0 ∷ quiet 2 1 7 1 0 ∷ quiet 2 1 20 1 255 ∷ quiet 2 1 21 255 1 ∷ quiet 2 1 1 1 0 ∷ quiet 2 1 1 1 0 ∷
    about 2 1 4 1 0 1 0 ∷ about 3 2 18 1 0 1 0 ∷ quiet 3 2 19 0 1 ∷ quiet 2 1 7 1 0 ∷ quiet 2 1 20 1 255 ∷ quiet 2 1 21 255 1 ∷
    quiet 2 1 1 1 0 ∷ quiet 2 1 5 1 0 ∷ quiet 2 1 22 1 255 ∷ quiet 1 0 1 0 0 ∷ quiet 1 0 7 0 0 ∷ quiet 1 0 20 0 255 ∷
    quiet 1 0 21 255 0 ∷ quiet 1 0 1 0 0 ∷ quiet 1 0 5 0 0 ∷ quiet 1 0 22 0 255 ∷ quiet 2 1 23 255 1 ∷ quiet 2 1 23 255 0 ∷
    quiet 2 1 5 1 0 ∷ quiet 2 1 22 1 255 ∷ quiet 1 0 5 0 0 ∷ quiet 1 0 22 0 255 ∷ quiet 2 1 23 255 1 ∷ quiet 2 1 23 255 0 ∷
    quiet 2 1 1 1 0 ∷ quiet 2 1 7 1 0 ∷ quiet 2 1 20 1 255 ∷ quiet 2 1 21 255 1 ∷ quiet 2 1 1 1 0 ∷ quiet 2 1 1 1 0 ∷
    from 1 0 0 (about 2 1 4 1 0 1 0) ∷ from 1 0 0 (about 3 2 18 1 0 1 0) ∷ quiet 3 2 19 0 1 ∷ quiet 2 1 7 1 0 ∷ quiet 2 1 20 1 255 ∷
    quiet 2 1 21 255 1 ∷ quiet 2 1 1 1 0 ∷ quiet 1 0 1 0 0 ∷ quiet 1 0 7 0 0 ∷ quiet 1 0 20 0 255 ∷ quiet 1 0 21 255 0 ∷
    quiet 1 0 1 0 0 ∷ []

-- its entries where the choices are mixed
abbrev pub again_mixed : List Entry
again_mixed =
    quiet 2 1 5 1 0 ∷ quiet 2 0 5 0 0 ∷ quiet 2 0 22 1 255 ∷ quiet 1 0 22 0 255 ∷ quiet 2 1 23 255 1 ∷ quiet 2 1 23 255 0 ∷
    quiet 2 0 1 0 0 ∷ quiet 2 0 7 0 0 ∷ quiet 2 1 20 0 255 ∷ quiet 2 0 1 1 0 ∷ quiet 2 0 7 1 0 ∷ quiet 2 1 20 1 255 ∷
    quiet 2 1 21 255 1 ∷ quiet 2 0 1 1 0 ∷ quiet 2 1 21 255 0 ∷ quiet 2 0 1 0 0 ∷ quiet 2 1 5 1 0 ∷ quiet 2 1 22 1 255 ∷
    quiet 1 0 1 0 0 ∷ about 1 0 4 0 0 1 0 ∷ quiet 2 0 7 0 0 ∷ about 2 0 18 0 0 1 0 ∷ quiet 2 1 19 0 0 ∷ quiet 1 0 20 0 255 ∷
    quiet 1 0 21 255 0 ∷ quiet 1 0 1 0 0 ∷ quiet 1 0 5 0 0 ∷ quiet 1 0 22 0 255 ∷ quiet 2 1 23 255 1 ∷ quiet 2 0 5 1 0 ∷
    quiet 2 0 23 255 0 ∷ quiet 2 0 5 0 0 ∷ quiet 2 0 22 1 255 ∷ quiet 1 0 22 0 255 ∷ quiet 2 0 23 255 0 ∷ quiet 2 0 1 0 0 ∷
    quiet 2 0 7 0 0 ∷ quiet 2 0 23 255 1 ∷ quiet 2 0 1 1 0 ∷ quiet 2 0 7 1 0 ∷ quiet 2 0 20 0 255 ∷ quiet 2 0 20 1 255 ∷
    quiet 2 0 21 255 0 ∷ quiet 2 0 1 0 0 ∷ quiet 2 0 1 0 0 ∷ from 1 0 0 (about 2 0 4 0 0 1 0) ∷ quiet 3 0 7 0 0 ∷ quiet 3 0 21 255 1 ∷
    quiet 3 0 1 1 0 ∷ from 1 0 0 (about 2 0 18 0 0 1 0) ∷ quiet 2 0 20 0 255 ∷ quiet 2 0 19 0 0 ∷ quiet 1 0 21 255 0 ∷
    quiet 1 0 1 0 0 ∷ []

-- they come out of the definitions
pub record AgainRecorded : Type 0 where
  pub zeros : Recorded again (of_workers 2)
      []
      again_zeros AllDone []
  pub late : Recorded again (of_workers 2)
      (replicate 54 5)
      again_late AllDone []
  pub mixed : Recorded again (of_workers 2)
      (1 ∷ 0 ∷ 2 ∷ 5 ∷ 3 ∷ 1 ∷ 4 ∷ 0 ∷ 7 ∷ 2 ∷ 2 ∷ 9 ∷ 1 ∷ 0 ∷ 3 ∷ 6 ∷ 5 ∷ 1 ∷ 8 ∷ 0 ∷ 2 ∷ 4 ∷ 1 ∷ 3 ∷ 0 ∷ 5 ∷ 2 ∷ 7 ∷ 1 ∷ 6 ∷ [])
      again_mixed AllDone []
