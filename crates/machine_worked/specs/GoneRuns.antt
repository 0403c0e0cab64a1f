-- Recorded runs of an array that is read and deleted with two workers, entry by entry, under three lists of choices.
use Rattle.std.specs.Prelude.{List, [], ◌∷◌, replicate}
use Rattle.sial_worked.specs.Gone.{gone}
use Rattle.sip_model.specs.declared.entry.Entry.{Entry}
use Rattle.sip_model.specs.Legal.{AllDone}
use Rattle.machine_worked.specs.Records.{quiet, about, of_workers, Recorded}

-- its entries where each choice is 0
abbrev pub gone_zeros : List Entry
gone_zeros =
    quiet 2 0 5 0 0 ∷ quiet 2 0 5 1 0 ∷ quiet 2 0 22 0 255 ∷ quiet 1 0 22 1 255 ∷ quiet 2 0 23 255 0 ∷ quiet 2 0 1 0 0 ∷
    quiet 2 0 7 0 0 ∷ quiet 2 0 23 255 1 ∷ quiet 2 0 1 1 0 ∷ quiet 2 0 7 1 0 ∷ quiet 2 0 20 0 255 ∷ quiet 2 0 20 1 255 ∷
    quiet 2 0 21 255 0 ∷ quiet 2 0 1 0 0 ∷ about 2 0 3 0 0 1 0 ∷ quiet 2 0 21 255 1 ∷ quiet 2 0 1 1 0 ∷ about 2 0 3 1 0 1 1 ∷
    about 2 0 16 0 0 1 0 ∷ about 2 0 16 1 1 1 1 ∷ about 2 0 17 0 0 1 0 ∷ quiet 2 0 1 0 0 ∷ quiet 2 0 7 0 0 ∷ about 2 0 17 1 1 1 1 ∷
    quiet 2 0 1 1 0 ∷ quiet 2 0 7 1 0 ∷ quiet 2 0 20 0 255 ∷ quiet 2 0 20 1 255 ∷ quiet 2 0 21 255 0 ∷ quiet 2 0 1 0 0 ∷
    quiet 2 0 5 0 0 ∷ quiet 2 0 21 255 1 ∷ quiet 2 0 1 1 0 ∷ quiet 2 0 5 1 0 ∷ quiet 2 0 22 0 255 ∷ quiet 1 0 22 1 255 ∷
    quiet 2 0 23 255 0 ∷ quiet 1 0 23 255 1 ∷ []

-- its entries where the choices are all 5
abbrev pub gone_late : List Entry
gone_late =
    quiet 2 1 5 1 0 ∷ quiet 2 1 22 1 255 ∷ quiet 1 0 5 0 0 ∷ quiet 1 0 22 0 255 ∷ quiet 2 1 23 255 1 ∷ quiet 2 1 23 255 0 ∷
    quiet 2 1 1 1 0 ∷ quiet 2 1 7 1 0 ∷ quiet 2 1 20 1 255 ∷ quiet 2 1 21 255 1 ∷ quiet 2 1 1 1 0 ∷ about 2 1 3 1 0 1 0 ∷
    about 2 1 16 1 0 1 0 ∷ about 2 1 17 0 1 1 0 ∷ quiet 2 1 1 1 0 ∷ quiet 2 1 7 1 0 ∷ quiet 2 1 20 1 255 ∷ quiet 2 1 21 255 1 ∷
    quiet 2 1 1 1 0 ∷ about 2 1 3 1 0 1 1 ∷ about 2 1 16 1 1 1 1 ∷ about 2 1 17 1 1 1 1 ∷ quiet 2 1 1 1 0 ∷ quiet 2 1 7 1 0 ∷
    quiet 2 1 20 1 255 ∷ quiet 2 1 21 255 1 ∷ quiet 2 1 1 1 0 ∷ quiet 2 1 5 1 0 ∷ quiet 2 1 22 1 255 ∷ quiet 1 0 1 0 0 ∷
    quiet 1 0 7 0 0 ∷ quiet 1 0 20 0 255 ∷ quiet 1 0 21 255 0 ∷ quiet 1 0 1 0 0 ∷ quiet 1 0 5 0 0 ∷ quiet 1 0 22 0 255 ∷
    quiet 2 1 23 255 1 ∷ quiet 1 0 23 255 0 ∷ []

-- its entries where the choices are mixed
abbrev pub gone_mixed : List Entry
gone_mixed =
    quiet 2 1 5 1 0 ∷ quiet 2 0 5 0 0 ∷ quiet 2 0 22 1 255 ∷ quiet 1 0 22 0 255 ∷ quiet 2 1 23 255 1 ∷ quiet 2 1 23 255 0 ∷
    quiet 2 0 1 0 0 ∷ quiet 2 0 7 0 0 ∷ quiet 2 1 20 0 255 ∷ quiet 2 0 1 1 0 ∷ quiet 2 0 7 1 0 ∷ quiet 2 1 20 1 255 ∷
    quiet 2 1 21 255 1 ∷ quiet 2 0 1 1 0 ∷ quiet 2 1 21 255 0 ∷ quiet 2 0 1 0 0 ∷ about 2 1 3 1 0 1 1 ∷ about 2 1 16 1 1 1 1 ∷
    about 2 0 3 0 0 1 0 ∷ about 2 0 17 1 1 1 1 ∷ quiet 2 0 1 1 0 ∷ quiet 2 0 7 1 0 ∷ quiet 2 1 20 1 255 ∷ quiet 2 1 21 255 1 ∷
    quiet 2 0 1 1 0 ∷ about 2 1 16 0 0 1 0 ∷ quiet 2 0 5 1 0 ∷ quiet 2 1 22 1 255 ∷ about 1 0 17 0 0 1 0 ∷ quiet 1 0 1 0 0 ∷
    quiet 1 0 7 0 0 ∷ quiet 1 0 20 0 255 ∷ quiet 1 0 21 255 0 ∷ quiet 1 0 1 0 0 ∷ quiet 1 0 5 0 0 ∷ quiet 1 0 22 0 255 ∷
    quiet 2 0 23 255 0 ∷ quiet 1 0 23 255 1 ∷ []

-- they come out of the definitions
pub record GoneRecorded : Type 0 where
  pub zeros : Recorded gone (of_workers 2)
      []
      gone_zeros AllDone []
  pub late : Recorded gone (of_workers 2)
      (replicate 38 5)
      gone_late AllDone []
  pub mixed : Recorded gone (of_workers 2)
      (1 ∷ 0 ∷ 2 ∷ 5 ∷ 3 ∷ 1 ∷ 4 ∷ 0 ∷ 7 ∷ 2 ∷ 2 ∷ 9 ∷ 1 ∷ 0 ∷ 3 ∷ 6 ∷ 5 ∷ 1 ∷ 8 ∷ 0 ∷ 2 ∷ 4 ∷ 1 ∷ 3 ∷ 0 ∷ 5 ∷ 2 ∷ 7 ∷ 1 ∷ 6 ∷ [])
      gone_mixed AllDone []
