-- Recorded runs of greatest numbers of a served block with two workers and two servers, entry by entry, under three lists of choices.
use Rattle.std.specs.Prelude.{List, [], ◌∷◌, replicate, codes}
use Rattle.sial_worked.specs.Top.{top}
use Rattle.sip_model.specs.declared.entry.Entry.{Entry}
use Rattle.sip_model.specs.Legal.{AllDone}
use Rattle.machine_worked.specs.Records.{quiet, about, from, of_workers, Recorded}

-- its entries where each choice is 0
abbrev pub top_zeros : List Entry
top_zeros =
    quiet 2 0 1 0 0 ∷ quiet 2 0 7 0 0 ∷ quiet 2 0 1 1 0 ∷ quiet 2 0 7 1 0 ∷ quiet 2 0 20 0 255 ∷ quiet 2 0 20 1 255 ∷
    quiet 2 0 21 255 0 ∷ quiet 2 0 1 0 0 ∷ quiet 2 0 1 0 0 ∷ quiet 2 0 1 0 0 ∷ quiet 2 0 1 0 0 ∷ quiet 2 0 1 0 0 ∷
    about 2 0 4 0 0 2 0 ∷ quiet 3 0 1 0 0 ∷ quiet 3 0 7 0 0 ∷ quiet 3 0 21 255 1 ∷ quiet 3 0 1 1 0 ∷ quiet 3 0 1 1 0 ∷
    quiet 3 0 1 1 0 ∷ quiet 3 0 1 1 0 ∷ quiet 3 0 1 1 0 ∷ from 0 1 0 (about 3 0 4 1 0 2 0) ∷ quiet 4 0 1 1 0 ∷ quiet 4 0 7 1 0 ∷
    about 4 0 18 0 64 2 0 ∷ quiet 5 0 20 0 255 ∷ from 0 1 0 (about 5 0 18 1 64 2 0) ∷ quiet 5 0 20 1 255 ∷ quiet 5 0 19 64 0 ∷
    quiet 4 0 21 255 0 ∷ quiet 4 0 1 0 0 ∷ quiet 4 0 1 0 0 ∷ quiet 4 0 1 0 0 ∷ quiet 4 0 1 0 0 ∷ quiet 4 0 1 0 0 ∷
    from 0 2 0 (about 4 0 4 0 0 2 0) ∷ quiet 5 0 1 0 0 ∷ quiet 5 0 7 0 0 ∷ quiet 5 0 19 64 1 ∷ quiet 4 0 21 255 1 ∷ quiet 4 0 1 1 0 ∷
    quiet 4 0 1 1 0 ∷ quiet 4 0 1 1 0 ∷ quiet 4 0 1 1 0 ∷ quiet 4 0 1 1 0 ∷ from 0 3 0 (about 4 0 4 1 0 2 0) ∷ quiet 5 0 1 1 0 ∷
    quiet 5 0 7 1 0 ∷ from 0 2 0 (about 5 0 18 0 64 2 0) ∷ quiet 5 0 20 0 255 ∷ from 0 3 0 (about 5 0 18 1 64 2 0) ∷
    quiet 5 0 20 1 255 ∷ quiet 5 0 19 64 0 ∷ quiet 4 0 21 255 0 ∷ quiet 4 0 1 0 0 ∷ quiet 4 0 5 0 0 ∷ quiet 4 0 19 64 1 ∷
    quiet 3 0 21 255 1 ∷ quiet 3 0 1 1 0 ∷ quiet 3 0 5 1 0 ∷ quiet 3 0 22 0 255 ∷ quiet 2 0 22 1 255 ∷ quiet 3 0 23 255 0 ∷
    quiet 3 0 1 0 0 ∷ quiet 3 0 1 0 0 ∷ about 3 0 2 0 0 2 0 ∷ quiet 3 0 23 255 1 ∷ quiet 3 0 1 1 0 ∷ quiet 3 0 1 1 0 ∷
    about 3 0 2 1 0 2 0 ∷ about 3 0 16 0 64 2 0 ∷ about 3 0 16 1 64 2 0 ∷ about 3 0 17 64 0 2 0 ∷ quiet 3 0 1 0 0 ∷ quiet 3 0 1 0 0 ∷
    quiet 3 0 1 0 0 ∷ about 2 0 17 64 1 2 0 ∷ quiet 2 0 1 1 0 ∷ quiet 2 0 1 1 0 ∷ quiet 2 0 1 1 0 ∷ about 1 0 32 64 0 2 0 ∷ []

-- its entries where the choices are all 5
abbrev pub top_late : List Entry
top_late =
    quiet 2 1 1 1 0 ∷ quiet 2 1 7 1 0 ∷ quiet 2 1 20 1 255 ∷ quiet 2 1 21 255 1 ∷ quiet 2 1 1 1 0 ∷ quiet 2 1 1 1 0 ∷ quiet 2 1 1 1 0 ∷
    quiet 2 1 1 1 0 ∷ quiet 2 1 1 1 0 ∷ about 2 1 4 1 0 2 0 ∷ about 3 2 18 1 64 2 0 ∷ quiet 4 1 1 1 0 ∷ quiet 4 1 7 1 0 ∷
    quiet 4 1 19 64 1 ∷ about 3 2 32 64 0 2 0 ∷ quiet 2 1 20 1 255 ∷ quiet 2 1 21 255 1 ∷ quiet 2 1 1 1 0 ∷ quiet 2 1 1 1 0 ∷
    quiet 2 1 1 1 0 ∷ quiet 2 1 1 1 0 ∷ quiet 2 1 1 1 0 ∷ from 0 1 0 (about 2 1 4 1 0 2 0) ∷ from 0 1 0 (about 3 2 18 1 64 2 0) ∷
    quiet 4 1 1 1 0 ∷ quiet 4 1 7 1 0 ∷ quiet 4 1 19 64 1 ∷ about 3 2 32 64 0 2 0 ∷ quiet 2 1 20 1 255 ∷ quiet 2 1 21 255 1 ∷
    quiet 2 1 1 1 0 ∷ quiet 2 1 1 1 0 ∷ quiet 2 1 1 1 0 ∷ quiet 2 1 1 1 0 ∷ quiet 2 1 1 1 0 ∷ from 0 2 0 (about 2 1 4 1 0 2 0) ∷
    from 0 2 0 (about 3 2 18 1 64 2 0) ∷ quiet 4 1 1 1 0 ∷ quiet 4 1 7 1 0 ∷ quiet 4 1 19 64 1 ∷ about 3 2 32 64 0 2 0 ∷
    quiet 2 1 20 1 255 ∷ quiet 2 1 21 255 1 ∷ quiet 2 1 1 1 0 ∷ quiet 2 1 1 1 0 ∷ quiet 2 1 1 1 0 ∷ quiet 2 1 1 1 0 ∷ quiet 2 1 1 1 0 ∷
    from 0 3 0 (about 2 1 4 1 0 2 0) ∷ from 0 3 0 (about 3 2 18 1 64 2 0) ∷ quiet 4 1 1 1 0 ∷ quiet 4 1 7 1 0 ∷ quiet 4 1 19 64 1 ∷
    about 3 2 32 64 0 2 0 ∷ quiet 2 1 20 1 255 ∷ quiet 2 1 21 255 1 ∷ quiet 2 1 1 1 0 ∷ quiet 2 1 5 1 0 ∷ quiet 2 1 22 1 255 ∷
    quiet 1 0 1 0 0 ∷ quiet 1 0 7 0 0 ∷ quiet 1 0 20 0 255 ∷ quiet 1 0 21 255 0 ∷ quiet 1 0 1 0 0 ∷ quiet 1 0 5 0 0 ∷
    quiet 1 0 22 0 255 ∷ quiet 2 0 23 255 0 ∷ quiet 2 0 1 0 0 ∷ quiet 2 0 1 0 0 ∷ about 2 0 2 0 0 2 0 ∷ quiet 2 0 23 255 1 ∷
    quiet 2 0 1 1 0 ∷ quiet 2 0 1 1 0 ∷ about 2 0 2 1 0 2 0 ∷ about 2 0 16 0 64 2 0 ∷ about 2 0 16 1 64 2 0 ∷ about 2 0 17 64 0 2 0 ∷
    quiet 2 0 1 0 0 ∷ quiet 2 0 1 0 0 ∷ quiet 2 0 1 0 0 ∷ about 1 0 17 64 1 2 0 ∷ quiet 1 0 1 1 0 ∷ quiet 1 0 1 1 0 ∷ quiet 1 0 1 1 0 ∷ []

-- its entries where the choices are mixed
abbrev pub top_mixed : List Entry
top_mixed =
    quiet 2 1 1 1 0 ∷ quiet 2 0 1 0 0 ∷ quiet 2 0 7 0 0 ∷ quiet 2 1 20 0 255 ∷ quiet 2 1 21 255 0 ∷ quiet 2 1 7 1 0 ∷ quiet 2 0 1 0 0 ∷
    quiet 2 0 1 0 0 ∷ quiet 2 1 20 1 255 ∷ quiet 2 0 1 0 0 ∷ quiet 2 0 1 0 0 ∷ quiet 2 1 21 255 1 ∷ quiet 2 1 1 1 0 ∷ quiet 2 0 1 0 0 ∷
    quiet 2 1 1 1 0 ∷ about 2 0 4 0 0 2 0 ∷ about 3 2 18 0 64 2 0 ∷ quiet 4 1 1 1 0 ∷ quiet 4 0 1 0 0 ∷ quiet 4 0 7 0 0 ∷
    quiet 4 2 20 0 255 ∷ quiet 4 0 1 1 0 ∷ quiet 4 1 19 64 0 ∷ quiet 3 0 1 1 0 ∷ from 0 1 0 (about 3 0 4 1 0 2 0) ∷
    quiet 4 1 21 255 0 ∷ from 0 1 0 (about 4 2 18 1 64 2 0) ∷ about 4 3 32 64 0 2 0 ∷ quiet 3 1 1 1 0 ∷ quiet 3 0 1 0 0 ∷
    quiet 3 0 1 0 0 ∷ quiet 3 0 1 0 0 ∷ quiet 3 0 1 0 0 ∷ quiet 3 0 1 0 0 ∷ from 0 2 0 (about 3 0 4 0 0 2 0) ∷ quiet 4 0 1 0 0 ∷
    quiet 4 0 7 0 0 ∷ quiet 4 0 7 1 0 ∷ quiet 4 0 19 64 1 ∷ from 0 2 0 (about 3 0 18 0 64 2 0) ∷ quiet 4 0 20 0 255 ∷
    quiet 4 0 20 1 255 ∷ quiet 4 0 19 64 0 ∷ quiet 3 0 21 255 0 ∷ quiet 3 0 1 0 0 ∷ quiet 3 0 1 0 0 ∷ quiet 3 0 1 0 0 ∷
    quiet 3 0 1 0 0 ∷ quiet 3 0 1 0 0 ∷ from 0 3 0 (about 3 0 4 0 0 2 0) ∷ quiet 4 0 1 0 0 ∷ quiet 4 0 7 0 0 ∷ quiet 4 0 21 255 1 ∷
    quiet 4 0 1 1 0 ∷ quiet 4 0 5 1 0 ∷ from 0 3 0 (about 4 0 18 0 64 2 0) ∷ quiet 4 0 20 0 255 ∷ quiet 4 0 22 1 255 ∷
    quiet 3 0 19 64 0 ∷ quiet 2 0 21 255 0 ∷ quiet 2 0 1 0 0 ∷ quiet 2 0 5 0 0 ∷ quiet 2 0 22 0 255 ∷ quiet 3 0 23 255 0 ∷
    quiet 3 0 1 0 0 ∷ quiet 3 0 1 0 0 ∷ about 3 0 2 0 0 2 0 ∷ quiet 3 0 23 255 1 ∷ quiet 3 0 1 1 0 ∷ quiet 3 0 1 1 0 ∷
    about 3 0 2 1 0 2 0 ∷ about 3 0 16 0 64 2 0 ∷ about 3 0 16 1 64 2 0 ∷ about 3 0 17 64 0 2 0 ∷ quiet 3 0 1 0 0 ∷ quiet 3 0 1 0 0 ∷
    quiet 3 0 1 0 0 ∷ about 2 0 17 64 1 2 0 ∷ quiet 2 0 1 1 0 ∷ quiet 2 0 1 1 0 ∷ quiet 2 0 1 1 0 ∷ about 1 0 32 64 0 2 0 ∷ []

-- they come out of the definitions
pub record TopRecorded : Type 0 where
  pub zeros : Recorded top (record (of_workers 2) { servers = 2 })
      []
      top_zeros AllDone (codes "g 16" ∷ [])
  pub late : Recorded top (record (of_workers 2) { servers = 2 })
      (replicate 60 5)
      top_late AllDone (codes "g 16" ∷ [])
  pub mixed : Recorded top (record (of_workers 2) { servers = 2 })
      (1 ∷ 0 ∷ 2 ∷ 5 ∷ 3 ∷ 1 ∷ 4 ∷ 0 ∷ 7 ∷ 2 ∷ 2 ∷ 9 ∷ 1 ∷ 0 ∷ 3 ∷ 6 ∷ 5 ∷ 1 ∷ 8 ∷ 0 ∷ 2 ∷ 4 ∷ 1 ∷ 3 ∷ 0 ∷ 5 ∷ 2 ∷ 7 ∷ 1 ∷ 6 ∷ [])
      top_mixed AllDone (codes "g 16" ∷ [])
