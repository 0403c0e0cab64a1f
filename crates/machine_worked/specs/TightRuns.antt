-- Recorded runs of four arrays that are read together with a cache of two blocks, entry by entry, under three lists of choices.
use Rattle.std.specs.Prelude.{List, [], ◌∷◌, replicate, codes}
use Rattle.sial_worked.specs.Tight.{tight}
use Rattle.sip_model.specs.declared.entry.Entry.{Entry}
use Rattle.sip_model.specs.Legal.{AllDone}
use Rattle.machine_worked.specs.Records.{quiet, about, dropping, of_workers, Recorded}

-- its entries where each choice is 0
abbrev pub tight_zeros : List Entry
tight_zeros =
    quiet 1 0 5 0 0 ∷ quiet 1 0 22 0 255 ∷ quiet 1 0 23 255 0 ∷ quiet 1 0 5 0 0 ∷ quiet 1 0 22 0 255 ∷ quiet 1 0 23 255 0 ∷
    quiet 1 0 5 0 0 ∷ quiet 1 0 22 0 255 ∷ quiet 1 0 23 255 0 ∷ quiet 1 0 5 0 0 ∷ quiet 1 0 22 0 255 ∷ quiet 1 0 23 255 0 ∷
    quiet 1 0 1 0 0 ∷ about 1 0 3 0 0 1 0 ∷ about 2 0 3 0 0 1 1 ∷ about 2 0 16 0 0 1 0 ∷ about 2 0 16 0 0 1 1 ∷ about 2 0 17 0 0 1 0 ∷
    dropping 0 (about 2 0 2 0 0 1 2) ∷ about 2 0 17 0 0 1 1 ∷ dropping 1 (about 2 0 2 0 0 1 3) ∷ about 2 0 16 0 0 1 2 ∷
    about 2 0 16 0 0 1 3 ∷ about 2 0 17 0 0 1 2 ∷ about 1 0 17 0 0 1 3 ∷ quiet 1 0 1 0 0 ∷ quiet 1 0 1 0 0 ∷ quiet 1 0 1 0 0 ∷ []

-- its entries where the choices are all 5
abbrev pub tight_late : List Entry
tight_late =
    quiet 1 0 5 0 0 ∷ quiet 1 0 22 0 255 ∷ quiet 1 0 23 255 0 ∷ quiet 1 0 5 0 0 ∷ quiet 1 0 22 0 255 ∷ quiet 1 0 23 255 0 ∷
    quiet 1 0 5 0 0 ∷ quiet 1 0 22 0 255 ∷ quiet 1 0 23 255 0 ∷ quiet 1 0 5 0 0 ∷ quiet 1 0 22 0 255 ∷ quiet 1 0 23 255 0 ∷
    quiet 1 0 1 0 0 ∷ about 1 0 3 0 0 1 0 ∷ about 2 1 16 0 0 1 0 ∷ about 2 1 17 0 0 1 0 ∷ about 1 0 3 0 0 1 1 ∷ about 2 1 16 0 0 1 1 ∷
    about 2 1 17 0 0 1 1 ∷ dropping 0 (about 1 0 2 0 0 1 2) ∷ about 2 1 16 0 0 1 2 ∷ about 2 1 17 0 0 1 2 ∷
    dropping 1 (about 1 0 2 0 0 1 3) ∷ about 1 0 16 0 0 1 3 ∷ about 1 0 17 0 0 1 3 ∷ quiet 1 0 1 0 0 ∷ quiet 1 0 1 0 0 ∷
    quiet 1 0 1 0 0 ∷ []

-- its entries where the choices are mixed
abbrev pub tight_mixed : List Entry
tight_mixed =
    quiet 1 0 5 0 0 ∷ quiet 1 0 22 0 255 ∷ quiet 1 0 23 255 0 ∷ quiet 1 0 5 0 0 ∷ quiet 1 0 22 0 255 ∷ quiet 1 0 23 255 0 ∷
    quiet 1 0 5 0 0 ∷ quiet 1 0 22 0 255 ∷ quiet 1 0 23 255 0 ∷ quiet 1 0 5 0 0 ∷ quiet 1 0 22 0 255 ∷ quiet 1 0 23 255 0 ∷
    quiet 1 0 1 0 0 ∷ about 1 0 3 0 0 1 0 ∷ about 2 1 16 0 0 1 0 ∷ about 2 0 3 0 0 1 1 ∷ about 2 1 16 0 0 1 1 ∷ about 2 1 17 0 0 1 1 ∷
    dropping 1 (about 2 0 2 0 0 1 2) ∷ about 2 0 17 0 0 1 0 ∷ dropping 0 (about 2 0 2 0 0 1 3) ∷ about 2 0 16 0 0 1 2 ∷
    about 2 1 17 0 0 1 2 ∷ about 1 0 16 0 0 1 3 ∷ about 1 0 17 0 0 1 3 ∷ quiet 1 0 1 0 0 ∷ quiet 1 0 1 0 0 ∷ quiet 1 0 1 0 0 ∷ []

-- they come out of the definitions
pub record TightRecorded : Type 0 where
  pub zeros : Recorded tight (record (of_workers 1) { cache = 2 })
      []
      tight_zeros AllDone (codes "s 0" ∷ [])
  pub late : Recorded tight (record (of_workers 1) { cache = 2 })
      (replicate 28 5)
      tight_late AllDone (codes "s 0" ∷ [])
  pub mixed : Recorded tight (record (of_workers 1) { cache = 2 })
      (1 ∷ 0 ∷ 2 ∷ 5 ∷ 3 ∷ 1 ∷ 4 ∷ 0 ∷ 7 ∷ 2 ∷ 2 ∷ 9 ∷ 1 ∷ 0 ∷ 3 ∷ 6 ∷ 5 ∷ 1 ∷ 8 ∷ 0 ∷ 2 ∷ 4 ∷ 1 ∷ 3 ∷ 0 ∷ 5 ∷ 2 ∷ 7 ∷ [])
      tight_mixed AllDone (codes "s 0" ∷ [])
