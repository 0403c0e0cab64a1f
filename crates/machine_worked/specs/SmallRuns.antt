-- Recorded runs of two pardos and a collected sum with three workers, a cache of two blocks and one put,
-- entry by entry, under three lists of choices.
use Rattle.std.specs.Prelude.{ℕ, List, [], ◌∷◌, replicate, codes}
use Rattle.sial_worked.specs.Small.{small}
use Rattle.sip_model.specs.declared.entry.Entry.{Entry}
use Rattle.sip_model.specs.declared.options.Options.{Options}
use Rattle.sip_model.specs.Legal.{AllDone}
use Rattle.machine_worked.specs.Records.{quiet, about, dropping, from, of_workers, Recorded}

-- three workers that cache two blocks and have one put under way
abbrev pub three_tight : Options
three_tight = record (of_workers 3) { cache = 2; puts = 1 }

-- what is printed
abbrev pub small_lines : List (List ℕ)
small_lines = codes "s 51" ∷ codes "s 84" ∷ codes "s 60" ∷ codes "s 99" ∷ codes "e 23058" ∷ []

-- its entries where each choice is 0
abbrev pub small_zeros : List Entry
small_zeros =
    quiet 3 0 5 0 0 ∷ quiet 3 0 5 1 0 ∷ quiet 3 0 5 2 0 ∷ quiet 3 0 22 0 255 ∷ quiet 2 0 22 1 255 ∷ quiet 1 0 22 2 255 ∷
    quiet 3 0 23 255 0 ∷ quiet 3 0 5 0 0 ∷ quiet 3 0 23 255 1 ∷ quiet 3 0 5 1 0 ∷ quiet 3 0 23 255 2 ∷ quiet 3 0 5 2 0 ∷
    quiet 3 0 22 0 255 ∷ quiet 2 0 22 1 255 ∷ quiet 1 0 22 2 255 ∷ quiet 3 0 23 255 0 ∷ quiet 3 0 1 0 0 ∷ quiet 3 0 7 0 0 ∷
    quiet 3 0 23 255 1 ∷ quiet 3 0 1 1 0 ∷ quiet 3 0 7 1 0 ∷ quiet 3 0 23 255 2 ∷ quiet 3 0 1 2 0 ∷ quiet 3 0 7 2 0 ∷
    quiet 3 0 20 0 255 ∷ quiet 3 0 20 1 255 ∷ quiet 3 0 20 2 255 ∷ quiet 3 0 21 255 0 ∷ quiet 3 0 1 0 0 ∷ quiet 3 0 1 0 0 ∷
    about 3 0 4 0 0 1 0 ∷ quiet 4 0 7 0 0 ∷ quiet 4 0 21 255 1 ∷ quiet 4 0 1 1 0 ∷ quiet 4 0 1 1 0 ∷ from 0 1 0 (about 4 0 4 1 0 1 1) ∷
    quiet 5 0 7 1 0 ∷ quiet 5 0 21 255 2 ∷ quiet 5 0 1 2 0 ∷ quiet 5 0 1 2 0 ∷ from 0 2 0 (about 5 0 4 2 0 1 2) ∷ quiet 6 0 7 2 0 ∷
    about 6 0 18 0 0 1 0 ∷ quiet 6 0 20 0 255 ∷ from 0 1 0 (about 6 0 18 1 1 1 1) ∷ quiet 6 0 20 1 255 ∷
    from 0 2 0 (about 6 0 18 2 2 1 2) ∷ quiet 6 0 20 2 255 ∷ quiet 6 0 19 0 0 ∷ quiet 5 0 21 255 0 ∷ quiet 5 0 1 0 0 ∷
    quiet 5 0 1 0 0 ∷ from 0 3 0 (about 5 0 4 0 0 1 3) ∷ quiet 6 0 7 0 0 ∷ quiet 6 0 19 1 1 ∷ quiet 5 0 21 255 1 ∷ quiet 5 0 1 1 0 ∷
    quiet 5 0 5 1 0 ∷ quiet 5 0 19 2 2 ∷ quiet 4 0 21 255 2 ∷ quiet 4 0 1 2 0 ∷ quiet 4 0 5 2 0 ∷ from 0 3 0 (about 4 0 18 0 0 1 3) ∷
    quiet 4 0 20 0 255 ∷ quiet 4 0 22 1 255 ∷ quiet 3 0 22 2 255 ∷ quiet 2 0 19 0 0 ∷ quiet 1 0 21 255 0 ∷ quiet 1 0 1 0 0 ∷
    quiet 1 0 5 0 0 ∷ quiet 1 0 22 0 255 ∷ quiet 3 0 23 255 0 ∷ quiet 3 0 1 0 0 ∷ quiet 3 0 7 0 0 ∷ quiet 3 0 23 255 1 ∷
    quiet 3 0 1 1 0 ∷ quiet 3 0 7 1 0 ∷ quiet 3 0 23 255 2 ∷ quiet 3 0 1 2 0 ∷ quiet 3 0 7 2 0 ∷ quiet 3 0 20 0 255 ∷
    quiet 3 0 20 1 255 ∷ quiet 3 0 20 2 255 ∷ quiet 3 0 21 255 0 ∷ quiet 3 0 1 0 0 ∷ quiet 3 0 1 0 0 ∷ quiet 3 0 1 0 0 ∷
    about 3 0 3 0 0 1 0 ∷ quiet 4 0 1 0 0 ∷ quiet 3 0 21 255 1 ∷ quiet 3 0 1 1 0 ∷ quiet 3 0 1 1 0 ∷ quiet 3 0 1 1 0 ∷
    about 3 0 3 1 0 1 1 ∷ quiet 4 0 1 1 0 ∷ quiet 3 0 21 255 2 ∷ quiet 3 0 1 2 0 ∷ quiet 3 0 1 2 0 ∷ quiet 3 0 1 2 0 ∷
    about 3 0 3 2 0 1 0 ∷ quiet 4 0 1 2 0 ∷ about 3 0 16 0 0 1 0 ∷ about 3 0 16 1 1 1 1 ∷ about 3 0 16 2 0 1 0 ∷ about 3 0 17 0 0 1 0 ∷
    quiet 3 0 1 0 0 ∷ quiet 3 0 1 0 0 ∷ quiet 3 0 1 0 0 ∷ about 3 0 3 0 0 1 2 ∷ quiet 4 0 1 0 0 ∷ about 3 0 17 1 1 1 1 ∷
    quiet 3 0 1 1 0 ∷ quiet 3 0 1 1 0 ∷ quiet 3 0 1 1 0 ∷ about 3 0 3 1 0 1 3 ∷ quiet 4 0 1 1 0 ∷ about 3 0 17 0 2 1 0 ∷
    quiet 3 0 1 2 0 ∷ quiet 3 0 1 2 0 ∷ quiet 3 0 1 2 0 ∷ about 3 0 3 2 0 1 2 ∷ quiet 4 0 1 2 0 ∷ about 3 0 16 0 2 1 2 ∷
    about 3 0 16 1 0 1 3 ∷ about 3 0 16 2 2 1 2 ∷ about 3 0 17 2 0 1 2 ∷ quiet 3 0 1 0 0 ∷ quiet 3 0 1 0 0 ∷ quiet 3 0 1 0 0 ∷
    from 1 0 0 (about 3 0 4 0 0 1 4) ∷ quiet 4 0 1 0 0 ∷ quiet 4 0 7 0 0 ∷ about 4 0 17 0 1 1 3 ∷ quiet 4 0 1 1 0 ∷ quiet 4 0 1 1 0 ∷
    quiet 4 0 1 1 0 ∷ from 1 1 0 (about 4 0 4 1 0 1 5) ∷ quiet 5 0 1 1 0 ∷ quiet 5 0 7 1 0 ∷ about 5 0 17 2 2 1 2 ∷ quiet 5 0 1 2 0 ∷
    quiet 5 0 1 2 0 ∷ quiet 5 0 1 2 0 ∷ from 1 2 0 (about 5 0 4 2 0 1 6) ∷ quiet 6 0 1 2 0 ∷ quiet 6 0 7 2 0 ∷
    from 1 0 0 (about 6 0 18 0 1 1 4) ∷ quiet 6 0 20 0 255 ∷ from 1 1 0 (about 6 0 18 1 2 1 5) ∷ quiet 6 0 20 1 255 ∷
    from 1 2 0 (about 6 0 18 2 0 1 6) ∷ quiet 6 0 20 2 255 ∷ quiet 6 0 19 1 0 ∷ quiet 5 0 21 255 0 ∷ quiet 5 0 1 0 0 ∷
    quiet 5 0 1 0 0 ∷ quiet 5 0 1 0 0 ∷ dropping 0 (about 5 0 3 0 0 1 1) ∷ quiet 6 0 1 0 0 ∷ quiet 5 0 19 2 1 ∷ quiet 4 0 21 255 1 ∷
    quiet 4 0 1 1 0 ∷ quiet 4 0 5 1 0 ∷ quiet 4 0 19 0 2 ∷ quiet 3 0 21 255 2 ∷ quiet 3 0 1 2 0 ∷ quiet 3 0 5 2 0 ∷
    about 3 0 16 0 1 1 1 ∷ quiet 3 0 22 1 255 ∷ quiet 2 0 22 2 255 ∷ about 1 0 17 1 0 1 1 ∷ quiet 1 0 1 0 0 ∷ quiet 1 0 1 0 0 ∷
    quiet 1 0 1 0 0 ∷ dropping 2 (about 1 0 3 0 0 1 3) ∷ quiet 2 0 1 0 0 ∷ about 1 0 16 0 0 1 3 ∷ about 1 0 17 0 0 1 3 ∷
    quiet 1 0 1 0 0 ∷ quiet 1 0 1 0 0 ∷ quiet 1 0 1 0 0 ∷ from 1 3 0 (about 1 0 4 0 0 1 7) ∷ quiet 2 0 1 0 0 ∷ quiet 2 0 7 0 0 ∷
    from 1 3 0 (about 2 0 18 0 1 1 7) ∷ quiet 2 0 20 0 255 ∷ quiet 2 0 19 1 0 ∷ quiet 1 0 21 255 0 ∷ quiet 1 0 1 0 0 ∷
    quiet 1 0 5 0 0 ∷ quiet 1 0 22 0 255 ∷ quiet 3 0 23 255 0 ∷ quiet 3 0 6 0 0 ∷ quiet 3 0 23 255 1 ∷ quiet 3 0 6 1 0 ∷
    quiet 3 0 23 255 2 ∷ quiet 3 0 6 2 0 ∷ quiet 3 0 24 0 255 ∷ quiet 2 0 24 1 255 ∷ quiet 1 0 24 2 255 ∷ quiet 3 0 25 255 0 ∷
    quiet 3 0 1 0 0 ∷ quiet 3 0 1 0 0 ∷ quiet 3 0 1 0 0 ∷ about 3 0 2 0 0 1 4 ∷ quiet 3 0 25 255 1 ∷ quiet 3 0 1 1 0 ∷
    quiet 3 0 1 1 0 ∷ quiet 3 0 1 1 0 ∷ about 3 0 2 1 0 1 4 ∷ quiet 3 0 25 255 2 ∷ quiet 3 0 1 2 0 ∷ quiet 3 0 1 2 0 ∷
    quiet 3 0 1 2 0 ∷ about 3 0 2 2 0 1 4 ∷ about 3 0 16 0 1 1 4 ∷ about 3 0 16 1 1 1 4 ∷ about 3 0 16 2 1 1 4 ∷ about 3 0 17 1 0 1 4 ∷
    quiet 3 0 1 0 0 ∷ quiet 3 0 1 0 0 ∷ quiet 3 0 1 0 0 ∷ quiet 3 0 1 0 0 ∷ about 3 0 2 0 0 1 5 ∷ about 3 0 17 1 1 1 4 ∷
    quiet 3 0 1 1 0 ∷ quiet 3 0 1 1 0 ∷ quiet 3 0 1 1 0 ∷ quiet 3 0 1 1 0 ∷ about 3 0 2 1 0 1 5 ∷ about 3 0 17 1 2 1 4 ∷
    quiet 3 0 1 2 0 ∷ quiet 3 0 1 2 0 ∷ quiet 3 0 1 2 0 ∷ quiet 3 0 1 2 0 ∷ about 3 0 2 2 0 1 5 ∷ about 3 0 16 0 2 1 5 ∷
    about 3 0 16 1 2 1 5 ∷ about 3 0 16 2 2 1 5 ∷ about 3 0 17 2 0 1 5 ∷ quiet 3 0 1 0 0 ∷ quiet 3 0 1 0 0 ∷ quiet 3 0 1 0 0 ∷
    quiet 3 0 1 0 0 ∷ quiet 3 0 1 0 0 ∷ quiet 3 0 1 0 0 ∷ dropping 4 (about 3 0 2 0 0 1 6) ∷ about 3 0 17 2 1 1 5 ∷ quiet 3 0 1 1 0 ∷
    quiet 3 0 1 1 0 ∷ quiet 3 0 1 1 0 ∷ quiet 3 0 1 1 0 ∷ quiet 3 0 1 1 0 ∷ quiet 3 0 1 1 0 ∷ dropping 4 (about 3 0 2 1 0 1 6) ∷
    about 3 0 17 2 2 1 5 ∷ quiet 3 0 1 2 0 ∷ quiet 3 0 1 2 0 ∷ quiet 3 0 1 2 0 ∷ quiet 3 0 1 2 0 ∷ quiet 3 0 1 2 0 ∷ quiet 3 0 1 2 0 ∷
    dropping 4 (about 3 0 2 2 0 1 6) ∷ about 3 0 16 0 0 1 6 ∷ about 3 0 16 1 0 1 6 ∷ about 3 0 16 2 0 1 6 ∷ about 3 0 17 0 0 1 6 ∷
    quiet 3 0 1 0 0 ∷ quiet 3 0 1 0 0 ∷ quiet 3 0 1 0 0 ∷ quiet 3 0 1 0 0 ∷ dropping 5 (about 3 0 2 0 0 1 7) ∷ about 3 0 17 0 1 1 6 ∷
    quiet 3 0 1 1 0 ∷ quiet 3 0 1 1 0 ∷ quiet 3 0 1 1 0 ∷ quiet 3 0 1 1 0 ∷ dropping 5 (about 3 0 2 1 0 1 7) ∷ about 3 0 17 0 2 1 6 ∷
    quiet 3 0 1 2 0 ∷ quiet 3 0 1 2 0 ∷ quiet 3 0 1 2 0 ∷ quiet 3 0 1 2 0 ∷ dropping 5 (about 3 0 2 2 0 1 7) ∷ about 3 0 16 0 1 1 7 ∷
    about 3 0 16 1 1 1 7 ∷ about 3 0 16 2 1 1 7 ∷ about 3 0 17 1 0 1 7 ∷ quiet 3 0 1 0 0 ∷ quiet 3 0 1 0 0 ∷ quiet 3 0 1 0 0 ∷
    quiet 3 0 1 0 0 ∷ quiet 3 0 1 0 0 ∷ about 2 0 17 1 1 1 7 ∷ quiet 2 0 1 1 0 ∷ quiet 2 0 1 1 0 ∷ quiet 2 0 1 1 0 ∷ quiet 2 0 1 1 0 ∷
    quiet 2 0 1 1 0 ∷ about 1 0 17 1 2 1 7 ∷ quiet 1 0 1 2 0 ∷ quiet 1 0 1 2 0 ∷ quiet 1 0 1 2 0 ∷ quiet 1 0 1 2 0 ∷ quiet 1 0 1 2 0 ∷ []

-- its entries where the choices are all 5
abbrev pub small_late : List Entry
small_late =
    quiet 3 2 5 2 0 ∷ quiet 3 2 22 2 255 ∷ quiet 2 1 5 1 0 ∷ quiet 2 1 22 1 255 ∷ quiet 1 0 5 0 0 ∷ quiet 1 0 22 0 255 ∷
    quiet 3 2 23 255 2 ∷ quiet 3 2 23 255 1 ∷ quiet 3 2 23 255 0 ∷ quiet 3 2 5 2 0 ∷ quiet 3 2 22 2 255 ∷ quiet 2 1 5 1 0 ∷
    quiet 2 1 22 1 255 ∷ quiet 1 0 5 0 0 ∷ quiet 1 0 22 0 255 ∷ quiet 3 2 23 255 2 ∷ quiet 3 2 23 255 1 ∷ quiet 3 2 23 255 0 ∷
    quiet 3 2 1 2 0 ∷ quiet 3 2 7 2 0 ∷ quiet 3 2 20 2 255 ∷ quiet 3 2 21 255 2 ∷ quiet 3 2 1 2 0 ∷ quiet 3 2 1 2 0 ∷
    about 3 2 4 2 0 1 0 ∷ quiet 4 1 1 1 0 ∷ quiet 4 1 7 1 0 ∷ quiet 4 1 7 2 0 ∷ about 4 1 18 2 0 1 0 ∷ quiet 4 1 20 1 255 ∷
    quiet 4 1 20 2 255 ∷ quiet 4 1 19 0 2 ∷ quiet 3 2 21 255 2 ∷ quiet 3 2 21 255 1 ∷ quiet 3 2 1 2 0 ∷ quiet 3 2 1 2 0 ∷
    from 0 2 0 (about 3 2 4 2 0 1 2) ∷ quiet 4 1 1 1 0 ∷ quiet 4 1 1 1 0 ∷ from 0 1 0 (about 4 1 4 1 0 1 1) ∷ quiet 5 0 1 0 0 ∷
    quiet 5 0 7 0 0 ∷ quiet 5 0 7 1 0 ∷ quiet 5 0 7 2 0 ∷ from 0 2 0 (about 5 0 18 2 2 1 2) ∷ from 0 1 0 (about 5 0 18 1 1 1 1) ∷
    quiet 5 0 20 0 255 ∷ quiet 5 0 20 1 255 ∷ quiet 5 0 20 2 255 ∷ quiet 5 0 19 2 2 ∷ quiet 4 1 21 255 0 ∷ quiet 4 1 19 1 1 ∷
    quiet 3 2 21 255 2 ∷ quiet 3 2 21 255 1 ∷ quiet 3 2 1 2 0 ∷ quiet 3 2 5 2 0 ∷ quiet 3 2 22 2 255 ∷ quiet 2 1 1 1 0 ∷
    quiet 2 1 5 1 0 ∷ quiet 2 1 22 1 255 ∷ quiet 1 0 1 0 0 ∷ quiet 1 0 1 0 0 ∷ from 0 3 0 (about 1 0 4 0 0 1 3) ∷ quiet 2 0 7 0 0 ∷
    from 0 3 0 (about 2 0 18 0 0 1 3) ∷ quiet 2 0 20 0 255 ∷ quiet 2 0 19 0 0 ∷ quiet 1 0 21 255 0 ∷ quiet 1 0 1 0 0 ∷
    quiet 1 0 5 0 0 ∷ quiet 1 0 22 0 255 ∷ quiet 3 0 23 255 0 ∷ quiet 3 0 1 0 0 ∷ quiet 3 0 7 0 0 ∷ quiet 3 0 23 255 1 ∷
    quiet 3 0 1 1 0 ∷ quiet 3 0 7 1 0 ∷ quiet 3 0 23 255 2 ∷ quiet 3 0 1 2 0 ∷ quiet 3 0 7 2 0 ∷ quiet 3 0 20 0 255 ∷
    quiet 3 0 20 1 255 ∷ quiet 3 0 20 2 255 ∷ quiet 3 0 21 255 0 ∷ quiet 3 0 1 0 0 ∷ quiet 3 0 1 0 0 ∷ quiet 3 0 1 0 0 ∷
    about 3 0 3 0 0 1 0 ∷ quiet 4 0 1 0 0 ∷ quiet 3 0 21 255 1 ∷ quiet 3 0 1 1 0 ∷ quiet 3 0 1 1 0 ∷ quiet 3 0 1 1 0 ∷
    about 3 0 3 1 0 1 1 ∷ quiet 4 0 1 1 0 ∷ quiet 3 0 21 255 2 ∷ quiet 3 0 1 2 0 ∷ quiet 3 0 1 2 0 ∷ quiet 3 0 1 2 0 ∷
    about 3 0 3 2 0 1 0 ∷ quiet 4 0 1 2 0 ∷ about 3 0 16 0 0 1 0 ∷ about 3 0 16 1 1 1 1 ∷ about 3 0 16 2 0 1 0 ∷ about 3 0 17 0 0 1 0 ∷
    quiet 3 0 1 0 0 ∷ quiet 3 0 1 0 0 ∷ quiet 3 0 1 0 0 ∷ about 3 0 3 0 0 1 2 ∷ quiet 4 0 1 0 0 ∷ about 3 0 17 1 1 1 1 ∷
    quiet 3 0 1 1 0 ∷ quiet 3 0 1 1 0 ∷ quiet 3 0 1 1 0 ∷ about 3 0 3 1 0 1 3 ∷ quiet 4 0 1 1 0 ∷ about 3 0 17 0 2 1 0 ∷
    quiet 3 0 1 2 0 ∷ quiet 3 0 1 2 0 ∷ quiet 3 0 1 2 0 ∷ about 3 0 3 2 0 1 2 ∷ quiet 4 0 1 2 0 ∷ about 3 0 16 0 2 1 2 ∷
    about 3 0 16 1 0 1 3 ∷ about 3 0 16 2 2 1 2 ∷ about 3 0 17 2 0 1 2 ∷ quiet 3 0 1 0 0 ∷ quiet 3 0 1 0 0 ∷ quiet 3 0 1 0 0 ∷
    from 1 0 0 (about 3 0 4 0 0 1 4) ∷ quiet 4 0 1 0 0 ∷ quiet 4 0 7 0 0 ∷ about 4 0 17 0 1 1 3 ∷ quiet 4 0 1 1 0 ∷ quiet 4 0 1 1 0 ∷
    quiet 4 0 1 1 0 ∷ from 1 1 0 (about 4 0 4 1 0 1 5) ∷ quiet 5 0 1 1 0 ∷ quiet 5 0 7 1 0 ∷ about 5 0 17 2 2 1 2 ∷ quiet 5 0 1 2 0 ∷
    quiet 5 0 1 2 0 ∷ quiet 5 0 1 2 0 ∷ from 1 2 0 (about 5 0 4 2 0 1 6) ∷ quiet 6 0 1 2 0 ∷ quiet 6 0 7 2 0 ∷
    from 1 0 0 (about 6 0 18 0 1 1 4) ∷ quiet 6 0 20 0 255 ∷ from 1 1 0 (about 6 0 18 1 2 1 5) ∷ quiet 6 0 20 1 255 ∷
    from 1 2 0 (about 6 0 18 2 0 1 6) ∷ quiet 6 0 20 2 255 ∷ quiet 6 0 19 1 0 ∷ quiet 5 0 21 255 0 ∷ quiet 5 0 1 0 0 ∷
    quiet 5 0 1 0 0 ∷ quiet 5 0 1 0 0 ∷ dropping 0 (about 5 0 3 0 0 1 1) ∷ quiet 6 0 1 0 0 ∷ quiet 5 0 19 2 1 ∷ quiet 4 0 21 255 1 ∷
    quiet 4 0 1 1 0 ∷ quiet 4 0 5 1 0 ∷ quiet 4 0 19 0 2 ∷ quiet 3 0 21 255 2 ∷ quiet 3 0 1 2 0 ∷ quiet 3 0 5 2 0 ∷
    about 3 0 16 0 1 1 1 ∷ quiet 3 0 22 1 255 ∷ quiet 2 0 22 2 255 ∷ about 1 0 17 1 0 1 1 ∷ quiet 1 0 1 0 0 ∷ quiet 1 0 1 0 0 ∷
    quiet 1 0 1 0 0 ∷ dropping 2 (about 1 0 3 0 0 1 3) ∷ quiet 2 0 1 0 0 ∷ about 1 0 16 0 0 1 3 ∷ about 1 0 17 0 0 1 3 ∷
    quiet 1 0 1 0 0 ∷ quiet 1 0 1 0 0 ∷ quiet 1 0 1 0 0 ∷ from 1 3 0 (about 1 0 4 0 0 1 7) ∷ quiet 2 0 1 0 0 ∷ quiet 2 0 7 0 0 ∷
    from 1 3 0 (about 2 0 18 0 1 1 7) ∷ quiet 2 0 20 0 255 ∷ quiet 2 0 19 1 0 ∷ quiet 1 0 21 255 0 ∷ quiet 1 0 1 0 0 ∷
    quiet 1 0 5 0 0 ∷ quiet 1 0 22 0 255 ∷ quiet 3 0 23 255 0 ∷ quiet 3 0 6 0 0 ∷ quiet 3 0 23 255 1 ∷ quiet 3 0 6 1 0 ∷
    quiet 3 0 23 255 2 ∷ quiet 3 0 6 2 0 ∷ quiet 3 0 24 0 255 ∷ quiet 2 0 24 1 255 ∷ quiet 1 0 24 2 255 ∷ quiet 3 0 25 255 0 ∷
    quiet 3 0 1 0 0 ∷ quiet 3 0 1 0 0 ∷ quiet 3 0 1 0 0 ∷ about 3 0 2 0 0 1 4 ∷ quiet 3 0 25 255 1 ∷ quiet 3 0 1 1 0 ∷
    quiet 3 0 1 1 0 ∷ quiet 3 0 1 1 0 ∷ about 3 0 2 1 0 1 4 ∷ quiet 3 0 25 255 2 ∷ quiet 3 0 1 2 0 ∷ quiet 3 0 1 2 0 ∷
    quiet 3 0 1 2 0 ∷ about 3 0 2 2 0 1 4 ∷ about 3 0 16 0 1 1 4 ∷ about 3 0 16 1 1 1 4 ∷ about 3 0 16 2 1 1 4 ∷ about 3 0 17 1 0 1 4 ∷
    quiet 3 0 1 0 0 ∷ quiet 3 0 1 0 0 ∷ quiet 3 0 1 0 0 ∷ quiet 3 0 1 0 0 ∷ about 3 0 2 0 0 1 5 ∷ about 3 0 17 1 1 1 4 ∷
    quiet 3 0 1 1 0 ∷ quiet 3 0 1 1 0 ∷ quiet 3 0 1 1 0 ∷ quiet 3 0 1 1 0 ∷ about 3 0 2 1 0 1 5 ∷ about 3 0 17 1 2 1 4 ∷
    quiet 3 0 1 2 0 ∷ quiet 3 0 1 2 0 ∷ quiet 3 0 1 2 0 ∷ quiet 3 0 1 2 0 ∷ about 3 0 2 2 0 1 5 ∷ about 3 0 16 0 2 1 5 ∷
    about 3 0 16 1 2 1 5 ∷ about 3 0 16 2 2 1 5 ∷ about 3 0 17 2 0 1 5 ∷ quiet 3 0 1 0 0 ∷ quiet 3 0 1 0 0 ∷ quiet 3 0 1 0 0 ∷
    quiet 3 0 1 0 0 ∷ quiet 3 0 1 0 0 ∷ quiet 3 0 1 0 0 ∷ dropping 4 (about 3 0 2 0 0 1 6) ∷ about 3 0 17 2 1 1 5 ∷ quiet 3 0 1 1 0 ∷
    quiet 3 0 1 1 0 ∷ quiet 3 0 1 1 0 ∷ quiet 3 0 1 1 0 ∷ quiet 3 0 1 1 0 ∷ quiet 3 0 1 1 0 ∷ dropping 4 (about 3 0 2 1 0 1 6) ∷
    about 3 0 17 2 2 1 5 ∷ quiet 3 0 1 2 0 ∷ quiet 3 0 1 2 0 ∷ quiet 3 0 1 2 0 ∷ quiet 3 0 1 2 0 ∷ quiet 3 0 1 2 0 ∷ quiet 3 0 1 2 0 ∷
    dropping 4 (about 3 0 2 2 0 1 6) ∷ about 3 0 16 0 0 1 6 ∷ about 3 0 16 1 0 1 6 ∷ about 3 0 16 2 0 1 6 ∷ about 3 0 17 0 0 1 6 ∷
    quiet 3 0 1 0 0 ∷ quiet 3 0 1 0 0 ∷ quiet 3 0 1 0 0 ∷ quiet 3 0 1 0 0 ∷ dropping 5 (about 3 0 2 0 0 1 7) ∷ about 3 0 17 0 1 1 6 ∷
    quiet 3 0 1 1 0 ∷ quiet 3 0 1 1 0 ∷ quiet 3 0 1 1 0 ∷ quiet 3 0 1 1 0 ∷ dropping 5 (about 3 0 2 1 0 1 7) ∷ about 3 0 17 0 2 1 6 ∷
    quiet 3 0 1 2 0 ∷ quiet 3 0 1 2 0 ∷ quiet 3 0 1 2 0 ∷ quiet 3 0 1 2 0 ∷ dropping 5 (about 3 0 2 2 0 1 7) ∷ about 3 0 16 0 1 1 7 ∷
    about 3 0 16 1 1 1 7 ∷ about 3 0 16 2 1 1 7 ∷ about 3 0 17 1 0 1 7 ∷ quiet 3 0 1 0 0 ∷ quiet 3 0 1 0 0 ∷ quiet 3 0 1 0 0 ∷
    quiet 3 0 1 0 0 ∷ quiet 3 0 1 0 0 ∷ about 2 0 17 1 1 1 7 ∷ quiet 2 0 1 1 0 ∷ quiet 2 0 1 1 0 ∷ quiet 2 0 1 1 0 ∷ quiet 2 0 1 1 0 ∷
    quiet 2 0 1 1 0 ∷ about 1 0 17 1 2 1 7 ∷ quiet 1 0 1 2 0 ∷ quiet 1 0 1 2 0 ∷ quiet 1 0 1 2 0 ∷ quiet 1 0 1 2 0 ∷ quiet 1 0 1 2 0 ∷ []

-- its entries where the choices are mixed
abbrev pub small_mixed : List Entry
small_mixed =
    quiet 3 1 5 1 0 ∷ quiet 3 0 5 0 0 ∷ quiet 3 2 22 0 255 ∷ quiet 2 1 22 1 255 ∷ quiet 1 0 5 2 0 ∷ quiet 1 0 22 2 255 ∷
    quiet 3 1 23 255 1 ∷ quiet 3 0 5 1 0 ∷ quiet 3 1 23 255 2 ∷ quiet 3 2 22 1 255 ∷ quiet 2 0 5 2 0 ∷ quiet 2 1 22 2 255 ∷
    quiet 1 0 23 255 0 ∷ quiet 1 0 5 0 0 ∷ quiet 1 0 22 0 255 ∷ quiet 3 0 23 255 0 ∷ quiet 3 2 23 255 2 ∷ quiet 3 1 1 2 0 ∷
    quiet 3 2 23 255 1 ∷ quiet 3 0 1 0 0 ∷ quiet 3 2 7 2 0 ∷ quiet 3 1 1 1 0 ∷ quiet 3 1 7 1 0 ∷ quiet 3 0 7 0 0 ∷ quiet 3 0 20 2 255 ∷
    quiet 3 2 21 255 2 ∷ quiet 3 2 20 0 255 ∷ quiet 3 1 20 1 255 ∷ quiet 3 1 21 255 0 ∷ quiet 3 0 1 0 0 ∷ quiet 3 0 1 0 0 ∷
    from 0 1 0 (about 3 0 4 0 0 1 1) ∷ quiet 4 0 7 0 0 ∷ quiet 4 0 1 2 0 ∷ quiet 4 0 1 2 0 ∷ about 4 0 4 2 0 1 0 ∷ quiet 5 0 7 2 0 ∷
    quiet 5 0 21 255 1 ∷ quiet 5 0 1 1 0 ∷ quiet 5 0 1 1 0 ∷ from 0 2 0 (about 5 0 4 1 0 1 2) ∷ quiet 6 0 7 1 0 ∷
    from 0 1 0 (about 6 0 18 0 1 1 1) ∷ quiet 6 0 20 0 255 ∷ about 6 0 18 2 0 1 0 ∷ quiet 6 0 20 2 255 ∷
    from 0 2 0 (about 6 0 18 1 2 1 2) ∷ quiet 6 0 20 1 255 ∷ quiet 6 0 19 1 0 ∷ quiet 5 0 21 255 0 ∷ quiet 5 0 1 0 0 ∷
    quiet 5 0 1 0 0 ∷ from 0 3 0 (about 5 0 4 0 0 1 3) ∷ quiet 6 0 7 0 0 ∷ quiet 6 0 19 0 2 ∷ quiet 5 0 21 255 2 ∷ quiet 5 0 1 2 0 ∷
    quiet 5 0 5 2 0 ∷ quiet 5 0 19 2 1 ∷ quiet 4 0 21 255 1 ∷ quiet 4 0 1 1 0 ∷ quiet 4 0 5 1 0 ∷ from 0 3 0 (about 4 0 18 0 0 1 3) ∷
    quiet 4 0 20 0 255 ∷ quiet 4 0 22 2 255 ∷ quiet 3 0 22 1 255 ∷ quiet 2 0 19 0 0 ∷ quiet 1 0 21 255 0 ∷ quiet 1 0 1 0 0 ∷
    quiet 1 0 5 0 0 ∷ quiet 1 0 22 0 255 ∷ quiet 3 0 23 255 0 ∷ quiet 3 0 1 0 0 ∷ quiet 3 0 7 0 0 ∷ quiet 3 0 23 255 1 ∷
    quiet 3 0 1 1 0 ∷ quiet 3 0 7 1 0 ∷ quiet 3 0 23 255 2 ∷ quiet 3 0 1 2 0 ∷ quiet 3 0 7 2 0 ∷ quiet 3 0 20 0 255 ∷
    quiet 3 0 20 1 255 ∷ quiet 3 0 20 2 255 ∷ quiet 3 0 21 255 0 ∷ quiet 3 0 1 0 0 ∷ quiet 3 0 1 0 0 ∷ quiet 3 0 1 0 0 ∷
    about 3 0 3 0 0 1 0 ∷ quiet 4 0 1 0 0 ∷ quiet 3 0 21 255 1 ∷ quiet 3 0 1 1 0 ∷ quiet 3 0 1 1 0 ∷ quiet 3 0 1 1 0 ∷
    about 3 0 3 1 0 1 1 ∷ quiet 4 0 1 1 0 ∷ quiet 3 0 21 255 2 ∷ quiet 3 0 1 2 0 ∷ quiet 3 0 1 2 0 ∷ quiet 3 0 1 2 0 ∷
    about 3 0 3 2 0 1 0 ∷ quiet 4 0 1 2 0 ∷ about 3 0 16 0 0 1 0 ∷ about 3 0 16 1 1 1 1 ∷ about 3 0 16 2 0 1 0 ∷ about 3 0 17 0 0 1 0 ∷
    quiet 3 0 1 0 0 ∷ quiet 3 0 1 0 0 ∷ quiet 3 0 1 0 0 ∷ about 3 0 3 0 0 1 2 ∷ quiet 4 0 1 0 0 ∷ about 3 0 17 1 1 1 1 ∷
    quiet 3 0 1 1 0 ∷ quiet 3 0 1 1 0 ∷ quiet 3 0 1 1 0 ∷ about 3 0 3 1 0 1 3 ∷ quiet 4 0 1 1 0 ∷ about 3 0 17 0 2 1 0 ∷
    quiet 3 0 1 2 0 ∷ quiet 3 0 1 2 0 ∷ quiet 3 0 1 2 0 ∷ about 3 0 3 2 0 1 2 ∷ quiet 4 0 1 2 0 ∷ about 3 0 16 0 2 1 2 ∷
    about 3 0 16 1 0 1 3 ∷ about 3 0 16 2 2 1 2 ∷ about 3 0 17 2 0 1 2 ∷ quiet 3 0 1 0 0 ∷ quiet 3 0 1 0 0 ∷ quiet 3 0 1 0 0 ∷
    from 1 0 0 (about 3 0 4 0 0 1 4) ∷ quiet 4 0 1 0 0 ∷ quiet 4 0 7 0 0 ∷ about 4 0 17 0 1 1 3 ∷ quiet 4 0 1 1 0 ∷ quiet 4 0 1 1 0 ∷
    quiet 4 0 1 1 0 ∷ from 1 1 0 (about 4 0 4 1 0 1 5) ∷ quiet 5 0 1 1 0 ∷ quiet 5 0 7 1 0 ∷ about 5 0 17 2 2 1 2 ∷ quiet 5 0 1 2 0 ∷
    quiet 5 0 1 2 0 ∷ quiet 5 0 1 2 0 ∷ from 1 2 0 (about 5 0 4 2 0 1 6) ∷ quiet 6 0 1 2 0 ∷ quiet 6 0 7 2 0 ∷
    from 1 0 0 (about 6 0 18 0 1 1 4) ∷ quiet 6 0 20 0 255 ∷ from 1 1 0 (about 6 0 18 1 2 1 5) ∷ quiet 6 0 20 1 255 ∷
    from 1 2 0 (about 6 0 18 2 0 1 6) ∷ quiet 6 0 20 2 255 ∷ quiet 6 0 19 1 0 ∷ quiet 5 0 21 255 0 ∷ quiet 5 0 1 0 0 ∷
    quiet 5 0 1 0 0 ∷ quiet 5 0 1 0 0 ∷ dropping 0 (about 5 0 3 0 0 1 1) ∷ quiet 6 0 1 0 0 ∷ quiet 5 0 19 2 1 ∷ quiet 4 0 21 255 1 ∷
    quiet 4 0 1 1 0 ∷ quiet 4 0 5 1 0 ∷ quiet 4 0 19 0 2 ∷ quiet 3 0 21 255 2 ∷ quiet 3 0 1 2 0 ∷ quiet 3 0 5 2 0 ∷
    about 3 0 16 0 1 1 1 ∷ quiet 3 0 22 1 255 ∷ quiet 2 0 22 2 255 ∷ about 1 0 17 1 0 1 1 ∷ quiet 1 0 1 0 0 ∷ quiet 1 0 1 0 0 ∷
    quiet 1 0 1 0 0 ∷ dropping 2 (about 1 0 3 0 0 1 3) ∷ quiet 2 0 1 0 0 ∷ about 1 0 16 0 0 1 3 ∷ about 1 0 17 0 0 1 3 ∷
    quiet 1 0 1 0 0 ∷ quiet 1 0 1 0 0 ∷ quiet 1 0 1 0 0 ∷ from 1 3 0 (about 1 0 4 0 0 1 7) ∷ quiet 2 0 1 0 0 ∷ quiet 2 0 7 0 0 ∷
    from 1 3 0 (about 2 0 18 0 1 1 7) ∷ quiet 2 0 20 0 255 ∷ quiet 2 0 19 1 0 ∷ quiet 1 0 21 255 0 ∷ quiet 1 0 1 0 0 ∷
    quiet 1 0 5 0 0 ∷ quiet 1 0 22 0 255 ∷ quiet 3 0 23 255 0 ∷ quiet 3 0 6 0 0 ∷ quiet 3 0 23 255 1 ∷ quiet 3 0 6 1 0 ∷
    quiet 3 0 23 255 2 ∷ quiet 3 0 6 2 0 ∷ quiet 3 0 24 0 255 ∷ quiet 2 0 24 1 255 ∷ quiet 1 0 24 2 255 ∷ quiet 3 0 25 255 0 ∷
    quiet 3 0 1 0 0 ∷ quiet 3 0 1 0 0 ∷ quiet 3 0 1 0 0 ∷ about 3 0 2 0 0 1 4 ∷ quiet 3 0 25 255 1 ∷ quiet 3 0 1 1 0 ∷
    quiet 3 0 1 1 0 ∷ quiet 3 0 1 1 0 ∷ about 3 0 2 1 0 1 4 ∷ quiet 3 0 25 255 2 ∷ quiet 3 0 1 2 0 ∷ quiet 3 0 1 2 0 ∷
    quiet 3 0 1 2 0 ∷ about 3 0 2 2 0 1 4 ∷ about 3 0 16 0 1 1 4 ∷ about 3 0 16 1 1 1 4 ∷ about 3 0 16 2 1 1 4 ∷ about 3 0 17 1 0 1 4 ∷
    quiet 3 0 1 0 0 ∷ quiet 3 0 1 0 0 ∷ quiet 3 0 1 0 0 ∷ quiet 3 0 1 0 0 ∷ about 3 0 2 0 0 1 5 ∷ about 3 0 17 1 1 1 4 ∷
    quiet 3 0 1 1 0 ∷ quiet 3 0 1 1 0 ∷ quiet 3 0 1 1 0 ∷ quiet 3 0 1 1 0 ∷ about 3 0 2 1 0 1 5 ∷ about 3 0 17 1 2 1 4 ∷
    quiet 3 0 1 2 0 ∷ quiet 3 0 1 2 0 ∷ quiet 3 0 1 2 0 ∷ quiet 3 0 1 2 0 ∷ about 3 0 2 2 0 1 5 ∷ about 3 0 16 0 2 1 5 ∷
    about 3 0 16 1 2 1 5 ∷ about 3 0 16 2 2 1 5 ∷ about 3 0 17 2 0 1 5 ∷ quiet 3 0 1 0 0 ∷ quiet 3 0 1 0 0 ∷ quiet 3 0 1 0 0 ∷
    quiet 3 0 1 0 0 ∷ quiet 3 0 1 0 0 ∷ quiet 3 0 1 0 0 ∷ dropping 4 (about 3 0 2 0 0 1 6) ∷ about 3 0 17 2 1 1 5 ∷ quiet 3 0 1 1 0 ∷
    quiet 3 0 1 1 0 ∷ quiet 3 0 1 1 0 ∷ quiet 3 0 1 1 0 ∷ quiet 3 0 1 1 0 ∷ quiet 3 0 1 1 0 ∷ dropping 4 (about 3 0 2 1 0 1 6) ∷
    about 3 0 17 2 2 1 5 ∷ quiet 3 0 1 2 0 ∷ quiet 3 0 1 2 0 ∷ quiet 3 0 1 2 0 ∷ quiet 3 0 1 2 0 ∷ quiet 3 0 1 2 0 ∷ quiet 3 0 1 2 0 ∷
    dropping 4 (about 3 0 2 2 0 1 6) ∷ about 3 0 16 0 0 1 6 ∷ about 3 0 16 1 0 1 6 ∷ about 3 0 16 2 0 1 6 ∷ about 3 0 17 0 0 1 6 ∷
    quiet 3 0 1 0 0 ∷ quiet 3 0 1 0 0 ∷ quiet 3 0 1 0 0 ∷ quiet 3 0 1 0 0 ∷ dropping 5 (about 3 0 2 0 0 1 7) ∷ about 3 0 17 0 1 1 6 ∷
    quiet 3 0 1 1 0 ∷ quiet 3 0 1 1 0 ∷ quiet 3 0 1 1 0 ∷ quiet 3 0 1 1 0 ∷ dropping 5 (about 3 0 2 1 0 1 7) ∷ about 3 0 17 0 2 1 6 ∷
    quiet 3 0 1 2 0 ∷ quiet 3 0 1 2 0 ∷ quiet 3 0 1 2 0 ∷ quiet 3 0 1 2 0 ∷ dropping 5 (about 3 0 2 2 0 1 7) ∷ about 3 0 16 0 1 1 7 ∷
    about 3 0 16 1 1 1 7 ∷ about 3 0 16 2 1 1 7 ∷ about 3 0 17 1 0 1 7 ∷ quiet 3 0 1 0 0 ∷ quiet 3 0 1 0 0 ∷ quiet 3 0 1 0 0 ∷
    quiet 3 0 1 0 0 ∷ quiet 3 0 1 0 0 ∷ about 2 0 17 1 1 1 7 ∷ quiet 2 0 1 1 0 ∷ quiet 2 0 1 1 0 ∷ quiet 2 0 1 1 0 ∷ quiet 2 0 1 1 0 ∷
    quiet 2 0 1 1 0 ∷ about 1 0 17 1 2 1 7 ∷ quiet 1 0 1 2 0 ∷ quiet 1 0 1 2 0 ∷ quiet 1 0 1 2 0 ∷ quiet 1 0 1 2 0 ∷ quiet 1 0 1 2 0 ∷ []

-- they come out of the definitions
pub record SmallRecorded : Type 0 where
  pub zeros : Recorded small three_tight
      []
      small_zeros AllDone small_lines
  pub late : Recorded small three_tight
      (replicate 60 5)
      small_late AllDone small_lines
  pub mixed : Recorded small three_tight
      (1 ∷ 0 ∷ 2 ∷ 5 ∷ 3 ∷ 1 ∷ 4 ∷ 0 ∷ 7 ∷ 2 ∷ 2 ∷ 9 ∷ 1 ∷ 0 ∷ 3 ∷ 6 ∷ 5 ∷ 1 ∷ 8 ∷ 0 ∷ 2 ∷ 4 ∷ 1 ∷ 3 ∷ 0 ∷ 5 ∷ 2 ∷ 7 ∷ 1 ∷ 6 ∷ [])
      small_mixed AllDone small_lines
