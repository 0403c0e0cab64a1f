-- Recorded runs of an add and a max to one block with two workers, entry by entry, under three lists of choices.
use Rattle.std.specs.Prelude.{List, [], ◌∷◌, replicate}
use Rattle.sial_syntax.specs.declared.access.Access.TheVariants.{Add, Max}
use Rattle.sial_syntax.specs.declared.access.Class.TheVariants.{Distributed}
use Rattle.sial_worked.specs.Mix.{mix}
use Rattle.sip_model.specs.declared.entry.Entry.{Entry}
use Rattle.sip_model.specs.Legal.{Standing, InConflict}
use Rattle.machine_worked.specs.Records.{quiet, about, from, of_workers, Recorded}

-- the conflict with which it ends
abbrev pub its_end : Standing
its_end = InConflict
    (record {
      class = Distributed;
      block = 0;
      epoch = 2;
      clash = record { later = Max; later_line = 13; earlier = Add; earlier_line = 11 };
    })

-- its entries where each choice is 0
abbrev pub mix_zeros : List Entry
mix_zeros =
    quiet 2 0 5 0 0 ∷ quiet 2 0 5 1 0 ∷ quiet 2 0 22 0 255 ∷ quiet 1 0 22 1 255 ∷ quiet 2 0 23 255 0 ∷ quiet 2 0 1 0 0 ∷
    quiet 2 0 7 0 0 ∷ quiet 2 0 23 255 1 ∷ quiet 2 0 1 1 0 ∷ quiet 2 0 7 1 0 ∷ quiet 2 0 20 0 255 ∷ quiet 2 0 20 1 255 ∷
    quiet 2 0 21 255 0 ∷ quiet 2 0 1 0 0 ∷ quiet 2 0 1 0 0 ∷ quiet 2 0 1 0 0 ∷ quiet 2 0 1 0 0 ∷ about 2 0 4 0 0 1 0 ∷
    quiet 3 0 1 0 0 ∷ quiet 3 0 1 0 0 ∷ quiet 3 0 7 0 0 ∷ quiet 3 0 21 255 1 ∷ quiet 3 0 1 1 0 ∷ quiet 3 0 1 1 0 ∷ quiet 3 0 1 1 0 ∷
    quiet 3 0 1 1 0 ∷ from 0 1 0 (about 3 0 4 1 0 1 0) ∷ quiet 4 0 1 1 0 ∷ quiet 4 0 1 1 0 ∷ quiet 4 0 7 1 0 ∷ about 4 0 18 0 0 1 0 ∷
    quiet 4 0 20 0 255 ∷ from 0 1 0 (about 4 0 18 1 0 1 0) ∷ []

-- its entries where the choices are all 5
abbrev pub mix_late : List Entry
mix_late =
    quiet 2 1 5 1 0 ∷ quiet 2 1 22 1 255 ∷ quiet 1 0 5 0 0 ∷ quiet 1 0 22 0 255 ∷ quiet 2 1 23 255 1 ∷ quiet 2 1 23 255 0 ∷
    quiet 2 1 1 1 0 ∷ quiet 2 1 7 1 0 ∷ quiet 2 1 20 1 255 ∷ quiet 2 1 21 255 1 ∷ quiet 2 1 1 1 0 ∷ quiet 2 1 1 1 0 ∷ quiet 2 1 1 1 0 ∷
    quiet 2 1 1 1 0 ∷ about 2 1 4 1 0 1 0 ∷ about 3 2 18 1 0 1 0 ∷ quiet 3 2 19 0 1 ∷ quiet 2 1 1 1 0 ∷ quiet 2 1 1 1 0 ∷
    quiet 2 1 7 1 0 ∷ quiet 2 1 20 1 255 ∷ quiet 2 1 21 255 1 ∷ quiet 2 1 1 1 0 ∷ quiet 2 1 1 1 0 ∷ quiet 2 1 1 1 0 ∷ quiet 2 1 1 1 0 ∷
    from 0 1 0 (about 2 1 4 1 0 1 0) ∷ from 0 1 0 (about 3 2 18 1 0 1 0) ∷ []

-- its entries where the choices are mixed
abbrev pub mix_mixed : List Entry
mix_mixed =
    quiet 2 1 5 1 0 ∷ quiet 2 0 5 0 0 ∷ quiet 2 0 22 1 255 ∷ quiet 1 0 22 0 255 ∷ quiet 2 1 23 255 1 ∷ quiet 2 1 23 255 0 ∷
    quiet 2 0 1 0 0 ∷ quiet 2 0 7 0 0 ∷ quiet 2 1 20 0 255 ∷ quiet 2 0 1 1 0 ∷ quiet 2 0 7 1 0 ∷ quiet 2 1 20 1 255 ∷
    quiet 2 1 21 255 1 ∷ quiet 2 0 1 1 0 ∷ quiet 2 1 21 255 0 ∷ quiet 2 0 1 0 0 ∷ quiet 2 1 1 1 0 ∷ quiet 2 1 1 1 0 ∷ quiet 2 0 1 0 0 ∷
    quiet 2 0 1 0 0 ∷ quiet 2 0 1 0 0 ∷ about 2 0 4 0 0 1 0 ∷ quiet 3 1 1 1 0 ∷ quiet 3 0 1 0 0 ∷ quiet 3 0 1 0 0 ∷
    about 3 2 18 0 0 1 0 ∷ quiet 3 2 19 0 0 ∷ from 0 1 0 (about 2 1 4 1 0 1 0) ∷ quiet 3 1 1 1 0 ∷ quiet 3 0 7 0 0 ∷ quiet 3 0 1 1 0 ∷
    quiet 3 0 7 1 0 ∷ from 0 1 0 (about 3 0 18 1 0 1 0) ∷ []

-- they come out of the definitions
pub record MixRecorded : Type 0 where
  pub zeros : Recorded mix (of_workers 2)
      []
      mix_zeros its_end []
  pub late : Recorded mix (of_workers 2)
      (replicate 28 5)
      mix_late its_end []
  pub mixed : Recorded mix (of_workers 2)
      (1 ∷ 0 ∷ 2 ∷ 5 ∷ 3 ∷ 1 ∷ 4 ∷ 0 ∷ 7 ∷ 2 ∷ 2 ∷ 9 ∷ 1 ∷ 0 ∷ 3 ∷ 6 ∷ 5 ∷ 1 ∷ 8 ∷ 0 ∷ 2 ∷ 4 ∷ 1 ∷ 3 ∷ 0 ∷ 5 ∷ 2 ∷ 7 ∷ 1 ∷ 6 ∷ [])
      mix_mixed its_end []
