-- Recorded runs of two stores into one block with two workers, entry by entry, under three lists of choices.
use Rattle.std.specs.Prelude.{List, [], ◌∷◌, replicate}
use Rattle.sial_syntax.specs.declared.access.Access.TheVariants.{Store}
use Rattle.sial_syntax.specs.declared.access.Class.TheVariants.{Distributed}
use Rattle.sial_worked.specs.Clash.{clash}
use Rattle.sip_model.specs.declared.entry.Entry.{Entry}
use Rattle.sip_model.specs.Legal.{Standing, InConflict}
use Rattle.machine_worked.specs.Records.{quiet, about, from, of_workers, Recorded}

-- the conflict with which it ends
abbrev pub its_end : Standing
its_end = InConflict
    (record {
      class = Distributed;
      block = 0;
      epoch = 2;
      clash = record { later = Store; later_line = 10; earlier = Store; earlier_line = 10 };
    })

-- its entries where each choice is 0
abbrev pub clash_zeros : List Entry
clash_zeros =
    quiet 2 0 5 0 0 ∷ quiet 2 0 5 1 0 ∷ quiet 2 0 22 0 255 ∷ quiet 1 0 22 1 255 ∷ quiet 2 0 23 255 0 ∷ quiet 2 0 1 0 0 ∷
    quiet 2 0 7 0 0 ∷ quiet 2 0 23 255 1 ∷ quiet 2 0 1 1 0 ∷ quiet 2 0 7 1 0 ∷ quiet 2 0 20 0 255 ∷ quiet 2 0 20 1 255 ∷
    quiet 2 0 21 255 0 ∷ quiet 2 0 1 0 0 ∷ quiet 2 0 1 0 0 ∷ quiet 2 0 1 0 0 ∷ about 2 0 4 0 0 1 0 ∷ quiet 3 0 1 0 0 ∷
    quiet 3 0 7 0 0 ∷ quiet 3 0 21 255 1 ∷ quiet 3 0 1 1 0 ∷ quiet 3 0 1 1 0 ∷ quiet 3 0 1 1 0 ∷ from 0 1 0 (about 3 0 4 1 0 1 0) ∷
    quiet 4 0 1 1 0 ∷ quiet 4 0 7 1 0 ∷ about 4 0 18 0 0 1 0 ∷ quiet 4 0 20 0 255 ∷ from 0 1 0 (about 4 0 18 1 0 1 0) ∷ []

-- its entries where the choices are all 5
abbrev pub clash_late : List Entry
clash_late =
    quiet 2 1 5 1 0 ∷ quiet 2 1 22 1 255 ∷ quiet 1 0 5 0 0 ∷ quiet 1 0 22 0 255 ∷ quiet 2 1 23 255 1 ∷ quiet 2 1 23 255 0 ∷
    quiet 2 1 1 1 0 ∷ quiet 2 1 7 1 0 ∷ quiet 2 1 20 1 255 ∷ quiet 2 1 21 255 1 ∷ quiet 2 1 1 1 0 ∷ quiet 2 1 1 1 0 ∷ quiet 2 1 1 1 0 ∷
    about 2 1 4 1 0 1 0 ∷ about 3 2 18 1 0 1 0 ∷ quiet 3 2 19 0 1 ∷ quiet 2 1 1 1 0 ∷ quiet 2 1 7 1 0 ∷ quiet 2 1 20 1 255 ∷
    quiet 2 1 21 255 1 ∷ quiet 2 1 1 1 0 ∷ quiet 2 1 1 1 0 ∷ quiet 2 1 1 1 0 ∷ from 0 1 0 (about 2 1 4 1 0 1 0) ∷
    from 0 1 0 (about 3 2 18 1 0 1 0) ∷ []

-- its entries where the choices are mixed
abbrev pub clash_mixed : List Entry
clash_mixed =
    quiet 2 1 5 1 0 ∷ quiet 2 0 5 0 0 ∷ quiet 2 0 22 1 255 ∷ quiet 1 0 22 0 255 ∷ quiet 2 1 23 255 1 ∷ quiet 2 1 23 255 0 ∷
    quiet 2 0 1 0 0 ∷ quiet 2 0 7 0 0 ∷ quiet 2 1 20 0 255 ∷ quiet 2 0 1 1 0 ∷ quiet 2 0 7 1 0 ∷ quiet 2 1 20 1 255 ∷
    quiet 2 1 21 255 1 ∷ quiet 2 0 1 1 0 ∷ quiet 2 1 21 255 0 ∷ quiet 2 0 1 0 0 ∷ quiet 2 1 1 1 0 ∷ quiet 2 1 1 1 0 ∷ quiet 2 0 1 0 0 ∷
    quiet 2 0 1 0 0 ∷ about 2 0 4 0 0 1 0 ∷ from 0 1 0 (about 3 1 4 1 0 1 0) ∷ quiet 4 1 1 1 0 ∷ from 0 1 0 (about 4 3 18 1 0 1 0) ∷
    quiet 4 0 1 0 0 ∷ quiet 4 1 7 1 0 ∷ quiet 4 2 19 0 1 ∷ about 3 1 18 0 0 1 0 ∷ []

-- they come out of the definitions
pub record ClashRecorded : Type 0 where
  pub zeros : Recorded clash (of_workers 2)
      []
      clash_zeros its_end []
  pub late : Recorded clash (of_workers 2)
      (replicate 25 5)
      clash_late its_end []
  pub mixed : Recorded clash (of_workers 2)
      (1 ∷ 0 ∷ 2 ∷ 5 ∷ 3 ∷ 1 ∷ 4 ∷ 0 ∷ 7 ∷ 2 ∷ 2 ∷ 9 ∷ 1 ∷ 0 ∷ 3 ∷ 6 ∷ 5 ∷ 1 ∷ 8 ∷ 0 ∷ 2 ∷ 4 ∷ 1 ∷ 3 ∷ 0 ∷ 5 ∷ 2 ∷ 7 ∷ [])
      clash_mixed its_end []
