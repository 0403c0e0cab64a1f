-- Recorded runs of an array that is created twice with two workers, entry by entry, under three lists of choices.
use Rattle.std.specs.Prelude.{List, [], ◌∷◌, replicate}
use Rattle.sial_meaning.specs.declared.trap.TrapKind.TheVariants.{AlreadyCreated}
use Rattle.sial_worked.specs.Twice.{twice}
use Rattle.sip_model.specs.declared.entry.Entry.{Entry}
use Rattle.sip_model.specs.Legal.{Standing, InTrap}
use Rattle.machine_worked.specs.Records.{quiet, of_workers, Recorded}

-- the trap with which it ends, at worker 0
abbrev pub at_worker_0 : Standing
at_worker_0 = InTrap (record { kind = AlreadyCreated; line = 6 }) 0

-- the trap with which it ends, at worker 1
abbrev pub at_worker_1 : Standing
at_worker_1 = InTrap (record { kind = AlreadyCreated; line = 6 }) 1

-- its entries where each choice is 0
abbrev pub twice_zeros : List Entry
twice_zeros =
    quiet 2 0 5 0 0 ∷ quiet 2 0 5 1 0 ∷ quiet 2 0 22 0 255 ∷ quiet 1 0 22 1 255 ∷ quiet 2 0 23 255 0 ∷ quiet 2 0 8 0 0 ∷ []

-- its entries where the choices are all 5
abbrev pub twice_late : List Entry
twice_late =
    quiet 2 1 5 1 0 ∷ quiet 2 1 22 1 255 ∷ quiet 1 0 5 0 0 ∷ quiet 1 0 22 0 255 ∷ quiet 2 1 23 255 1 ∷ quiet 2 1 23 255 0 ∷
    quiet 2 1 8 1 0 ∷ []

-- its entries where the choices are mixed
abbrev pub twice_mixed : List Entry
twice_mixed =
    quiet 2 1 5 1 0 ∷ quiet 2 0 5 0 0 ∷ quiet 2 0 22 1 255 ∷ quiet 1 0 22 0 255 ∷ quiet 2 1 23 255 1 ∷ quiet 2 1 23 255 0 ∷
    quiet 2 0 8 0 0 ∷ []

-- they come out of the definitions
pub record TwiceRecorded : Type 0 where
  pub zeros : Recorded twice (of_workers 2)
      []
      twice_zeros at_worker_0 []
  pub late : Recorded twice (of_workers 2)
      (replicate 7 5)
      twice_late at_worker_1 []
  pub mixed : Recorded twice (of_workers 2)
      (1 ∷ 0 ∷ 2 ∷ 5 ∷ 3 ∷ 1 ∷ 4 ∷ [])
      twice_mixed at_worker_0 []
