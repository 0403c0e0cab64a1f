-- What control becomes.
use Rattle.std.specs.Prelude.{◌≡◌, ℕ, ◌+◌, ◌-◌, ◌^◌, ◌<◌, List, [], ◌∷◌, ◌++◌, take, length, replicate, slice_set, Bool, true, false, Result, Ok, Err}
use Rattle.sial_meaning.specs.declared.trap.Trap.{Trap}
use Rattle.sial_meaning.specs.LocalStep.{Answer}
use Rattle.sial_meaning.specs.Statement.{trap_at}
use Rattle.exec_control.specs.Position.{Position}

-- the cursor somewhere else
abbrev pub moved : (to : ℕ) → Position → Position
moved to c = record {
  at = to;
  values = c.values;
  returns = c.returns;
  saved = c.saved;
  lasts = c.lasts;
}

-- an index bound to a number, and the cursor somewhere else
abbrev pub bound_at : (to index number : ℕ) → Position → Position
bound_at to index number c = record {
  at = to;
  values = slice_set c.values index number;
  returns = c.returns;
  saved = c.saved;
  lasts = c.lasts;
}

-- a loop begins at its first number
abbrev pub begun : (to index first last : ℕ) → Position → Position
begun to index first last c = record {
  at = to;
  values = slice_set c.values index first;
  returns = c.returns;
  saved = c.saved;
  lasts = c.lasts ++ last ∷ [];
}

-- the loop that began last is left
abbrev pub left : (to index : ℕ) → Position → Position
left to index c = record {
  at = to;
  values = slice_set c.values index 0;
  returns = c.returns;
  saved = c.saved;
  lasts = take (length c.lasts - 1) c.lasts;
}

-- a procedure is called
abbrev pub called : (entry : ℕ) → Position → Position
called entry c = record {
  at = entry;
  values = replicate (length c.values) 0;
  returns = c.returns ++ (c.at + 1) ∷ [];
  saved = c.saved ++ c.values ∷ [];
  lasts = c.lasts;
}

-- a branch by its condition: on, or to where it fails; a trap changes nothing
abbrev pub IsBranched : (old new : Position) → (line otherwise : ℕ) → Answer Bool → Result (Unit {0}) Trap → Type 0
IsBranched old new line otherwise (Ok true) result = (result ≡ Ok tt) × (old.at + 1 < 2 ^ 32 → new ≡ moved (old.at + 1) old)
IsBranched old new line otherwise (Ok false) result = (result ≡ Ok tt) × (new ≡ moved otherwise old)
IsBranched old new line otherwise (Err kind) result = (result ≡ Err (trap_at line kind)) × (new ≡ old)

-- these indices bound to the members of a tuple, one after the other
abbrev pub all_set : List ℕ → List ℕ → List ℕ → List ℕ
all_set [] tuple values = values
all_set (i ∷ is) [] values = values
all_set (i ∷ is) (n ∷ ns) values = all_set is ns (slice_set values i n)
