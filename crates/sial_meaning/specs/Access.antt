-- Accesses to shared blocks, their log, which of them may stand together, and the mark that a block keeps.
use Rattle.std.specs.Prelude.{ℕ, List, [], ◌∷◌, ◌++◌, Bool, true, false, ◌==◌, ◌&&◌, not, if◌then◌else◌, Option, Some, None, find}
use Rattle.std.specs.List.{list_any}
use Rattle.sial_syntax.specs.declared.access.Access.{Access}
use Rattle.sial_syntax.specs.declared.access.Access.TheVariants.{Read, Add, Max}
use Rattle.sial_syntax.specs.declared.access.Class.{Class}
use Rattle.sial_meaning.specs.declared.clash.Clash.{Clash}
use Rattle.sial_syntax.specs.Spaces.{same_class}

-- one access to a shared block, with the epoch of its class and the text line of its statement
pub record Touch : Type 0 where
  pub class : Class
  pub epoch : ℕ
  pub block : ℕ
  pub kind : Access
  pub line : ℕ

-- whether two accesses to one block may stand together in an epoch: only reads, only adds or only maxes
abbrev pub may_stand : Access → Access → Bool
may_stand Read Read = true
may_stand Add Add = true
may_stand Max Max = true
may_stand _ _ = false

-- whether two accesses are to one block in one epoch of one class
abbrev pub same_place : Touch → Touch → Bool
same_place a b = same_class a.class b.class && (a.epoch == b.epoch && a.block == b.block)

-- whether an access may not stand together with an earlier one
abbrev pub clashes : Touch → Touch → Bool
clashes later earlier = same_place later earlier && not (may_stand earlier.kind later.kind)

-- an access and the first one to its block in its epoch
abbrev pub clash_with : Touch → Option Touch → Clash
clash_with later None = record { later = later.kind; later_line = later.line; earlier = later.kind; earlier_line = later.line }
clash_with later (Some first) = record { later = later.kind; later_line = later.line; earlier = first.kind; earlier_line = first.line }

-- a clash with where it is: class, block and epoch
pub record Found : Type 0 where
  pub class : Class
  pub block : ℕ
  pub epoch : ℕ
  pub clash : Clash

-- the clash of an access, named with the first earlier access to its block in its epoch
abbrev pub found : List Touch → Touch → Found
found before touch = record { class = touch.class; block = touch.block; epoch = touch.epoch; clash = clash_with touch (find (same_place touch) before) }

-- the first access of a log that may not stand together with an earlier one, after some that were looked at
abbrev pub first_clash : List Touch → List Touch → Option Found
first_clash before [] = None
first_clash before (t ∷ ts) = if list_any (clashes t) before then Some (found before t) else first_clash (before ++ t ∷ []) ts

-- the mark of a block: the epoch, kind and line of the first access in the last epoch that touched it
pub record Mark : Type 0 where
  pub epoch : ℕ
  pub kind : Access
  pub line : ℕ

-- whether a mark refuses an access
abbrev pub refuses : Mark → (epoch : ℕ) → Access → Bool
refuses mark epoch kind = (mark.epoch == epoch) && not (may_stand mark.kind kind)

-- the clash of an access with a block's mark, none where both may stand
abbrev pub clash_of : Option Mark → (epoch : ℕ) → Access → (line : ℕ) → Option Clash
clash_of None epoch kind line = None
clash_of (Some mark) epoch kind line =
    if refuses mark epoch kind then Some (record { later = kind; later_line = line; earlier = mark.kind; earlier_line = mark.line }) else None

-- the mark after an access that stands: that of the same epoch stays, any other is replaced
abbrev pub mark_after : Option Mark → (epoch : ℕ) → Access → (line : ℕ) → Mark
mark_after None epoch kind line = record { epoch = epoch; kind = kind; line = line }
mark_after (Some mark) epoch kind line = if mark.epoch == epoch then mark else record { epoch = epoch; kind = kind; line = line }
