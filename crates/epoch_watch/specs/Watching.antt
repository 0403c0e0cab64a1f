-- What contracts see of a watch, and for which accesses it stands.
use Rattle.std.specs.Prelude.{◌≡◌, ℕ, ◌≤◌, List, [], ◌∷◌, Option, None, All, AllPairs, length}
use Rattle.access_marks.specs.Marks.{mark_at}
use Rattle.epoch_watch.specs.declared.conflict.Conflict.{Conflict}
use Rattle.sial_meaning.specs.Access.{Touch, Mark, Found, first_clash}
use Rattle.sial_meaning.specs.MarkLaws.{Marks, no_marks, marked, NeverFalls}
use Rattle.sial_meaning.specs.State.{Epochs, epoch_of}
use Rattle.sial_syntax.specs.declared.access.Access.{Access}
use Rattle.sial_syntax.specs.declared.access.Class.{Class}
use Rattle.sial_syntax.specs.declared.access.Class.TheVariants.{Distributed, Served}

-- the marks of the blocks of both classes, the present epochs, and how many accesses were noted
pub record Watched : Type 0 where
  pub distributed : List (Option Mark)
  pub served : List (Option Mark)
  pub epochs : Epochs
  pub accesses : ℕ

-- the marks of a class
abbrev pub marks_of : Watched → Class → List (Option Mark)
marks_of w Distributed = w.distributed
marks_of w Served = w.served

-- one class with other marks
abbrev pub with_marks : Watched → Class → List (Option Mark) → Watched
with_marks w Distributed marks = record w { distributed = marks }
with_marks w Served marks = record w { served = marks }

-- an access in the present epoch of its class
abbrev pub touch : Epochs → Class → (block : ℕ) → Access → (line : ℕ) → Touch
touch epochs class block kind line = record { class = class; epoch = epoch_of epochs class; block = block; kind = kind; line = line }

-- the marks of all blocks after accesses, in order
abbrev pub marks_after : Marks → List Touch → Marks
marks_after marks [] = marks
marks_after marks (t ∷ ts) = marks_after (marked marks t) ts

-- a watch stands for these epochs and this log of accesses, none of which clashes with an earlier one
pub record Watches (w : Watched) (epochs : Epochs) (log : List Touch) : Type 0 where
  pub epochs_are : w.epochs ≡ epochs
  pub accesses : w.accesses ≡ length log
  pub marks : (class : Class) (block : ℕ) → mark_at (marks_of w class) block ≡ marks_after no_marks log class block
  pub clear : first_clash [] log ≡ None
  pub in_order : AllPairs NeverFalls log
  pub past : All (λ (t : Touch). t.epoch ≤ epoch_of epochs t.class) log

-- the clash that a conflict tells, with where it is
abbrev pub found_of : Conflict → Found
found_of c = record { class = c.class; block = c.block; epoch = c.epoch; clash = c.clash }
