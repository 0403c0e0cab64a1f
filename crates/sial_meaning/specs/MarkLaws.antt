-- The marks of blocks find the same first clash as the pairs of a log.
use Rattle.std.specs.Prelude.{◌≡◌, ℕ, ◌≤◌, List, [], ◌∷◌, ◌==◌, ◌&&◌, if◌then◌else◌, Option, Some, None, AllPairs, IsTrue}
use Rattle.sial_syntax.specs.declared.access.Class.{Class}
use Rattle.sial_meaning.specs.Access.{Touch, Found, Mark, first_clash, clash_of, mark_after}
use Rattle.sial_meaning.specs.Accepted.{log_of}
use Rattle.sial_meaning.specs.declared.clash.Clash.{Clash}
use Rattle.sial_meaning.specs.Meaning.{meaning, sequential}
use Rattle.sial_meaning.specs.Setting.{Setting}
use Rattle.sial_meaning.specs.Statement.{Reading}
use Rattle.sial_syntax.specs.Spaces.{same_class}

-- the mark of each block of each class
abbrev pub Marks : Type 0
Marks = Class → ℕ → Option Mark

-- no block has a mark
abbrev pub no_marks : Marks
no_marks class block = None

-- the marks after an access that stands: that of its block alone changes
abbrev pub marked : Marks → Touch → Marks
marked marks t class block =
    if same_class t.class class && (t.block == block) then Some (mark_after (marks class block) t.epoch t.kind t.line) else marks class block

-- the clash that an access meets, or a later one
abbrev pub found_or : Touch → Option Clash → Option Found → Option Found
found_or t None later = later
found_or t (Some clash) later = Some (record { class = t.class; block = t.block; epoch = t.epoch; clash = clash })

-- the first clash that the marks find, access by access
abbrev pub marks_find : Marks → List Touch → Option Found
marks_find marks [] = None
marks_find marks (t ∷ ts) = found_or t (clash_of (marks t.class t.block) t.epoch t.kind t.line) (marks_find (marked marks t) ts)

-- a later access of the same class is in no lower epoch
abbrev pub NeverFalls : Touch → Touch → Type 0
NeverFalls earlier later = IsTrue (same_class earlier.class later.class) → earlier.epoch ≤ later.epoch

-- where the epochs of each class never fall, the marks find the first access that may not stand together with an earlier one, and name the same clash
abbrev pub MarksFindFirstClash : Type 0
MarksFindFirstClash = (log : List Touch) → AllPairs NeverFalls log → marks_find no_marks log ≡ first_clash [] log

-- the log of a program is such a log, whichever blocks its reads see
abbrev pub EpochsNeverFall : Type 0
EpochsNeverFall = (reading : Reading) (g : Setting) → AllPairs NeverFalls (log_of (meaning reading g))

-- so the marks find the first clash of each program
abbrev pub MarksFindClashOfProgram : Type 0
MarksFindClashOfProgram = (g : Setting) → marks_find no_marks (log_of (sequential g)) ≡ first_clash [] (log_of (sequential g))
