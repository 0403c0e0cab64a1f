-- Where tables name what isn't there: a thing or a text by its number.
use Rattle.std.specs.Prelude.{◌≡◌, ◌⊎◌, ℕ, ◌+◌, ◌<◌, ◌≤◌, List, ◌++◌, false, length, take, Some, slice_get}
use Rattle.sial_syntax.specs.Limits.{most_statements}
use Rattle.sial_syntax.specs.Proper.{IsProper}
use Rattle.sial_syntax.specs.Tree.{Tree}
use Rattle.sip_tables.specs.declared.instruction.Instruction.{Instruction}
use Rattle.sip_tables.specs.Entries.{procedure_entries}
use Rattle.sip_tables.specs.Flatten.{flatten}
use Rattle.sip_tables.specs.Lists.{Lists}
use Rattle.sip_tables.specs.Texts.{names, scalar_names}
use Rattle.table_verify.specs.JumpFaults.{IsFront}
use Rattle.table_verify.specs.Reading.{entries_in}
use Rattle.table_verify.specs.Things.{is_right, prints_in, begun_in}

-- a proper program declares what tables declare: its names are their first texts, and its entries theirs, wherever procedures start
pub record Declares (t : Lists) (p : Tree) : Type 0 where
  pub proper : IsProper p
  pub others : List (List ℕ)
  pub texts : t.texts ≡ names p ++ others
  pub indices : t.indices ≡ (flatten p).indices
  pub arrays : t.arrays ≡ (flatten p).arrays
  pub scalars : t.scalars ≡ (flatten p).scalars
  pub procedures : t.procedures ≡ procedure_entries (length (scalar_names p)) (entries_in t.procedures)
  pub many : length t.procedures ≡ length p.procedures

-- there is one, no text is left when all of the code has printed, and no more statements begin in it than a program may have
pub record OutsideIsRight (t : Lists) (p : Tree) : Type 0 where
  pub declares : Declares t p
  pub used : length t.texts ≤ length (names p) + prints_in t.code
  pub few : begun_in t.code ≤ most_statements

-- an instruction before the break of nesting names what the program that declares all this hasn't, or prints another text than the next one,
-- or one that may not be printed
pub record InstructionIsOther (at : ℕ) (t : Lists) : Type 0 where
  pub count : ℕ
  pub front : IsFront count t
  pub before : at < count
  pub program : Tree
  pub outside : OutsideIsRight t program
  pub instruction : Instruction
  pub stands : slice_get t.code at ≡ Some instruction
  pub other : is_right program t.texts (length (names program) + prints_in (take at t.code)) instruction.operation ≡ false

-- a number is wrong at an instruction; what stands outside of the code counts as the first
abbrev pub NumberAt : ℕ → Lists → Type 0
NumberAt at t = InstructionIsOther at t ⊎ ((at ≡ 0) × ((p : Tree) → OutsideIsRight t p → ⊥))
