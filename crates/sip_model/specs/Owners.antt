-- A shared block at its owner: its elements, its mark, and what an access makes of it.
use Rattle.std.specs.Prelude.{ℕ, ◌+◌, ◌-◌, List, [], map, Bool, ◌==◌, ◌&&◌, if◌then◌else◌, nat_le, nat_lt, slice_index_or, Option, Some, None}
use Rattle.std.specs.List.{enumerate_from}
use Rattle.sial_syntax.specs.declared.access.Access.{Access}
use Rattle.sial_syntax.specs.declared.access.Access.TheVariants.{Read, Add, Max, Store}
use Rattle.sial_syntax.specs.declared.access.Class.TheVariants.{Distributed, Served}
use Rattle.sial_meaning.specs.declared.clash.Clash.{Clash}
use Rattle.sial_meaning.specs.Access.{Mark, clash_of, mark_after}
use Rattle.sial_meaning.specs.Setting.{Setting, block_count, first_of_class, zeros}
use Rattle.sial_meaning.specs.State.{accessed_words, start_blocks}
use Rattle.sip_model.specs.declared.options.Options.{Options}
use Rattle.sip_model.specs.Placement.{home_of}

-- a shared block where it lives; one that isn't there has no elements
pub record Cell : Type 0 where
  pub words : List ℕ
  pub mark : Option Mark

-- an access: its epoch, its kind and its line, and the elements that it brings
pub record Accessing : Type 0 where
  pub epoch : ℕ
  pub kind : Access
  pub line : ℕ
  pub words : List ℕ

-- a read
abbrev pub reading : (epoch line : ℕ) → Accessing
reading epoch line = record { epoch = epoch; kind = Read; line = line; words = [] }

-- a write of this kind
abbrev pub writing : (epoch : ℕ) → Access → (line : ℕ) → (words : List ℕ) → Accessing
writing epoch how line words = record { epoch = epoch; kind = how; line = line; words = words }

-- no block and no mark
abbrev pub no_cell : Cell
no_cell = record { words = []; mark = None }

-- the block of this number
abbrev pub cell_at : List Cell → (block : ℕ) → Cell
cell_at cells block = slice_index_or cells block no_cell

-- the clash of an access with the mark of a block, if any
abbrev pub clash_at : Cell → Accessing → Option Clash
clash_at cell access = clash_of cell.mark access.epoch access.kind access.line

-- a block's elements after an access; a read leaves them
abbrev pub words_after : Access → (old words : List ℕ) → List ℕ
words_after Read old words = old
words_after Add old words = accessed_words Add old words
words_after Max old words = accessed_words Max old words
words_after Store old words = accessed_words Store old words

-- the mark of a block after an access that stands
abbrev pub marked : Cell → Accessing → Cell
marked cell access = record cell { mark = Some (mark_after cell.mark access.epoch access.kind access.line) }

-- a block at its home after an access that stands
abbrev pub accessed_at : Cell → Accessing → Cell
accessed_at cell access = record (marked cell access) { words = words_after access.kind cell.words access.words }

-- whether a block is one of an array's, by its number among the blocks of its class
abbrev pub is_of_array : Setting → (array block : ℕ) → Bool
is_of_array g array block = nat_le (first_of_class g array) block && nat_lt block (first_of_class g array + block_count g array)

-- whether a block of an array lives at a worker
abbrev pub is_homed : Setting → Options → (worker array block : ℕ) → Bool
is_homed g o worker array block = (home_of o block == worker) && is_of_array g array block

-- a block at its number, other elements in it where a test holds
abbrev pub refilled : (ℕ → Bool) → (ℕ → List ℕ) → ℕ × Cell → Cell
refilled test words e = if test e.0 then record e.1 { words = words e.0 } else e.1

-- the blocks of an array that live at a worker made zeros
abbrev pub made : Setting → Options → (worker array : ℕ) → List Cell → List Cell
made g o worker array cells =
    map (refilled (is_homed g o worker array) (λ k. zeros g array (k - first_of_class g array))) (enumerate_from 0 cells)

-- the blocks of an array that live at a worker taken away
abbrev pub taken_away : Setting → Options → (worker array : ℕ) → List Cell → List Cell
taken_away g o worker array cells = map (refilled (is_homed g o worker array) (λ k. [])) (enumerate_from 0 cells)

-- blocks made where an array is named
abbrev pub made_if : Setting → Options → (worker : ℕ) → Option ℕ → List Cell → List Cell
made_if g o worker None cells = cells
made_if g o worker (Some array) cells = made g o worker array cells

-- blocks taken away where an array is named
abbrev pub taken_away_if : Setting → Options → (worker : ℕ) → Option ℕ → List Cell → List Cell
taken_away_if g o worker None cells = cells
taken_away_if g o worker (Some array) cells = taken_away g o worker array cells

-- distributed blocks as the program begins: none is there
abbrev pub start_homed : Setting → List Cell
start_homed g = map (λ (words : List ℕ). no_cell) (start_blocks g Distributed)

-- served blocks as the program begins, in the store
abbrev pub start_stored : Setting → List Cell
start_stored g = map (λ (words : List ℕ). record no_cell { words = words }) (start_blocks g Served)
