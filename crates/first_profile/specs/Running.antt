-- The numbers that the small evaluator keeps, and what the sequential meaning makes of them.
use Rattle.std.specs.Prelude.{ℕ, ◌-◌, List, [], ◌∷◌, ◌++◌, map, length, replicate, slice_index_or, slice_set, decimal, codes, Some, unwrap_or}
use Rattle.sial_syntax.specs.Boxes.{numbers_from}
use Rattle.sial_syntax.specs.Spaces.{first_of, count_of, kind_of, segment}
use Rattle.sial_syntax.specs.Tree.{Block, Plain}
use Rattle.sial_syntax.specs.declared.array.ArrayDecl.{ArrayDecl}
use Rattle.sial_syntax.specs.declared.operand.BlockRef.{BlockRef}
use Rattle.sial_meaning.specs.Meaning.{form_meaning, block_meaning, calls, call_depth}
use Rattle.sial_meaning.specs.Own.{start_own}
use Rattle.sial_meaning.specs.Setting.{Setting, Given}
use Rattle.sial_meaning.specs.State.{State, start_state}
use Rattle.sial_meaning.specs.Statement.{Outcome, Went, Stopped, Present}
use Rattle.sip_setting.specs.Printing.{lines_of}

-- the numbers of a run: those of indices and scalars, and the static blocks of each array
pub record Numbers : Type 0 where
  pub values : List ℕ
  pub scalars : List ℕ
  pub statics : List (List (List ℕ))

-- the first index of a block
abbrev pub only_index : List ℕ → ℕ
only_index indices = slice_index_or indices 0 0

-- the number of a block within its array
abbrev pub number_in : Setting → Numbers → BlockRef → ℕ
number_in g m block = slice_index_or m.values (only_index block.at) 0 - first_of g.spaces (only_index block.at)

-- the elements of a block
abbrev pub words_of : Setting → Numbers → BlockRef → List ℕ
words_of g m block = slice_index_or (slice_index_or m.statics block.array []) (number_in g m block) []

-- a block with other elements
abbrev pub with_words : Setting → BlockRef → List ℕ → Numbers → Numbers
with_words g block words m =
    record m { statics = slice_set m.statics block.array (slice_set (slice_index_or m.statics block.array []) (number_in g m block) words) }

-- a scalar with another number
abbrev pub with_scalar : (scalar number : ℕ) → Numbers → Numbers
with_scalar scalar number m = record m { scalars = slice_set m.scalars scalar number }

-- the number of a scalar
abbrev pub scalar_in : Numbers → ℕ → ℕ
scalar_in m scalar = slice_index_or m.scalars scalar 0

-- an index with a number
abbrev pub with_value : (index number : ℕ) → Numbers → Numbers
with_value index number m = record m { values = slice_set m.values index number }

-- the line of a scalar
abbrev pub line_of : Setting → Numbers → ℕ → List ℕ
line_of g m scalar = slice_index_or g.program.scalars scalar [] ++ (codes " " ++ decimal (scalar_in m scalar))

-- the segments of an index
abbrev pub segments_in : Setting → (index : ℕ) → List ℕ
segments_in g index = numbers_from (first_of g.spaces index) (count_of g.spaces index)

-- the state of the meaning that numbers stand for, after lines
abbrev pub state_of : Setting → Numbers → List (List ℕ) → State
state_of g m lines = record (start_state g) {
  own = record (start_own g) { values = m.values; scalars = map Some m.scalars; statics = m.statics };
  lines = lines;
}

-- the numbers of a state
abbrev pub numbers_in : State → Numbers
numbers_in s = record { values = s.own.values; scalars = map (λ n. unwrap_or n 0) s.own.scalars; statics = s.own.statics }

-- the numbers where something led
abbrev pub numbers_of : Outcome → Numbers
numbers_of (Went s) = numbers_in s
numbers_of (Stopped trap s) = numbers_in s

-- where the sequential meaning of one statement leads from numbers
abbrev pub form_leads : Setting → Plain → Numbers → Outcome
form_leads g form m = form_meaning Present g (calls Present g call_depth) 0 form (state_of g m [])

-- where that of some statements leads
abbrev pub body_leads : Setting → Block → Numbers → Outcome
body_leads g body m = block_meaning Present g (calls Present g call_depth) body (state_of g m [])

-- the numbers after one statement
unfoldable pub form_numbers : Setting → Plain → Numbers → Numbers
form_numbers g form m = numbers_of (form_leads g form m)

-- the numbers after some statements
unfoldable pub body_numbers : Setting → Block → Numbers → Numbers
body_numbers g body m = numbers_of (body_leads g body m)

-- the lines that one statement prints
unfoldable pub form_prints : Setting → Plain → Numbers → List (List ℕ)
form_prints g form m = lines_of (form_leads g form m)

-- the lines that some statements print
unfoldable pub body_prints : Setting → Block → Numbers → List (List ℕ)
body_prints g body m = lines_of (body_leads g body m)

-- how many elements a segment of an index has
abbrev pub segment_len : Setting → (index number : ℕ) → ℕ
segment_len g index number = (segment g.spaces (kind_of g.spaces index) number).len

-- zeros for each segment of the index of a static array
abbrev pub zero_blocks : Setting → ArrayDecl → List (List ℕ)
zero_blocks g array = map (λ k. replicate (segment_len g (only_index array.dims) k) 0) (segments_in g (only_index array.dims))

-- no index bound, the scalars' numbers, and zeros in all blocks
abbrev pub zero_numbers : Setting → Numbers
zero_numbers g = record {
  values = replicate (length g.program.indices) 0;
  scalars = g.numbers;
  statics = map (zero_blocks g) g.program.arrays;
}

-- a block with the elements that are given
abbrev pub with_given : Given → Numbers → Numbers
with_given b m = record m { statics = slice_set m.statics b.array (slice_set (slice_index_or m.statics b.array []) b.number b.words) }

-- all given blocks; of two that are one block the first stays
abbrev pub with_all_given : List Given → Numbers → Numbers
with_all_given [] m = m
with_all_given (b ∷ bs) m = with_given b (with_all_given bs m)

-- the numbers with which the sequential meaning begins
abbrev pub start_numbers : Setting → Numbers
start_numbers g = record { values = (start_own g).values; scalars = g.numbers; statics = (start_own g).statics }
