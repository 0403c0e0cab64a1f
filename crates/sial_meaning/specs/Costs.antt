-- What a checker of the rule needs: room for blocks, and steps.
use Rattle.std.specs.Prelude.{ℕ, zero, suc, ◌+◌, ◌*◌, ◌^◌, min, max, List, map, filter, length, sum_by, ◌||◌}
use Rattle.sial_syntax.specs.declared.array.ArrayDecl.{ArrayDecl}
use Rattle.sial_syntax.specs.declared.array.ArrayKind.{ArrayKind}
use Rattle.sial_syntax.specs.declared.array.ArrayKind.TheVariants.{Static, Temp, Local, Distributed, Served}
use Rattle.sial_syntax.specs.Boxes.{numbers_from, volume}
use Rattle.sial_syntax.specs.Spaces.{Spaces, first_of, count_of, pieces_of, box_of, blocks_of, same_kind, words_in, numbers_at}
use Rattle.sial_syntax.specs.Widths.{most_of, widest_block}
use Rattle.sial_syntax.specs.Tree.{Block, End, Then, Plain, Do, DoIn, Pardo, If, IfElse, Call, Get, Request, Put, Prepare, Create, Delete, Collective, SipBarrier, ServerBarrier}
use Rattle.sial_meaning.specs.Setting.{Setting, procedure_body}
use Rattle.sial_meaning.specs.Meaning.{call_depth}
use Rattle.sial_meaning.specs.Statement.{reads_of}

-- the words of the widest block of all arrays, at least 1
abbrev pub block_width : Setting → ℕ
block_width g = max 1 (most_of (map (λ (a : ArrayDecl). widest_block g.spaces a.dims) g.program.arrays))

-- the elements of all blocks of an array
abbrev pub elements_of : Spaces → ArrayDecl → ℕ
elements_of spaces array = sum_by (λ n. words_in spaces array.dims (numbers_at spaces array.dims n)) (numbers_from 0 (blocks_of spaces array))

-- the arrays of two kinds
abbrev pub arrays_of : Setting → ArrayKind → ArrayKind → List ArrayDecl
arrays_of g one other = filter (λ (a : ArrayDecl). same_kind a.kind one || same_kind a.kind other) g.program.arrays

-- the elements of all shared arrays, and as many of the widest blocks as there are static and local blocks, temps and three more
abbrev pub sequential_words : Setting → ℕ
sequential_words g =
    sum_by (elements_of g.spaces) (arrays_of g Distributed Served)
    + block_width g * (sum_by (blocks_of g.spaces) (arrays_of g Static Local) + (length (arrays_of g Temp Temp) + 3))

-- a number of steps; one that is above the limit is kept as the next above it
abbrev pub capped : ℕ → ℕ
capped n = min n (2 ^ 62 + 1)

-- the most pieces of a subindex in a segment of its super index's range
abbrev pub most_pieces : Setting → (sub index : ℕ) → ℕ
most_pieces g sub index = most_of (map (pieces_of g.spaces sub) (numbers_from (first_of g.spaces index) (count_of g.spaces index)))

abbrev mutual
  -- the steps of statements, where calls have a number of steps
  pub block_cost : Setting → (ℕ → ℕ) → Block → ℕ
  block_cost g call End = 0
  block_cost g call (Then line form rest) = capped (form_cost g call form + block_cost g call rest)

  -- the steps of one statement; both branches of an `if` count
  pub form_cost : Setting → (ℕ → ℕ) → Plain → ℕ
  form_cost g call (Do index body) = capped (1 + count_of g.spaces index * (1 + block_cost g call body))
  form_cost g call (DoIn sub index body) = capped (1 + most_pieces g sub index * (1 + block_cost g call body))
  form_cost g call (Pardo indices wheres body) = capped (2 + volume (box_of g.spaces indices) * (1 + block_cost g call body))
  form_cost g call (If test body) = capped (2 + block_cost g call body)
  form_cost g call (IfElse test body other) = capped (2 + (block_cost g call body + block_cost g call other))
  form_cost g call (Call procedure) = capped (2 + call procedure)
  form_cost g call (Get block) = 3
  form_cost g call (Request block) = 3
  form_cost g call (Put block how from) = 3
  form_cost g call (Prepare block how from) = 4
  form_cost g call (Create array) = 3
  form_cost g call (Delete array) = 3
  form_cost g call SipBarrier = 3
  form_cost g call ServerBarrier = 3
  form_cost g call (Collective into from) = 3
  form_cost g call form = 1 + 3 * length (reads_of g form)

-- the steps of a procedure that may call so deep
abbrev pub call_cost : Setting → (depth procedure : ℕ) → ℕ
call_cost g zero procedure = 0
call_cost g (suc depth) procedure = block_cost g (call_cost g depth) (procedure_body g procedure)

-- the steps that a checker of the rule takes at the most
abbrev pub sequential_steps : Setting → ℕ
sequential_steps g = block_cost g (call_cost g call_depth) g.program.body
