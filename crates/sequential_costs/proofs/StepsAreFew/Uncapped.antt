-- Steps that are counted past every limit, and no fewer than those of the definition where these keep to it.
use Rattle.std.proofs.Common.{ℕ, zero, suc, ◌+◌, ◌*◌, ◌^◌, ◌≤◌, min, arith}
use Rattle.sial_syntax.specs.Boxes.{volume}
use Rattle.sial_syntax.specs.Spaces.{box_of, count_of}
use Rattle.sial_syntax.specs.Tree.{Block, Plain, End, Then, Do, DoIn, Pardo, If, IfElse, Call, Assign, Get, Request, Put, Prepare, Create, Delete, Allocate, Deallocate, Collective, SipBarrier, ServerBarrier, Print, PrintScalar, Integrals}
use Rattle.sial_meaning.specs.Costs.{block_cost, call_cost, capped, form_cost, most_pieces, sequential_steps}
use Rattle.sial_meaning.specs.Meaning.{call_depth}
use Rattle.sial_meaning.specs.Setting.{Setting, procedure_body}

abbrev mutual
  -- the most steps of statements, where calls have a number of steps
  pub block_steps : Setting → (ℕ → ℕ) → Block → ℕ
  block_steps g call End = 0
  block_steps g call (Then line form rest) = form_steps g call form + block_steps g call rest

  -- the most steps of one statement; one that holds no other is one step
  pub form_steps : Setting → (ℕ → ℕ) → Plain → ℕ
  form_steps g call (Do index body) = 1 + count_of g.spaces index * (1 + block_steps g call body)
  form_steps g call (DoIn sub index body) = 1 + most_pieces g sub index * (1 + block_steps g call body)
  form_steps g call (Pardo indices wheres body) = 2 + volume (box_of g.spaces indices) * (1 + block_steps g call body)
  form_steps g call (If test body) = 2 + block_steps g call body
  form_steps g call (IfElse test body other) = 2 + (block_steps g call body + block_steps g call other)
  form_steps g call (Call procedure) = 2 + call procedure
  form_steps g call form = 1

-- the most steps of a procedure that may call so deep
abbrev pub call_steps : Setting → (depth procedure : ℕ) → ℕ
call_steps g zero procedure = 0
call_steps g (suc depth) procedure = block_steps g (call_steps g depth) (procedure_body g procedure)

-- turns of a body that is kept at the limit
turns_kept : (n b c limit : ℕ) → min b limit ≤ c → min (n * (1 + b)) limit ≤ n * (1 + c)
turns_kept zero b c limit kept = omega arith
turns_kept (suc n) b c limit kept = let before = turns_kept n b c limit kept in omega (arith, before, kept)

-- with steps before them
head_kept : (head x y : ℕ) → min x (2 ^ 62 + 1) ≤ y → capped (head + x) ≤ capped (head + y)
head_kept head x y kept = omega (arith, kept)

-- one after another
both_kept : (x y v w : ℕ) → capped x ≤ v → capped y ≤ w → capped (x + y) ≤ capped (v + w)
both_kept x y v w first second = omega (arith, first, second)

mutual
  -- the definition's steps are no fewer, up to its limit
  block_kept : (g : Setting) (c d : ℕ → ℕ) → ((q : ℕ) → capped (c q) ≤ d q) → (b : Block) → capped (block_steps g c b) ≤ block_cost g d b
  block_kept g c d kept End = omega arith
  block_kept g c d kept (Then line form rest) =
      both_kept (form_steps g c form) (block_steps g c rest) (form_cost g d form) (block_cost g d rest) (form_kept g c d kept form) (block_kept g c d kept rest)

  form_kept : (g : Setting) (c d : ℕ → ℕ) → ((q : ℕ) → capped (c q) ≤ d q) → (form : Plain) → capped (form_steps g c form) ≤ form_cost g d form
  form_kept g c d kept (Do index body) =
      let n = count_of g.spaces index in
      head_kept 1 (n * (1 + block_steps g c body)) (n * (1 + block_cost g d body)) (turns_kept n (block_steps g c body) (block_cost g d body) (2 ^ 62 + 1) (block_kept g c d kept body))
  form_kept g c d kept (DoIn sub index body) =
      let n = most_pieces g sub index in
      head_kept 1 (n * (1 + block_steps g c body)) (n * (1 + block_cost g d body)) (turns_kept n (block_steps g c body) (block_cost g d body) (2 ^ 62 + 1) (block_kept g c d kept body))
  form_kept g c d kept (Pardo indices wheres body) =
      let n = volume (box_of g.spaces indices) in
      head_kept 2 (n * (1 + block_steps g c body)) (n * (1 + block_cost g d body)) (turns_kept n (block_steps g c body) (block_cost g d body) (2 ^ 62 + 1) (block_kept g c d kept body))
  form_kept g c d kept (If test body) = head_kept 2 (block_steps g c body) (block_cost g d body) (block_kept g c d kept body)
  form_kept g c d kept (IfElse test body other) =
      let first = block_kept g c d kept body in
      let second = block_kept g c d kept other in
      ways (block_steps g c body) (block_steps g c other) (block_cost g d body) (block_cost g d other) first second
    where
      ways : (x y v w : ℕ) → capped x ≤ v → capped y ≤ w → capped (2 + (x + y)) ≤ capped (2 + (v + w))
      ways x y v w one other = omega (arith, one, other)
  form_kept g c d kept (Call procedure) = head_kept 2 (c procedure) (d procedure) (kept procedure)
  form_kept g c d kept (Assign target op right) = omega arith
  form_kept g c d kept (Get block) = omega arith
  form_kept g c d kept (Request block) = omega arith
  form_kept g c d kept (Put block how from) = omega arith
  form_kept g c d kept (Prepare block how from) = omega arith
  form_kept g c d kept (Create array) = omega arith
  form_kept g c d kept (Delete array) = omega arith
  form_kept g c d kept (Allocate array at) = omega arith
  form_kept g c d kept (Deallocate array at) = omega arith
  form_kept g c d kept (Collective into from) = omega arith
  form_kept g c d kept SipBarrier = omega arith
  form_kept g c d kept ServerBarrier = omega arith
  form_kept g c d kept (Print text) = omega arith
  form_kept g c d kept (PrintScalar scalar) = omega arith
  form_kept g c d kept (Integrals block) = omega arith

-- so of procedures
call_kept : (g : Setting) (depth q : ℕ) → capped (call_steps g depth q) ≤ call_cost g depth q
call_kept g zero q = omega arith
call_kept g (suc depth) q = block_kept g (call_steps g depth) (call_cost g depth) (call_kept g depth) (procedure_body g q)

-- a program whose number of steps isn't past the limit has no more
pub program_kept : (g : Setting) → sequential_steps g ≤ 2 ^ 62 → block_steps g (call_steps g call_depth) g.program.body ≤ sequential_steps g
program_kept g few = below (block_steps g (call_steps g call_depth) g.program.body) (sequential_steps g) (block_kept g (call_steps g call_depth) (call_cost g call_depth) (call_kept g call_depth) g.program.body) few
  where
    below : (x y : ℕ) → capped x ≤ y → y ≤ 2 ^ 62 → x ≤ y
    below x y kept small = omega (arith, kept, small)

-- each statement is a step
pub some_step : (g : Setting) (call : ℕ → ℕ) (form : Plain) → 1 ≤ form_steps g call form
some_step g call (Do index body) = omega arith
some_step g call (DoIn sub index body) = omega arith
some_step g call (Pardo indices wheres body) = omega arith
some_step g call (If test body) = omega arith
some_step g call (IfElse test body other) = omega arith
some_step g call (Call procedure) = omega arith
some_step g call form = omega arith
