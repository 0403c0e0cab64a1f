-- How many entries a run has at the most.
use Rattle.std.specs.Prelude.{ℕ, zero, suc, ◌+◌, ◌*◌, length}
use Rattle.sial_syntax.specs.Boxes.{volume}
use Rattle.sial_syntax.specs.Spaces.{count_of, box_of}
use Rattle.sial_syntax.specs.Tree.{Block, End, Then, Plain, Do, DoIn, Pardo, If, IfElse, Call, Get, Request, Put, Prepare, Create, Delete, Collective, SipBarrier, ServerBarrier}
use Rattle.sial_meaning.specs.Costs.{capped, most_pieces, block_cost, call_cost}
use Rattle.sial_meaning.specs.Meaning.{call_depth}
use Rattle.sial_meaning.specs.Setting.{Setting, procedure_body}
use Rattle.sial_meaning.specs.Statement.{reads_of}

-- the entries of a pardo: two of each worker, one for each number and its iteration, and three for each chunk and each word that none is
-- left
abbrev pub pardo_total : (workers box body : ℕ) → ℕ
pardo_total workers box body = 2 * workers + (box * (1 + body) + 3 * (box + workers))

abbrev mutual
  -- the entries of statements for all workers, where calls have a number of entries, and inside pardos a number of steps
  pub block_total : Setting → (workers : ℕ) → (call within : ℕ → ℕ) → Block → ℕ
  block_total g workers call within End = 0
  block_total g workers call within (Then line form rest) =
      capped (form_total g workers call within form + block_total g workers call within rest)

  -- the entries of one statement; both branches of an `if` count, since workers of a refused program may go different ways
  pub form_total : Setting → (workers : ℕ) → (call within : ℕ → ℕ) → Plain → ℕ
  form_total g workers call within (Do index body) =
      capped (workers * (1 + count_of g.spaces index) + count_of g.spaces index * block_total g workers call within body)
  form_total g workers call within (DoIn sub index body) =
      capped (workers * (1 + most_pieces g sub index) + most_pieces g sub index * block_total g workers call within body)
  form_total g workers call within (Pardo indices wheres body) =
      capped (pardo_total workers (volume (box_of g.spaces indices)) (block_cost g within body))
  form_total g workers call within (If test body) = capped (2 * workers + block_total g workers call within body)
  form_total g workers call within (IfElse test body other) =
      capped (2 * workers + (block_total g workers call within body + block_total g workers call within other))
  form_total g workers call within (Call procedure) = capped (2 * workers + call procedure)
  form_total g workers call within (Get block) = 3 * workers
  form_total g workers call within (Request block) = 3 * workers
  form_total g workers call within (Put block how from) = 3 * workers
  form_total g workers call within (Prepare block how from) = 4 * workers
  form_total g workers call within (Create array) = 3 * workers
  form_total g workers call within (Delete array) = 3 * workers
  form_total g workers call within SipBarrier = 3 * workers
  form_total g workers call within ServerBarrier = 3 * workers
  form_total g workers call within (Collective into from) = 3 * workers
  form_total g workers call within form = workers * (1 + 3 * length (reads_of g form))

-- the entries of a procedure that may call so deep
abbrev pub call_total : Setting → (workers depth procedure : ℕ) → ℕ
call_total g workers zero procedure = 0
call_total g workers (suc depth) procedure =
    block_total g workers (call_total g workers depth) (call_cost g depth) (procedure_body g procedure)

-- the entries of a run at the most; a number above the limit is kept as the next above it
abbrev pub step_bound : Setting → (workers : ℕ) → ℕ
step_bound g workers = block_total g workers (call_total g workers call_depth) (call_cost g call_depth) g.program.body
