-- The steps of procedures, looked up, are those of the definition.
use Rattle.std.proofs.Common.{◌≡◌, ℕ, zero, suc, ◌+◌, ◌*◌, List, [], ◌∷◌, ◌++◌, map, length, replicate, slice_index_or, refl, ap, ◌∙◌}
use Rattle.sial_syntax.specs.Boxes.{volume}
use Rattle.sial_syntax.specs.Spaces.{box_of, count_of}
use Rattle.sial_syntax.specs.declared.program.Proc.{Proc}
use Rattle.sip_setting.specs.Seen.{setting_of}
use Rattle.sip_setting.specs.declared.granted.Granted.{Granted}
use Rattle.sial_syntax.specs.Tree.{Procedure, Block, block, procedure, Plain, End, Then, Do, DoIn, Pardo, If, IfElse, Call, Assign, Get, Request, Put, Prepare, Create, Delete, Allocate, Deallocate, Collective, SipBarrier, ServerBarrier, Print, PrintScalar, Integrals}
use Rattle.sial_meaning.specs.Costs.{block_cost, call_cost, capped, form_cost, most_pieces}
use Rattle.sial_meaning.specs.Setting.{Setting, procedure_body}
use Rattle.sial_meaning.specs.LocalStep.{shared_operand}
use Rattle.sial_syntax.specs.declared.operand.BlockRef.{BlockRef}
use Rattle.sial_syntax.specs.declared.operand.Operand.{Operand}
use Rattle.sial_syntax.specs.declared.operand.Operand.TheVariants as operand
use Rattle.sial_syntax.specs.declared.operand.Right.TheVariants.{One, Two}
use Rattle.sequential_costs.specs.Over.{over}
use Rattle.sequential_costs.specs.Called.{among, costs_after, with_calls}

mutual
  -- procedures of the same steps
  block_same : (g : Setting) (c d : ℕ → ℕ) → ((q : ℕ) → c q ≡ d q) → (b : Block) → block_cost g c b ≡ block_cost g d b
  block_same g c d same End = refl
  block_same g c d same (Then line form rest) =
      ap (λ n. capped (n + block_cost g c rest)) (form_same g c d same form) ∙ ap (λ n. capped (form_cost g d form + n)) (block_same g c d same rest)

  form_same : (g : Setting) (c d : ℕ → ℕ) → ((q : ℕ) → c q ≡ d q) → (form : Plain) → form_cost g c form ≡ form_cost g d form
  form_same g c d same (Do index body) = ap (λ n. capped (1 + count_of g.spaces index * (1 + n))) (block_same g c d same body)
  form_same g c d same (DoIn sub index body) = ap (λ n. capped (1 + most_pieces g sub index * (1 + n))) (block_same g c d same body)
  form_same g c d same (Pardo indices wheres body) = ap (λ n. capped (2 + volume (box_of g.spaces indices) * (1 + n))) (block_same g c d same body)
  form_same g c d same (If test body) = ap (λ n. capped (2 + n)) (block_same g c d same body)
  form_same g c d same (IfElse test body other) =
      ap (λ n. capped (2 + (n + block_cost g c other))) (block_same g c d same body) ∙ ap (λ n. capped (2 + (block_cost g d body + n))) (block_same g c d same other)
  form_same g c d same (Call procedure) = ap (λ n. capped (2 + n)) (same procedure)
  form_same g c d same (Assign target op right) = refl
  form_same g c d same (Get block) = refl
  form_same g c d same (Request block) = refl
  form_same g c d same (Put block how from) = refl
  form_same g c d same (Prepare block how from) = refl
  form_same g c d same (Create array) = refl
  form_same g c d same (Delete array) = refl
  form_same g c d same (Allocate array at) = refl
  form_same g c d same (Deallocate array at) = refl
  form_same g c d same (Collective into from) = refl
  form_same g c d same SipBarrier = refl
  form_same g c d same ServerBarrier = refl
  form_same g c d same (Print text) = refl
  form_same g c d same (PrintScalar scalar) = refl
  form_same g c d same (Integrals block) = refl

-- a procedure that isn't there is empty
at_procedure : (g : Setting) (c : ℕ → ℕ) (ps : List Procedure) (q : ℕ)
    → slice_index_or (map (λ (p : Procedure). block_cost g c p.body) ps) q 0 ≡ block_cost g c (slice_index_or ps q (record { name = []; body = End })).body
at_procedure g c [] q = refl
at_procedure g c (p ∷ ps) zero = refl
at_procedure g c (p ∷ ps) (suc q) = at_procedure g c ps q

none_at : (n q : ℕ) → ◌≡◌ {A = ℕ} (slice_index_or (replicate n 0) q 0) 0
none_at zero q = refl
none_at (suc n) zero = refl
none_at (suc n) (suc q) = none_at n q

pub called : (g : Setting) (depth q : ℕ) → among (costs_after g depth) q ≡ call_cost g depth q
called g zero q = none_at (length g.program.procedures) q
called g (suc depth) q =
    at_procedure g (among (costs_after g depth)) g.program.procedures q ∙ block_same g (among (costs_after g depth)) (call_cost g depth) (called g depth) (procedure_body g q)

whole : (g : Setting) (calls : List ℕ) (depth : ℕ) → calls ≡ costs_after g depth → (b : Block) → block_cost g (among calls) b ≡ block_cost g (call_cost g depth) b
whole g calls depth are b = ap (λ c. block_cost g (among c) b) are ∙ block_same g (among (costs_after g depth)) (call_cost g depth) (called g depth) b

-- an operand is shared by its array
operand_seen : (g : Setting) (a : Operand) → shared_operand (over g.spaces g.program.arrays) a ≡ shared_operand g a
operand_seen g (operand.Number n) = refl
operand_seen g (operand.Scalar s) = refl
operand_seen g (operand.Block b) = refl

mutual
  -- nothing but spaces and arrays matters
  seen : (g : Setting) (c : ℕ → ℕ) (b : Block) → block_cost (over g.spaces g.program.arrays) c b ≡ block_cost g c b
  seen g c End = refl
  seen g c (Then line form rest) =
      ap (λ n. capped (n + block_cost (over g.spaces g.program.arrays) c rest)) (form_seen g c form) ∙ ap (λ n. capped (form_cost g c form + n)) (seen g c rest)

  form_seen : (g : Setting) (c : ℕ → ℕ) (form : Plain) → form_cost (over g.spaces g.program.arrays) c form ≡ form_cost g c form
  form_seen g c (Do index body) = ap (λ n. capped (1 + count_of g.spaces index * (1 + n))) (seen g c body)
  form_seen g c (DoIn sub index body) = ap (λ n. capped (1 + most_pieces g sub index * (1 + n))) (seen g c body)
  form_seen g c (Pardo indices wheres body) = ap (λ n. capped (2 + volume (box_of g.spaces indices) * (1 + n))) (seen g c body)
  form_seen g c (If test body) = ap (λ n. capped (2 + n)) (seen g c body)
  form_seen g c (IfElse test body other) =
      ap (λ n. capped (2 + (n + block_cost (over g.spaces g.program.arrays) c other))) (seen g c body) ∙ ap (λ n. capped (2 + (block_cost g c body + n))) (seen g c other)
  form_seen g c (Call procedure) = refl
  form_seen g c (Assign target op (One a)) = ap (λ (bs : List BlockRef). 1 + 3 * length bs) (operand_seen g a)
  form_seen g c (Assign target op (Two a bin b)) =
      ap (λ (bs : List BlockRef). 1 + 3 * length (bs ++ shared_operand (over g.spaces g.program.arrays) b)) (operand_seen g a)
      ∙ ap (λ (bs : List BlockRef). 1 + 3 * length (shared_operand g a ++ bs)) (operand_seen g b)
  form_seen g c (Get block) = refl
  form_seen g c (Request block) = refl
  form_seen g c (Put block how from) = refl
  form_seen g c (Prepare block how from) = refl
  form_seen g c (Create array) = refl
  form_seen g c (Delete array) = refl
  form_seen g c (Allocate array at) = refl
  form_seen g c (Deallocate array at) = refl
  form_seen g c (Collective into from) = refl
  form_seen g c SipBarrier = refl
  form_seen g c ServerBarrier = refl
  form_seen g c (Print text) = refl
  form_seen g c (PrintScalar scalar) = refl
  form_seen g c (Integrals block) = refl

-- procedures as the code keeps them
each : (g : Setting) (c : ℕ → ℕ) (ps : List Proc)
    → map (λ (p : Proc). block_cost (over g.spaces g.program.arrays) c (block p.body.items)) ps ≡ map (λ (p : Procedure). block_cost g c p.body) (map procedure ps)
each g c [] = refl
each g c (p ∷ ps) = ap (λ n. n ∷ map (λ (q : Proc). block_cost (over g.spaces g.program.arrays) c (block q.body.items)) ps) (seen g c (block p.body.items)) ∙ ap (λ ns. block_cost g c (block p.body.items) ∷ ns) (each g c ps)

pub each_procedure : (job : Granted) (calls : List ℕ)
    → map (λ (p : Proc). block_cost (over job.spaces.spaces job.program.arrays.items) (among calls) (block p.body.items)) job.program.procs.items ≡ with_calls (setting_of job) calls
each_procedure job calls = each (setting_of job) (among calls) job.program.procs.items

pub whole_over : (g : Setting) (calls : List ℕ) (depth : ℕ) → calls ≡ costs_after g depth → (b : Block) → block_cost (over g.spaces g.program.arrays) (among calls) b ≡ block_cost g (call_cost g depth) b
whole_over g calls depth are b = seen g (among calls) b ∙ whole g calls depth are b
