-- What a statement breaks is what its parts break.
use Rattle.std.proofs.Common.{◌≡◌, ℕ, List, [], ◌∷◌, ◌++◌, flat_map, Bool, true, false, ◌&&◌, ◌||◌, not, refl, sym, ap, ◌∙◌, append-nil}
use Rattle.std.specs.List.{list_any}
use Rattle.std.proofs.Math.Bool.{or-false, and-true}
use Rattle.std.proofs.lemmas.Grind.{flat_map-append}
use Rattle.std.proofs.lemmas.List.Folds.{list_any-append}
use Rattle.sial_syntax.specs.declared.array.ArrayKind.TheVariants.{Distributed, Served}
use Rattle.sial_syntax.specs.declared.operand.BlockRef.{BlockRef}
use Rattle.sial_syntax.specs.declared.operand.Operand.{Operand}
use Rattle.sial_syntax.specs.declared.operand.Operand.TheVariants as operand
use Rattle.sial_syntax.specs.declared.operand.Right.{Right}
use Rattle.sial_syntax.specs.declared.operand.Right.TheVariants.{One, Two}
use Rattle.sial_syntax.specs.declared.operand.Target.{Target}
use Rattle.sial_syntax.specs.declared.operand.Target.TheVariants as target
use Rattle.sial_syntax.specs.Agreeing.{all_in, has_twice, has_kind}
use Rattle.sial_syntax.specs.Parts.{operands, operand_block, target_block}
use Rattle.sial_syntax.specs.Shapes.{wrong_dims, wrong_rank, wrong_transfer}
use Rattle.sial_syntax.specs.Tree.{Tree, Plain, Do, DoIn, Pardo, If, IfElse, Call, Assign, Get, Request, Put, Prepare, Create, Delete, Allocate, Deallocate, Collective, SipBarrier, ServerBarrier, Print, PrintScalar, Integrals}
use Rattle.shape_check.specs.declared.broken.Broken.{Broken}
use Rattle.shape_check.specs.Breaks.{breaks, nothing, either, block_breaks, operand_breaks, right_breaks, target_breaks, form_breaks}
use Rattle.shape_check.proofs.ListLemmas.{all_in_append}

-- blocks that are named together
abbrev blocks_break : Tree → List ℕ → List BlockRef → Broken
blocks_break p bound blocks = record {
  unbound = not (all_in (flat_map (λ (b : BlockRef). b.at) blocks) bound);
  rebound = false;
  repeated = list_any (λ (b : BlockRef). has_twice b.at) blocks;
  kind = list_any (wrong_dims p) blocks;
  indices = list_any (wrong_rank p) blocks;
  writable = false;
}

-- rules that are the same one by one are the same
same : {a b c d e f g h i j k l : Bool} → a ≡ g → b ≡ h → c ≡ i → d ≡ j → e ≡ k → f ≡ l
    → ◌≡◌ {A = Broken} (record { unbound = a; rebound = b; repeated = c; kind = d; indices = e; writable = f }) (record { unbound = g; rebound = h; repeated = i; kind = j; indices = k; writable = l })
same p q r s t u = cc

-- a test fails of both where it fails of one
not-and : (a b : Bool) → not (a && b) ≡ (not a || not b)
not-and true b = refl
not-and false b = refl

-- no rule beside some
either-nothing : (b : Broken) → either b nothing ≡ b
either-nothing b = same (or-false b.unbound) (or-false b.rebound) (or-false b.repeated) (or-false b.kind) (or-false b.indices) (or-false b.writable)

-- one block
one-block : (p : Tree) (bound : List ℕ) (b : BlockRef) → blocks_break p bound (b ∷ []) ≡ block_breaks p bound b
one-block p bound b =
    same (ap (λ xs. not (all_in xs bound)) (append-nil b.at)) refl (or-false (has_twice b.at)) (or-false (wrong_dims p b)) (or-false (wrong_rank p b)) refl

-- blocks of two lists
blocks-append : (p : Tree) (bound : List ℕ) (xs ys : List BlockRef) → blocks_break p bound (xs ++ ys) ≡ either (blocks_break p bound xs) (blocks_break p bound ys)
blocks-append p bound xs ys =
    same
    (ap (λ is. not (all_in is bound)) (flat_map-append (λ (b : BlockRef). b.at) xs ys)
    ∙ (ap not (all_in_append (flat_map (λ (b : BlockRef). b.at) xs) (flat_map (λ (b : BlockRef). b.at) ys) bound)
    ∙ not-and (all_in (flat_map (λ (b : BlockRef). b.at) xs) bound) (all_in (flat_map (λ (b : BlockRef). b.at) ys) bound)))
    refl
    (list_any-append (λ (b : BlockRef). has_twice b.at) xs ys)
    (list_any-append (wrong_dims p) xs ys)
    (list_any-append (wrong_rank p) xs ys)
    refl

-- the block of a target
of-target : (p : Tree) (bound : List ℕ) (t : Target) → blocks_break p bound (target_block t) ≡ target_breaks p bound t
of-target p bound (target.Scalar s) = refl
of-target p bound (target.Block b) = one-block p bound b

-- the block of an operand
of-operand : (p : Tree) (bound : List ℕ) (a : Operand) → blocks_break p bound (operand_block a) ≡ operand_breaks p bound a
of-operand p bound (operand.Number n) = refl
of-operand p bound (operand.Scalar s) = refl
of-operand p bound (operand.Block b) = one-block p bound b

-- the blocks of a right side
of-right : (p : Tree) (bound : List ℕ) (r : Right) → blocks_break p bound (flat_map operand_block (operands r)) ≡ right_breaks p bound r
of-right p bound (One a) = ap (blocks_break p bound) (append-nil (operand_block a)) ∙ of-operand p bound a
of-right p bound (Two a bin b) =
    ap (λ xs. blocks_break p bound (operand_block a ++ xs)) (append-nil (operand_block b))
    ∙ (blocks-append p bound (operand_block a) (operand_block b)
    ∙ (ap (λ x. either x (blocks_break p bound (operand_block b))) (of-operand p bound a) ∙ ap (either (operand_breaks p bound a)) (of-operand p bound b)))

-- the blocks of an assignment
of-assignment : (p : Tree) (bound : List ℕ) (t : Target) (r : Right) → blocks_break p bound (target_block t ++ flat_map operand_block (operands r)) ≡ either (target_breaks p bound t) (right_breaks p bound r)
of-assignment p bound t r =
    blocks-append p bound (target_block t) (flat_map operand_block (operands r))
    ∙ (ap (λ x. either x (blocks_break p bound (flat_map operand_block (operands r)))) (of-target p bound t) ∙ ap (either (target_breaks p bound t)) (of-right p bound r))

-- the blocks of a transfer
of-both : (p : Tree) (bound : List ℕ) (a b : BlockRef) → blocks_break p bound (a ∷ b ∷ []) ≡ either (block_breaks p bound a) (block_breaks p bound b)
of-both p bound a b =
    blocks-append p bound (a ∷ []) (b ∷ [])
    ∙ (ap (λ x. either x (blocks_break p bound (b ∷ []))) (one-block p bound a) ∙ ap (either (block_breaks p bound a)) (one-block p bound b))

-- a statement that names blocks, beside its other rules on kinds, indices and targets
with-blocks : (p : Tree) (bound : List ℕ) (blocks : List BlockRef) (seen : Broken) (other kind indices writable : Bool) → blocks_break p bound blocks ≡ seen → other ≡ kind
    → ◌≡◌ {A = Broken} (record {
      unbound = not (all_in (flat_map (λ (b : BlockRef). b.at) blocks ++ []) bound);
      rebound = false;
      repeated = list_any (λ (b : BlockRef). has_twice b.at) blocks || false;
      kind = (list_any (wrong_dims p) blocks || false) || other;
      indices = list_any (wrong_rank p) blocks || indices;
      writable = writable;
    }) (either seen (record { unbound = false; rebound = false; repeated = false; kind = kind; indices = indices; writable = writable }))
with-blocks p bound blocks seen other kind indices writable is e =
    apart
    ∙ ap (λ (x : Broken). either x (record { unbound = false; rebound = false; repeated = false; kind = kind; indices = indices; writable = writable })) is
  where
    apart : ◌≡◌ {A = Broken} (record {
      unbound = not (all_in (flat_map (λ (b : BlockRef). b.at) blocks ++ []) bound);
      rebound = false;
      repeated = list_any (λ (b : BlockRef). has_twice b.at) blocks || false;
      kind = (list_any (wrong_dims p) blocks || false) || other;
      indices = list_any (wrong_rank p) blocks || indices;
      writable = writable;
    }) (either (blocks_break p bound blocks) (record { unbound = false; rebound = false; repeated = false; kind = kind; indices = indices; writable = writable }))
    apart =
        same
        (ap (λ xs. not (all_in xs bound)) (append-nil (flat_map (λ (b : BlockRef). b.at) blocks)) ∙ sym (or-false (not (all_in (flat_map (λ (b : BlockRef). b.at) blocks) bound))))
        refl
        refl
        (ap (λ x. x || other) (or-false (list_any (wrong_dims p) blocks)) ∙ ap (λ x. list_any (wrong_dims p) blocks || x) e)
        refl
        refl

-- what a statement breaks where it stands, form by form
pub breaks-form : (p : Tree) (line : ℕ) (bound : List ℕ) (within : Bool) (form : Plain) → breaks p (record { line = line; form = form; bound = bound; within = within }) ≡ form_breaks p bound form
breaks-form p line bound within (Do index body) = simp or-false
breaks-form p line bound within (DoIn sub index body) = simp (or-false, and-true)
breaks-form p line bound within (Pardo indices wheres body) = simp or-false
breaks-form p line bound within (If cond body) = simp (append-nil, or-false)
breaks-form p line bound within (IfElse cond body other) = simp (append-nil, or-false)
breaks-form p line bound within (Call procedure) = refl
breaks-form p line bound within (Assign target op right) = with-blocks p bound (target_block target ++ flat_map operand_block (operands right)) _ _ _ _ _ (of-assignment p bound target right) refl
breaks-form p line bound within (Get block) = with-blocks p bound (block ∷ []) _ _ _ _ _ (one-block p bound block) (or-false (not (has_kind p Distributed block.array)))
breaks-form p line bound within (Request block) = with-blocks p bound (block ∷ []) _ _ _ _ _ (one-block p bound block) (or-false (not (has_kind p Served block.array)))
breaks-form p line bound within (Put block how from) = with-blocks p bound (block ∷ from ∷ []) _ _ _ _ _ (of-both p bound block from) (or-false (wrong_transfer p (has_kind p Distributed block.array) from.array))
breaks-form p line bound within (Prepare block how from) = with-blocks p bound (block ∷ from ∷ []) _ _ _ _ _ (of-both p bound block from) (or-false (wrong_transfer p (has_kind p Served block.array) from.array))
breaks-form p line bound within (Create array) = simp or-false
breaks-form p line bound within (Delete array) = simp or-false
breaks-form p line bound within (Allocate array at) = simp (append-nil, or-false)
breaks-form p line bound within (Deallocate array at) = simp (append-nil, or-false)
breaks-form p line bound within (Collective into from) = refl
breaks-form p line bound within SipBarrier = refl
breaks-form p line bound within ServerBarrier = refl
breaks-form p line bound within (Print text) = refl
breaks-form p line bound within (PrintScalar scalar) = refl
breaks-form p line bound within (Integrals block) = with-blocks p bound (block ∷ []) _ _ _ _ _ (one-block p bound block) refl
