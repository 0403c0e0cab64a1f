-- Shared blocks that good statements name are blocks of their arrays.
use Rattle.std.proofs.Common.{◌≡◌, ℕ, ◌+◌, ◌^◌, ◌<◌, ◌≤◌, inl, inr, List, [], ◌∷◌, ◌++◌, map, Bool, true, false, ◌&&◌, ◌||◌, not, nat_le, Option, Some, None, Result, Ok, Err, refl, sym, ap, ◌∙◌, subst, arith}
use Rattle.std.proofs.lemmas.Bool.Decides.{nat_tests}
use Rattle.std.specs.List.{list_all, list_any}
use Rattle.std.specs.Prelude.{if◌then◌else◌, flat_map}
use Rattle.sial_syntax.specs.declared.access.Access.{Access}
use Rattle.sial_syntax.specs.declared.access.Class.{Class}
use Rattle.sial_syntax.specs.declared.array.ArrayKind.{ArrayKind}
use Rattle.sial_syntax.specs.declared.array.ArrayKind.TheVariants.{Static, Temp, Local, Distributed, Served}
use Rattle.sial_syntax.specs.declared.operand.BlockRef.{BlockRef}
use Rattle.sial_syntax.specs.declared.operand.Op.{Op}
use Rattle.sial_syntax.specs.declared.operand.Operand.{Operand}
use Rattle.sial_syntax.specs.declared.operand.Operand.TheVariants as operand
use Rattle.sial_syntax.specs.declared.operand.Right.{Right}
use Rattle.sial_syntax.specs.declared.operand.Right.TheVariants.{One, Two}
use Rattle.sial_syntax.specs.declared.operand.Target.{Target}
use Rattle.sial_syntax.specs.Agreeing.{all_in, array_in, has_kind, is_own}
use Rattle.sial_syntax.specs.Parts.{blocks_named, condition_indices, conditions, indices_used, operand_block, operands, slot_index, slots_named, target_block}
use Rattle.sial_syntax.specs.Limits.{most_together}
use Rattle.sial_syntax.specs.Resolved.{have_few_blocks}
use Rattle.sial_syntax.specs.Spaces.{blocks_together, same_kind}
use Rattle.sial_syntax.specs.Tree.{Plain, Assign, Get, Request, Put, Prepare}
use Rattle.sial_syntax.specs.Visits.{Visit}
use Rattle.sial_syntax.proofs.AmongLemmas.{Among, among_right}
use Rattle.sial_meaning.specs.LocalStep.{is_shared_kind, shared_in, shared_operand}
use Rattle.sial_meaning.specs.declared.trap.Trap.{Trap}
use Rattle.sial_meaning.specs.declared.trap.TrapKind.{TrapKind}
use Rattle.sial_meaning.specs.Setting.{Setting, array_kind, block_count, first_of_class}
use Rattle.sial_meaning.specs.Own.{Own, is_created}
use Rattle.sial_meaning.specs.Statement.{Named, is_distributed, is_missing, trap_at}
use Rattle.sial_meaning.specs.Sound.{IsSound}
use Rattle.sial_meaning.proofs.AcceptedInOtherWords.Pairs.{never, first-holds, second-holds, holds-so}
use Rattle.sial_meaning.proofs.Granted.Ranges.{InRange}
use Rattle.sial_meaning.proofs.Granted.Runs.{declared-array, within-class}
use Rattle.sial_meaning.proofs.Granted.Sameness.{kind-one}
use Rattle.sial_meaning.proofs.Granted.Visits.{Good}
use Rattle.sial_meaning.proofs.StatesAreWhole.Effects.{array-right}
use Rattle.sial_meaning.proofs.StepsReachTheFold.Rules.{neither}
use Rattle.sial_meaning.proofs.WritesFitTheirBlocks.Blocks.{fit-named, front-in}
use Rattle.exec_blocks.proofs.NamedLemmas.{named-is}
use Rattle.exec_core.specs.Instructions.{AreShared, IsShared}
use Rattle.exec_core.specs.Shared.{AreNeeds, blocks_of, blocks_unless}
use Rattle.exec_core.specs.declared.shared.Needs.{Needs}

-- shared arrays aren't temps
pub not_temp : (kind : ArrayKind) → is_shared_kind kind ≡ true → same_kind kind Temp ≡ false
not_temp Static shared = absurd (never shared)
not_temp Temp shared = absurd (never shared)
not_temp Local shared = absurd (never shared)
not_temp Distributed shared = refl
not_temp Served shared = refl

-- a shared block that a good statement names
named_shared : (g : Setting) → IsSound g → (line : ℕ) (bound values : List ℕ) (within : Bool) (form : Plain) (b : BlockRef) → InRange g bound values → Good g (record { line = line; form = form; bound = bound; within = within })
    → all_in (flat_map (λ (x : BlockRef). x.at) (blocks_named form) ++ (flat_map slot_index (slots_named form) ++ flat_map condition_indices (conditions form))) bound ≡ true → Among b (blocks_named form) → is_shared_kind (array_kind g b.array) ≡ true
    → IsShared g values b
named_shared g sound line bound values within form b in-range good used at shared =
    let v : Visit = record { line = line; form = form; bound = bound; within = within } in
    let mine = (front-in (flat_map (λ (x : BlockRef). x.at) (blocks_named form)) (flat_map slot_index (slots_named form) ++ flat_map condition_indices (conditions form)) bound used).0 in
    record {
      named = named-is g bound values b sound in-range (fit-named g v bound b good mine at) (declared-array g b.array (array_kind g b.array) refl (not_temp (array_kind g b.array) shared));
      shared = shared;
    }

-- what an operand names
operand_shared : (g : Setting) (values : List ℕ) (a : Operand) → ((b : BlockRef) → Among b (operand_block a) → is_shared_kind (array_kind g b.array) ≡ true → IsShared g values b) → AreShared g values (shared_operand g a)
operand_shared g values (operand.Number n) named = tt
operand_shared g values (operand.Scalar s) named = tt
operand_shared g values (operand.Block b) named =
    elim (is_shared_kind (array_kind g b.array)) as (λ (q : Bool). is_shared_kind (array_kind g b.array) ≡ q → AreShared g values (if q then b ∷ [] else [])) [
      | true ↦ λ e. (named b (inl refl) e, tt)
      | false ↦ λ e. tt
    ] refl

-- what one operand and another name
pub both_shared : (g : Setting) (values : List ℕ) (xs ys : List BlockRef) → AreShared g values xs → AreShared g values ys → AreShared g values (xs ++ ys)
both_shared g values [] ys first second = second
both_shared g values (x ∷ xs) ys first second = (first.0, both_shared g values xs ys first.1 second)

-- what a right side names
pub assigned_shared : (g : Setting) → IsSound g → (line : ℕ) (bound values : List ℕ) (within : Bool) (target : Target) (op : Op) (right : Right) → InRange g bound values
    → Good g (record { line = line; form = Assign target op right; bound = bound; within = within }) → AreShared g values (shared_in g right)
assigned_shared g sound line bound values within target op (One a) in-range good =
    let form = Assign target op (One a) in
    operand_shared g values a (λ b at shared.
    named_shared g sound line bound values within form b in-range good (holds-so (all_in (indices_used form) bound) good.unbound)
    (among_right b (target_block target) (flat_map operand_block (operands (One a))) (among-first b (operand_block a) [] at)) shared)
  where
    among-first : (b : BlockRef) (xs ys : List BlockRef) → Among b xs → Among b (xs ++ ys)
    among-first b [] ys at = absurd at
    among-first b (x ∷ xs) ys (inl same) = inl same
    among-first b (x ∷ xs) ys (inr rest) = inr (among-first b xs ys rest)
assigned_shared g sound line bound values within target op (Two a bin c) in-range good =
    let form = Assign target op (Two a bin c) in
    let used = holds-so (all_in (indices_used form) bound) good.unbound in
    both_shared g values (shared_operand g a) (shared_operand g c)
    (operand_shared g values a (λ b at shared.
    named_shared g sound line bound values within form b in-range good used
    (among_right b (target_block target) (flat_map operand_block (operands (Two a bin c))) (among-first b (operand_block a) (operand_block c ++ []) at)) shared))
    (operand_shared g values c (λ b at shared.
    named_shared g sound line bound values within form b in-range good used
    (among_right b (target_block target) (flat_map operand_block (operands (Two a bin c))) (among_right b (operand_block a) (operand_block c ++ []) (among-first b (operand_block c) [] at))) shared))
  where
    among-first : (b : BlockRef) (xs ys : List BlockRef) → Among b xs → Among b (xs ++ ys)
    among-first b [] ys at = absurd at
    among-first b (x ∷ xs) ys (inl same) = inl same
    among-first b (x ∷ xs) ys (inr rest) = inr (among-first b xs ys rest)

-- the block of `get`
pub fetched_shared : (g : Setting) → IsSound g → (line : ℕ) (bound values : List ℕ) (within : Bool) (block : BlockRef) → InRange g bound values → Good g (record { line = line; form = Get block; bound = bound; within = within }) → IsShared g values block
fetched_shared g sound line bound values within block in-range good =
    let right = array-right g (record { line = line; form = Get block; bound = bound; within = within }) good in
    let is = kind-one (array_kind g block.array) Distributed (holds-so (has_kind g.program Distributed block.array) right) in
    named_shared g sound line bound values within (Get block) block in-range good (holds-so (all_in (indices_used (Get block)) bound) good.unbound) (inl refl) (ap is_shared_kind is)

-- that of `request`
pub requested_shared : (g : Setting) → IsSound g → (line : ℕ) (bound values : List ℕ) (within : Bool) (block : BlockRef) → InRange g bound values → Good g (record { line = line; form = Request block; bound = bound; within = within }) → IsShared g values block
requested_shared g sound line bound values within block in-range good =
    let right = array-right g (record { line = line; form = Request block; bound = bound; within = within }) good in
    let is = kind-one (array_kind g block.array) Served (holds-so (has_kind g.program Served block.array) right) in
    named_shared g sound line bound values within (Request block) block in-range good (holds-so (all_in (indices_used (Request block)) bound) good.unbound) (inl refl) (ap is_shared_kind is)

-- that of `put`
pub put_shared : (g : Setting) → IsSound g → (line : ℕ) (bound values : List ℕ) (within : Bool) (block : BlockRef) (how : Access) (from : BlockRef) → InRange g bound values
    → Good g (record { line = line; form = Put block how from; bound = bound; within = within }) → IsShared g values block
put_shared g sound line bound values within block how from in-range good =
    let right = array-right g (record { line = line; form = Put block how from; bound = bound; within = within }) good in
    let parts = neither (not (has_kind g.program Distributed block.array)) (not (is_own (array_in g.program from.array).kind)) right in
    let is = kind-one (array_kind g block.array) Distributed (holds-so (has_kind g.program Distributed block.array) parts.0) in
    named_shared g sound line bound values within (Put block how from) block in-range good (holds-so (all_in (indices_used (Put block how from)) bound) good.unbound) (inl refl) (ap is_shared_kind is)

-- that of `prepare`
pub prepared_shared : (g : Setting) → IsSound g → (line : ℕ) (bound values : List ℕ) (within : Bool) (block : BlockRef) (how : Access) (from : BlockRef) → InRange g bound values
    → Good g (record { line = line; form = Prepare block how from; bound = bound; within = within }) → IsShared g values block
prepared_shared g sound line bound values within block how from in-range good =
    let right = array-right g (record { line = line; form = Prepare block how from; bound = bound; within = within }) good in
    let parts = neither (not (has_kind g.program Served block.array)) (not (is_own (array_in g.program from.array).kind)) right in
    let is = kind-one (array_kind g block.array) Served (holds-so (has_kind g.program Served block.array) parts.0) in
    named_shared g sound line bound values within (Prepare block how from) block in-range good (holds-so (all_in (indices_used (Prepare block how from)) bound) good.unbound) (inl refl) (ap is_shared_kind is)

-- arrays of a shared kind have few blocks together
few_together : (g : Setting) → IsSound g → (kind : ArrayKind) → is_shared_kind kind ≡ true → blocks_together g.spaces kind g.program.arrays ≤ most_together
few_together g sound kind shared = by_kind kind shared
  where
    few : ArrayKind → Bool
    few k = have_few_blocks g.program g.spaces k

    all : list_all few (Static ∷ Local ∷ Distributed ∷ Served ∷ []) ≡ true
    all = sound.spaces.1.together

    third : (few Distributed && (few Served && true)) ≡ true
    third = second-holds (few Local) (few Distributed && (few Served && true)) (second-holds (few Static) (few Local && (few Distributed && (few Served && true))) all)

    at_most : (a b : ℕ) → nat_le a b ≡ true → a ≤ b
    at_most a b is = grind (arith, nat_tests)

    by_kind : (k : ArrayKind) → is_shared_kind k ≡ true → blocks_together g.spaces k g.program.arrays ≤ most_together
    by_kind Static is = absurd (never is)
    by_kind Temp is = absurd (never is)
    by_kind Local is = absurd (never is)
    by_kind Distributed is = at_most (blocks_together g.spaces Distributed g.program.arrays) most_together (first-holds (few Distributed) (few Served && true) third)
    by_kind Served is = at_most (blocks_together g.spaces Served g.program.arrays) most_together (first-holds (few Served) true (second-holds (few Distributed) (few Served && true) third))

-- so the number of one of them is short
pub number_short : (g : Setting) → IsSound g → (array first number : ℕ) → is_shared_kind (array_kind g array) ≡ true → first ≡ first_of_class g array → number < block_count g array → first + number < 2 ^ 32
number_short g sound array first number shared is below =
    let inside = within-class g array (array_kind g array) refl (not_temp (array_kind g array) shared) in
    let few = few_together g sound (array_kind g array) shared in
    omega (arith, inside, few, is, below)

-- a shared block by its class and its number
pub named_same : (c k : Class) (n m : ℕ) → c ≡ k → n ≡ m → ◌≡◌ {A = Named} (record { class = c; block = n }) (record { class = k; block = m })
named_same c k n m same equal = rw (same, equal) refl

-- the trap of created flags
pub needs_err : (line : ℕ) (wanted : Result (List Named) Trap) (trap : Option TrapKind) (kind : TrapKind) (blocks : List Named) → wanted ≡ blocks_unless line trap blocks → trap ≡ Some kind → AreNeeds (Err (trap_at line kind)) wanted
needs_err line wanted trap kind blocks is some = subst (AreNeeds (Err (trap_at line kind))) (sym (is ∙ ap (λ (t : Option TrapKind). blocks_unless line t blocks) some)) refl

-- or the shared blocks
pub needs_ok : (line : ℕ) (wanted : Result (List Named) Trap) (trap : Option TrapKind) (needs : Needs) (blocks : List Named) → wanted ≡ blocks_unless line trap blocks → trap ≡ None → blocks_of needs ≡ blocks → AreNeeds (Ok needs) wanted
needs_ok line wanted trap needs blocks is none same = subst (AreNeeds (Ok needs)) (sym (is ∙ ap (λ (t : Option TrapKind). blocks_unless line t blocks) none)) same

-- a block's array is missing where that of its operand is, which names it where it is shared
pub missing_operand : (g : Setting) (own : Own) (b : BlockRef) (kind : ArrayKind) → array_kind g b.array ≡ kind
    → is_missing g own b.array ≡ list_any (is_missing g own) (map (λ (x : BlockRef). x.array) (if is_shared_kind kind then b ∷ [] else []))
missing_operand g own b Static is = ap (λ (k : ArrayKind). is_distributed k && not (is_created own b.array)) is
missing_operand g own b Temp is = ap (λ (k : ArrayKind). is_distributed k && not (is_created own b.array)) is
missing_operand g own b Local is = ap (λ (k : ArrayKind). is_distributed k && not (is_created own b.array)) is
missing_operand g own b Distributed is = or_none (is_missing g own b.array)
  where
    or_none : (x : Bool) → x ≡ (x || false)
    or_none true = refl
    or_none false = refl
missing_operand g own b Served is = or_none (is_missing g own b.array)
  where
    or_none : (x : Bool) → x ≡ (x || false)
    or_none true = refl
    or_none false = refl
