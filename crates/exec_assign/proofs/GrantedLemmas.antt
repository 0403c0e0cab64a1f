-- Assignments of a sound program, where they break no rule and their indices have numbers in their ranges: what the calls of this crate require.
use Rattle.std.proofs.Common.{◌≡◌, ℕ, ◌^◌, ◌<◌, ◌≤◌, inl, inr, List, [], ◌∷◌, ◌++◌, drop, length, Bool, true, false, ◌&&◌, nat_lt, Some, Ok, refl, sym, ap, subst, arith}
use Rattle.std.proofs.lemmas.Bool.Decides.{nat_tests}
use Rattle.std.specs.Prelude.{if◌then◌else◌, flat_map, not, slice_get}
use Rattle.std.specs.List.{list_all}
use Rattle.block_pool.specs.Memory.{Memory}
use Rattle.sial_syntax.specs.declared.array.ArrayKind.{ArrayKind}
use Rattle.sial_syntax.specs.declared.array.ArrayKind.TheVariants.{Static, Temp, Local, Distributed, Served}
use Rattle.sial_syntax.specs.declared.operand.BlockRef.{BlockRef}
use Rattle.sial_syntax.specs.declared.operand.Op.{Op}
use Rattle.sial_syntax.specs.declared.operand.Operand.{Operand}
use Rattle.sial_syntax.specs.declared.operand.Operand.TheVariants as operand
use Rattle.sial_syntax.specs.declared.operand.Right.{Right}
use Rattle.sial_syntax.specs.declared.operand.Right.TheVariants.{One, Two}
use Rattle.sial_syntax.specs.declared.operand.Target.{Target}
use Rattle.sial_syntax.specs.declared.operand.Target.TheVariants as target
use Rattle.sial_syntax.specs.Agreeing.{all_in, is_own}
use Rattle.sial_syntax.specs.Limits.{most_rank, most_words}
use Rattle.sial_syntax.specs.Parts.{blocks_named, condition_indices, conditions, indices_used, operand_block, operands, slot_index, slots_named, target_block}
use Rattle.sial_syntax.specs.Proper.{has_array, has_index, has_length, proper_block, proper_operand, proper_right, proper_target}
use Rattle.sial_syntax.specs.Tree.{Assign, Integrals}
use Rattle.sial_syntax.specs.Visits.{Visit}
use Rattle.sial_syntax.proofs.AmongLemmas.{Among, among_flat, among_left, among_right}
use Rattle.sip_tables.specs.declared.instruction.Operation.TheVariants as op
use Rattle.sip_tables.specs.Code.{instruction}
use Rattle.sip_tables.specs.Flatten.{flatten}
use Rattle.sial_meaning.specs.declared.trap.TrapKind.TheVariants.{UnsetScalar}
use Rattle.sial_meaning.specs.LocalStep.{and_then, first_value, is_shared_kind, or_trap, shared_in, shared_operand, side_read, term_of, words_of}
use Rattle.sial_meaning.specs.Own.{Own, scalar_of, sight}
use Rattle.sial_meaning.specs.Right as sides
use Rattle.sial_meaning.specs.Setting.{Setting, array_kind}
use Rattle.sial_meaning.specs.Sound.{IsSound}
use Rattle.sial_meaning.specs.WholeStates.{OwnIsWhole}
use Rattle.sial_meaning.proofs.AcceptedInOtherWords.Pairs.{first-holds, second-holds, holds-so}
use Rattle.sial_meaning.proofs.Granted.Ranges.{InRange}
use Rattle.sial_meaning.proofs.Granted.Sameness.{answer-one}
use Rattle.sial_meaning.proofs.Granted.Visits.{Good}
use Rattle.sial_meaning.proofs.PardosKeepTheControl.Fold.{OnlyBound}
use Rattle.sial_meaning.proofs.WritesFitTheirBlocks.Blocks.{Fit, fit-named, front-in}
use Rattle.exec_names.proofs.WidthLemmas.{named-narrow}
use Rattle.exec_blocks.specs.Kept.{Kept}
use Rattle.exec_blocks.specs.Standing.{IsNamed}
use Rattle.exec_blocks.proofs.NamedLemmas.{named-is}
use Rattle.exec_scalars.specs.Numbers.{Numbers}
use Rattle.exec_sides.specs.Short.{AreLong, IsShort, IsShortTerm, volume_now}
use Rattle.exec_sides.proofs.GrantedHere.{assigns-block, assigns-scalar}
use Rattle.exec_assign.specs.declared.leases.Leases.{Leases}
use Rattle.exec_assign.specs.Fitting.{BlockFits, NumberFits}
use Rattle.exec_assign.specs.Lent.{AreLeased, AreLent, side_values}
use Rattle.exec_assign.specs.Naming.{AreNamed, OperandNamed}
use Rattle.exec_assign.specs.Standing.{OwnStands}
use Rattle.exec_assign.proofs.LengthLemmas.{long_parts, old_long, read_long, side_long, then_ok}

-- each block that a statement names fits its array
form_fit : (g : Setting) (v : Visit) → Good g v → all_in (flat_map (λ (x : BlockRef). x.at) (blocks_named v.form)) v.bound ≡ true → (b : BlockRef) → Among b (blocks_named v.form) → Fit g v.bound b
form_fit g v good used b at = fit-named g v v.bound b good used at

-- and is one of it, if it is declared
form_named : (g : Setting) (v : Visit) (values : List ℕ) → IsSound g → InRange g v.bound values → Good g v → all_in (flat_map (λ (x : BlockRef). x.at) (blocks_named v.form)) v.bound ≡ true
    → (b : BlockRef) → Among b (blocks_named v.form) → proper_block g.program b ≡ true → IsNamed g values b
form_named g v values sound in-range good used b at proper =
    named-is g v.bound values b sound in-range (form_fit g v good used b at)
    (below b.array (length g.program.arrays) (first-holds (has_array g.program b.array) (has_length most_rank b.at && list_all (has_index g.program) b.at) proper))
  where
    below : (a n : ℕ) → nat_lt a n ≡ true → a < n
    below a n is = grind (arith, nat_tests)

-- a number of elements that slots have is below the kernels' limit
few_words : (n : ℕ) → n ≤ most_words → n < 2 ^ 32
few_words n most = omega (arith, most)

module _ (g : Setting) (own : Own) (line : ℕ) (bound : List ℕ) (within : Bool) (into : Target) (o : Op) (right : Right) (sound : IsSound g) (in-range : InRange g bound own.values)
    (good : Good g (record { line = line; form = Assign into o right; bound = bound; within = within })) where
  -- the statement, where it stands
  abbrev statement : Visit
  statement = record { line = line; form = Assign into o right; bound = bound; within = within }

  -- its indices are bound
  used : all_in (flat_map (λ (x : BlockRef). x.at) (blocks_named statement.form)) bound ≡ true
  used =
      (front-in (flat_map (λ (x : BlockRef). x.at) (blocks_named statement.form)) (flat_map slot_index (slots_named statement.form) ++ flat_map condition_indices (conditions statement.form)) bound
      (holds-so (all_in (indices_used statement.form) bound) good.unbound)).0

  -- each block that it names is one of its array
  block_named : (b : BlockRef) → Among b (blocks_named statement.form) → proper_block g.program b ≡ true → IsNamed g own.values b
  block_named b at proper = form_named g statement own.values sound in-range good used b at proper

  -- the blocks of an operand are among them
  operand_named_in : (a : Operand) → Among a (operands right) → (b : BlockRef) → Among b (operand_block a) → Among b (blocks_named statement.form)
  operand_named_in a at b in-a = among_right b (target_block into) (flat_map operand_block (operands right)) (among_flat operand_block a b (operands right) at in-a)

  -- an operand
  operand_named : (a : Operand) → Among a (operands right) → proper_operand g.program a ≡ true → OperandNamed g own.values a
  operand_named (operand.Number n) at proper = tt
  operand_named (operand.Scalar s) at proper = tt
  operand_named (operand.Block b) at proper = block_named b (operand_named_in (operand.Block b) at b (inl refl)) proper

  -- a right side
  side_named : (r : Right) → right ≡ r → AreNamed g own.values r
  side_named (One a) same =
      operand_named a (subst (λ (q : Right). Among a (operands q)) (sym same) (inl refl))
      (subst (λ (q : Right). proper_right g.program q ≡ true) same (second-holds (proper_target g.program into) (proper_right g.program right) good.proper))
  side_named (Two a bin b) same =
      let proper : proper_right g.program (Two a bin b) ≡ true = subst (λ (q : Right). proper_right g.program q ≡ true) same (second-holds (proper_target g.program into) (proper_right g.program right) good.proper) in (
        operand_named a (subst (λ (q : Right). Among a (operands q)) (sym same) (inl refl)) (first-holds (proper_operand g.program a) (proper_operand g.program b) proper),
        operand_named b (subst (λ (q : Right). Among b (operands q)) (sym same) (inr (inl refl))) (second-holds (proper_operand g.program a) (proper_operand g.program b) proper),
      )

  -- the blocks that the right side names are those of their arrays
  pub operands_named : AreNamed g own.values right
  operands_named = side_named right refl

  -- so is a block that it writes
  pub target_named : (b : BlockRef) → into ≡ target.Block b → IsNamed g own.values b
  target_named b is =
      block_named b (among_left b (target_block into) (flat_map operand_block (operands right)) (subst (λ (t : Target). Among b (target_block t)) (sym is) (inl refl)))
      (subst (λ (t : Target). proper_target g.program t ≡ true) is (first-holds (proper_target g.program into) (proper_right g.program right) good.proper))

  -- it fits its array
  pub target_fit : (b : BlockRef) → into ≡ target.Block b → Fit g bound b
  target_fit b is = form_fit g statement good used b (among_left b (target_block into) (flat_map operand_block (operands right)) (subst (λ (t : Target). Among b (target_block t)) (sym is) (inl refl)))

  -- and has no more elements than the widest slot, fewer than the kernels' limit
  pub target_few : OnlyBound bound own → (b : BlockRef) → into ≡ target.Block b → (volume_now g.spaces own.values b.at ≤ most_words) × (volume_now g.spaces own.values b.at < 2 ^ 32)
  target_few only b is =
      let narrow = named-narrow g bound own b sound in-range only (target_fit b is) in
      (narrow, few_words (volume_now g.spaces own.values b.at) narrow)

  module _ (only : OnlyBound bound own) (whole : OwnIsWhole g own) where
    -- an operand that was read has few elements
    term_short : (a : Operand) (values : List (List ℕ)) (x : sides.Term) → Among a (operands right) → AreLong g.spaces own.values (shared_operand g a) values → term_of g own a values ≡ Ok x → IsShortTerm x
    term_short (operand.Number n) values x at long read = subst IsShortTerm (answer-one (sides.Plain n) x read) tt
    term_short (operand.Scalar s) values x at long read =
        let found = then_ok (or_trap UnsetScalar (scalar_of own s)) (λ n. Ok (sides.Plain n)) x read in
        subst IsShortTerm (answer-one (sides.Plain found.0) x found.2) tt
    term_short (operand.Block b) values x at long read =
        let found = then_ok (words_of g own b values) (λ words. Ok (sides.Shown (sight g own b words))) x read in
        let fits = form_fit g statement good used b (operand_named_in (operand.Block b) at b (inl refl)) in
        let shared : is_shared_kind (array_kind g b.array) ≡ true → length (first_value values) ≡ volume_now g.spaces own.values b.at =
        (λ e. (subst (λ (bs : List BlockRef). AreLong g.spaces own.values bs values) (ap (λ q. if q then b ∷ [] else []) e) long).0) in
        let many = read_long g bound own b values found.0 (array_kind g b.array) sound in-range fits whole refl shared found.1 in
        let narrow = named-narrow g bound own b sound in-range only fits in
        subst IsShortTerm (answer-one (sides.Shown (sight g own b found.0)) x found.2) (few (length found.0) (volume_now g.spaces own.values b.at) many narrow)
      where
        few : (n m : ℕ) → n ≡ m → m ≤ most_words → n < 2 ^ 32
        few n m same most = omega (arith, same, most)

    -- so has each of a right side that was read
    side_short : (r : Right) (values : List (List ℕ)) (side : sides.Side) → right ≡ r → AreLong g.spaces own.values (shared_in g r) values → side_read g own r values ≡ Ok side → IsShort side
    side_short (One a) values side same long read =
        let found = then_ok (term_of g own a values) (λ x. Ok (sides.Alone x)) side read in
        subst IsShort (answer-one (sides.Alone found.0) side found.2) (term_short a values found.0 (subst (λ (q : Right). Among a (operands q)) (sym same) (inl refl)) long found.1)
    side_short (Two a bin b) values side same long read =
        let rest = drop (length (shared_operand g a)) values in
        let found = then_ok (term_of g own a values) (λ x. and_then (term_of g own b rest) (λ y. Ok (sides.Joined x bin y))) side read in
        let other = then_ok (term_of g own b rest) (λ y. Ok (sides.Joined found.0 bin y)) side found.2 in
        let parts = long_parts g own.values (shared_operand g a) (shared_operand g b) values long in
        subst IsShort (answer-one (sides.Joined found.0 bin other.0) side other.2) (
          term_short a values found.0 (subst (λ (q : Right). Among a (operands q)) (sym same) (inl refl)) parts.0 found.1,
          term_short b rest other.0 (subst (λ (q : Right). Among b (operands q)) (sym same) (inr (inl refl))) parts.1 other.1,
        )

    -- a right side that was read from leases has few elements
    pub read_short : (p : Memory) (leases : Leases) (side : sides.Side) → AreLent g p own.values leases right → AreLeased g leases right
        → side_read g own right (side_values g p own.values leases right) ≡ Ok side → IsShort side
    read_short p leases side lent leased read = side_short right (side_values g p own.values leases right) side refl (side_long g p own.values right leases lent leased) read

-- what `assign_scalar` requires of a right side
pub number_fits : (g : Setting) (own : Own) (partials : List ℕ) (at line : ℕ) (bound : List ℕ) (within : Bool) (s : ℕ) (o : Op) (right : Right) (p : Memory) (n : Numbers) (b : Kept) (leases : Leases)
    → IsSound g → InRange g bound own.values → OnlyBound bound own → OwnIsWhole g own → OwnStands g p n b own.values own partials
    → slice_get (flatten g.program).code at ≡ Some (instruction line (op.Assign (target.Scalar s) o right))
    → Good g (record { line = line; form = Assign (target.Scalar s) o right; bound = bound; within = within })
    → AreLent g p own.values leases right → AreLeased g leases right
    → NumberFits g p n b own.values leases right
number_fits g own partials at line bound within s o right p n b leases sound in-range only whole stands there good lent leased = record {
  own = own;
  partials = partials;
  stands = stands;
  fits = λ side read.
      assigns-scalar g own at line bound within sound in-range whole s o right (side_values g p own.values leases right) side there good
      (side_long g p own.values right leases lent leased) read
      (read_short g own line bound within (target.Scalar s) o right sound in-range good only whole p leases side lent leased read);
}

-- a target that the rules let a statement write is one of the worker's own
own_kind : (kind : ArrayKind) → not (is_own kind) ≡ false → is_shared_kind kind ≡ false
own_kind Static is = refl
own_kind Temp is = refl
own_kind Local is = refl
own_kind Distributed is = absurd cc
own_kind Served is = absurd cc

-- what `assign_block` requires of a right side
pub block_fits : (g : Setting) (own : Own) (partials : List ℕ) (at line : ℕ) (bound : List ℕ) (within : Bool) (to : BlockRef) (o : Op) (right : Right) (p : Memory) (n : Numbers) (b : Kept) (leases : Leases)
    → IsSound g → InRange g bound own.values → OnlyBound bound own → OwnIsWhole g own → OwnStands g p n b own.values own partials
    → slice_get (flatten g.program).code at ≡ Some (instruction line (op.Assign (target.Block to) o right))
    → Good g (record { line = line; form = Assign (target.Block to) o right; bound = bound; within = within })
    → AreLent g p own.values leases right → AreLeased g leases right
    → BlockFits g p n b own.values leases to o right
block_fits g own partials at line bound within to o right p n b leases sound in-range only whole stands there good lent leased =
    let fit = target_fit g own line bound within (target.Block to) o right sound in-range good to refl in
    let narrow = target_few g own line bound within (target.Block to) o right sound in-range good only to refl in
    record {
      own = own;
      partials = partials;
      stands = stands;
      fits = λ side words read many.
          assigns-block g own at line bound within sound in-range whole to o right (side_values g p own.values leases right) side words there good
          (side_long g p own.values right leases lent leased) read
          (read_short g own line bound within (target.Block to) o right sound in-range good only whole p leases side lent leased read)
          many (few (length words) (volume_now g.spaces own.values to.at) many narrow.1);
      long = λ words old. old_long g bound own to words (array_kind g to.array) sound in-range fit whole refl (own_kind (array_kind g to.array) good.writable) old;
    }
  where
    few : (n m : ℕ) → n ≡ m → m < 2 ^ 32 → n < 2 ^ 32
    few n m same most = omega (arith, same, most)

-- what `compute_integrals` requires of a block
module _ (g : Setting) (own : Own) (line : ℕ) (bound : List ℕ) (within : Bool) (b : BlockRef) (sound : IsSound g) (in-range : InRange g bound own.values)
    (good : Good g (record { line = line; form = Integrals b; bound = bound; within = within })) where
  -- its indices are bound
  integrals_used : all_in (flat_map (λ (x : BlockRef). x.at) (b ∷ [])) bound ≡ true
  integrals_used = (front-in (flat_map (λ (x : BlockRef). x.at) (b ∷ [])) [] bound (holds-so (all_in (indices_used (Integrals b)) bound) good.unbound)).0

  -- it is one of its array
  pub integrals_named : IsNamed g own.values b
  integrals_named = form_named g (record { line = line; form = Integrals b; bound = bound; within = within }) own.values sound in-range good integrals_used b (inl refl) good.proper

  -- and has no more elements than the widest slot, fewer than the kernels' limit
  pub integrals_few : OnlyBound bound own → (volume_now g.spaces own.values b.at ≤ most_words) × (volume_now g.spaces own.values b.at < 2 ^ 32)
  integrals_few only =
      let narrow = named-narrow g bound own b sound in-range only (form_fit g (record { line = line; form = Integrals b; bound = bound; within = within }) good integrals_used b (inl refl)) in
      (narrow, few_words (volume_now g.spaces own.values b.at) narrow)
