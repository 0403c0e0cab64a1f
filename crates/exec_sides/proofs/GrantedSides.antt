-- Statements that break no rule, where their indices have numbers in their ranges: what was read of them fits.
use Rattle.std.proofs.Common.{◌≡◌, ℕ, zero, suc, ◌^◌, ◌<◌, inl, inr, Bool, true, false, ◌&&◌, ◌||◌, if◌then◌else◌, nat_le, List, [], ◌∷◌, ◌++◌, drop, length, Option, Some, None, Ok, Err, refl, sym, ap, ◌∙◌, subst}
use Rattle.std.specs.Prelude.{flat_map}
use Rattle.std.specs.List.{list_all, list_any}
use Rattle.std.proofs.lemmas.Bool.{leb-true}
use Rattle.sial_syntax.specs.declared.array.ArrayKind.{ArrayKind}
use Rattle.sial_syntax.specs.declared.array.ArrayKind.TheVariants.{Static, Temp, Local, Distributed, Served}
use Rattle.sial_syntax.specs.declared.operand.Bin.{Bin}
use Rattle.sial_syntax.specs.declared.operand.Bin.TheVariants.{Plus, Minus, Times, Outer}
use Rattle.sial_syntax.specs.declared.operand.BlockRef.{BlockRef}
use Rattle.sial_syntax.specs.declared.operand.Op.{Op}
use Rattle.sial_syntax.specs.declared.operand.Op.TheVariants as op
use Rattle.sial_syntax.specs.declared.operand.Operand.{Operand}
use Rattle.sial_syntax.specs.declared.operand.Operand.TheVariants as operand
use Rattle.sial_syntax.specs.declared.operand.Right.{Right}
use Rattle.sial_syntax.specs.declared.operand.Right.TheVariants.{One, Two}
use Rattle.sial_syntax.specs.declared.operand.Target.{Target}
use Rattle.sial_syntax.specs.declared.operand.Target.TheVariants as target
use Rattle.sial_syntax.specs.Agreeing.{all_in, assignment_agrees, block_agrees, copy_agrees, cuts_all, form_stands, has_twice, is_block, same_set, scalar_agrees, scalar_form}
use Rattle.sial_syntax.specs.Limits.{most_rank}
use Rattle.sial_syntax.specs.Parts.{blocks_named, condition_indices, conditions, indices_used, operand_block, operands, slot_index, slots_named, target_block}
use Rattle.sial_syntax.specs.Proper.{has_array, has_index, has_length, proper_block, proper_operand, proper_right, proper_target}
use Rattle.sial_syntax.specs.Shapes.{breaks_repeated, disagrees, wrong_array, wrong_dims, wrong_form, wrong_loop, wrong_rank, wrong_slot_rank, wrong_slots, wrong_where}
use Rattle.sial_syntax.specs.Boxes.{volume}
use Rattle.sial_syntax.specs.Spaces.{same_kind}
use Rattle.sial_syntax.specs.Tree.{Assign}
use Rattle.sial_syntax.specs.Visits.{Visit}
use Rattle.sial_syntax.proofs.AmongLemmas.{Among, among_flat, among_left, among_right, none_at}
use Rattle.sial_meaning.specs.declared.trap.TrapKind.TheVariants.{LocalMissing, UnsetBlock, UnsetScalar}
use Rattle.sial_meaning.specs.LocalStep.{Answer, and_then, first_value, held_words, is_shared_kind, or_trap, shared_in, shared_operand, side_read, term_of, words_by_kind, words_of}
use Rattle.sial_meaning.specs.Own.{Held, Own, local_block, members_of, number_of, same_members, scalar_of, sight, static_block, temp_of}
use Rattle.sial_meaning.specs.ReadBackLaws.{cuts_each}
use Rattle.sial_meaning.specs.Right as sides
use Rattle.sial_meaning.specs.Setting.{Setting, array_kind, block_words, dims_of}
use Rattle.sial_meaning.specs.Sight.{lengths}
use Rattle.sial_meaning.specs.Sound.{IsSound}
use Rattle.sial_meaning.specs.Whole.{held_extents}
use Rattle.sial_meaning.specs.WholeStates.{OwnIsWhole}
use Rattle.sial_meaning.proofs.AcceptedInOtherWords.Pairs.{never, first-holds, second-holds, holds-so}
use Rattle.sial_meaning.proofs.Granted.Ranges.{InRange}
use Rattle.sial_meaning.proofs.Granted.Rules.{cuts-all-as-said, no-part-of-part}
use Rattle.sial_meaning.proofs.Granted.Sameness.{answer-one, members-one}
use Rattle.sial_meaning.proofs.Granted.Visits.{Good}
use Rattle.sial_meaning.proofs.StepsReachTheFold.Rules.{neither}
use Rattle.sial_meaning.proofs.WritesFitTheirBlocks.Blocks.{Fit, fit-named, front-in, placed, placed-temp}
use Rattle.exec_sides.specs.Fits.{Fits, FitsNumber, IsNamed, IsSide, IsTerm, copy_fits, number_fits, pair_fits, side_fits}
use Rattle.exec_sides.specs.Short.{AreLong, IsShort, IsShortTerm, volume_now}

-- a temp's numbers where it holds the named block
temp-long : (g : Setting) (bound : List ℕ) (own : Own) (b : BlockRef) (words : List ℕ) (t : Option Held) → IsSound g → Fit g bound b → OwnIsWhole g own → temp_of own b.array ≡ t
    → or_trap UnsetBlock (held_words t (members_of g own b.at)) ≡ Ok words → length words ≡ volume_now g.spaces own.values b.at
temp-long g bound own b words None sound fit whole is ok = absurd cc
temp-long g bound own b words (Some held) sound fit whole is ok =
    elim (same_members held.members (members_of g own b.at)) as (λ q. same_members held.members (members_of g own b.at) ≡ q → ◌≡◌ {A = Answer (List ℕ)} (or_trap UnsetBlock (if q then Some held.words else None)) (Ok words) → length words ≡ volume_now g.spaces own.values b.at) [
      | true ↦ λ e there.
          ap length (sym (answer-one held.words words there))
          ∙ (whole.temps b.array held is
          ∙ (ap (λ ms. volume (lengths (held_extents g.spaces (dims_of g b.array) ms))) (members-one held.members (members_of g own b.at) e)
          ∙ sym (placed-temp g bound own b sound fit)))
      | false ↦ λ e there. absurd cc
    ] refl ok

-- a local block that is allocated
local-long : (g : Setting) (own : Own) (b : BlockRef) (words : List ℕ) (t : Option (List ℕ)) → OwnIsWhole g own → local_block own b.array (number_of g own b) ≡ t → or_trap LocalMissing t ≡ Ok words → length words ≡ block_words g b.array (number_of g own b)
local-long g own b words None whole is ok = absurd cc
local-long g own b words (Some found) whole is ok = ap length (sym (answer-one found words ok)) ∙ whole.locals b.array (number_of g own b) found is

-- a block that was read has a number for each position
read-long : (g : Setting) (bound : List ℕ) (own : Own) (b : BlockRef) (values : List (List ℕ)) (words : List ℕ) (kind : ArrayKind) → IsSound g → InRange g bound own.values → Fit g bound b → OwnIsWhole g own → array_kind g b.array ≡ kind
    → (is_shared_kind kind ≡ true → length (first_value values) ≡ volume_now g.spaces own.values b.at) → words_by_kind g own b values kind ≡ Ok words → length words ≡ volume_now g.spaces own.values b.at
read-long g bound own b values words Static sound in-range fit whole is shared ok =
    let at = placed g bound own b sound in-range fit (ap (λ k. same_kind k Temp) is) in
    ap length (sym (answer-one (static_block own b.array (number_of g own b)) words ok)) ∙ (whole.statics b.array (number_of g own b) is at.below ∙ sym at.words)
read-long g bound own b values words Temp sound in-range fit whole is shared ok = temp-long g bound own b words (temp_of own b.array) sound fit whole refl ok
read-long g bound own b values words Local sound in-range fit whole is shared ok =
    let at = placed g bound own b sound in-range fit (ap (λ k. same_kind k Temp) is) in
    local-long g own b words (local_block own b.array (number_of g own b)) whole refl ok ∙ sym at.words
read-long g bound own b values words Distributed sound in-range fit whole is shared ok = ap length (sym (answer-one (first_value values) words ok)) ∙ shared refl
read-long g bound own b values words Served sound in-range fit whole is shared ok = ap length (sym (answer-one (first_value values) words ok)) ∙ shared refl

-- what follows an answer that is no trap
then-ok : {X Y : Type 0} (r : Answer X) (f : X → Answer Y) (y : Y) → and_then r f ≡ Ok y → (x : X) × (r ≡ Ok x) × (f x ≡ Ok y)
then-ok (Ok x) f y ok = (x, refl, ok)
then-ok (Err kind) f y ok = absurd cc

-- what an operand that was read is
abbrev pub TermIs : Setting → Own → List (List ℕ) → Operand → sides.Term → Type 0
TermIs g own values (operand.Number n) x = (m : ℕ) × (x ≡ sides.Plain m)
TermIs g own values (operand.Scalar s) x = (m : ℕ) × (x ≡ sides.Plain m)
TermIs g own values (operand.Block b) x = (words : List ℕ) × (words_of g own b values ≡ Ok words) × (x ≡ sides.Shown (sight g own b words))

term-is : (g : Setting) (own : Own) (values : List (List ℕ)) (a : Operand) (x : sides.Term) → term_of g own a values ≡ Ok x → TermIs g own values a x
term-is g own values (operand.Number n) x ok = (n, sym (answer-one (sides.Plain n) x ok))
term-is g own values (operand.Scalar s) x ok =
    let found = then-ok (or_trap UnsetScalar (scalar_of own s)) (λ n. Ok (sides.Plain n)) x ok in
    (found.0, sym (answer-one (sides.Plain found.0) x found.2))
term-is g own values (operand.Block b) x ok =
    let found = then-ok (words_of g own b values) (λ words. Ok (sides.Shown (sight g own b words))) x ok in
    (found.0, found.1, sym (answer-one (sides.Shown (sight g own b found.0)) x found.2))

-- what a right side that was read is
abbrev pub SideIs : Setting → Own → List (List ℕ) → Right → sides.Side → Type 0
SideIs g own values (One a) (sides.Alone x) = TermIs g own values a x
SideIs g own values (One a) (sides.Joined x bin y) = ⊥
SideIs g own values (Two a bin b) (sides.Alone x) = ⊥
SideIs g own values (Two a bin b) (sides.Joined x other y) = (other ≡ bin) × TermIs g own values a x × TermIs g own (drop (length (shared_operand g a)) values) b y

-- the values of some shared operands, and of others behind them
long-parts : (g : Setting) (own : Own) (bs cs : List BlockRef) (values : List (List ℕ)) → AreLong g.spaces own.values (bs ++ cs) values → AreLong g.spaces own.values bs values × AreLong g.spaces own.values cs (drop (length bs) values)
long-parts g own [] cs values long = (tt, long)
long-parts g own (b ∷ bs) cs values long =
    let rest = long-parts g own bs cs (drop 1 values) long.1 in
    ((long.0, rest.0), subst (λ (vs : List (List ℕ)). AreLong g.spaces own.values cs vs) (later (length bs) values) rest.1)
  where
    later : (n : ℕ) (vs : List (List ℕ)) → drop n (drop 1 vs) ≡ drop (suc n) vs
    later zero [] = refl
    later (suc n) [] = refl
    later n (v ∷ vs) = refl

-- a block that fits where it is copied
copy-fits : (g : Setting) → IsSound g → (to from : List ℕ) → copy_agrees g.program to from ≡ true → copy_fits g.spaces to from ≡ true
copy-fits g sound to from agrees =
    ap (λ q. same_set to from || (q || cuts_each g.spaces from to)) (sym (cuts-all-as-said g sound to from))
    ∙ (ap (λ q. same_set to from || (cuts_all g.program to from || q)) (sym (cuts-all-as-said g sound from to)) ∙ agrees)

-- one operand for a block
one-fits : (g : Setting) (own : Own) (values : List (List ℕ)) (to : BlockRef) (o : Op) (a : Operand) (x : sides.Term) → IsSound g → TermIs g own values a x → form_stands (target.Block to) o (One a) ≡ true → block_agrees g.program to.at (One a) ≡ true
    → side_fits g.spaces o to.at (sides.Alone x) ≡ true
one-fits g own values to o (operand.Number n) x sound (m, is) form agrees = ap (λ y. side_fits g.spaces o to.at (sides.Alone y)) is
one-fits g own values to o (operand.Scalar s) x sound (m, is) form agrees = ap (λ y. side_fits g.spaces o to.at (sides.Alone y)) is
one-fits g own values to op.Set (operand.Block b) x sound (words, read, is) form agrees = ap (λ y. side_fits g.spaces op.Set to.at (sides.Alone y)) is ∙ copy-fits g sound to.at b.at agrees
one-fits g own values to op.Add (operand.Block b) x sound (words, read, is) form agrees = ap (λ y. side_fits g.spaces op.Add to.at (sides.Alone y)) is ∙ copy-fits g sound to.at b.at agrees
one-fits g own values to op.Subtract (operand.Block b) x sound (words, read, is) form agrees = ap (λ y. side_fits g.spaces op.Subtract to.at (sides.Alone y)) is ∙ copy-fits g sound to.at b.at agrees
one-fits g own values to op.Scale (operand.Block b) x sound (words, read, is) form agrees = absurd (never form)

-- two operands by what they are
two-are : (to : List ℕ) (bin : Bin) (x y v w : sides.Term) → x ≡ v → y ≡ w → pair_fits to v bin w ≡ true → pair_fits to x bin y ≡ true
two-are to bin x y v w first second fits = ap (λ q. pair_fits to q bin y) first ∙ (ap (λ q. pair_fits to v bin q) second ∙ fits)

-- two operands for a block, where the form stands
pair-fits : (g : Setting) (own : Own) (values others : List (List ℕ)) (to : BlockRef) (a b : Operand) (bin : Bin) (x y : sides.Term) → TermIs g own values a x → TermIs g own others b y
    → form_stands (target.Block to) op.Set (Two a bin b) ≡ true → block_agrees g.program to.at (Two a bin b) ≡ true → pair_fits to.at x bin y ≡ true
pair-fits g own values others to (operand.Block a) (operand.Block b) bin x y (v, r, is) (w, s, are) form agrees = two-are to.at bin x y _ _ is are agrees
pair-fits g own values others to (operand.Block a) (operand.Number n) Times x y (v, r, is) (m, are) form agrees = two-are to.at Times x y _ _ is are agrees
pair-fits g own values others to (operand.Block a) (operand.Scalar n) Times x y (v, r, is) (m, are) form agrees = two-are to.at Times x y _ _ is are agrees
pair-fits g own values others to (operand.Number n) (operand.Block b) Times x y (m, is) (w, s, are) form agrees = two-are to.at Times x y _ _ is are agrees
pair-fits g own values others to (operand.Scalar n) (operand.Block b) Times x y (m, is) (w, s, are) form agrees = two-are to.at Times x y _ _ is are agrees
pair-fits g own values others to (operand.Block a) (operand.Number n) Plus x y first second form agrees = absurd (never form)
pair-fits g own values others to (operand.Block a) (operand.Number n) Minus x y first second form agrees = absurd (never form)
pair-fits g own values others to (operand.Block a) (operand.Number n) Outer x y first second form agrees = absurd (never form)
pair-fits g own values others to (operand.Block a) (operand.Scalar n) Plus x y first second form agrees = absurd (never form)
pair-fits g own values others to (operand.Block a) (operand.Scalar n) Minus x y first second form agrees = absurd (never form)
pair-fits g own values others to (operand.Block a) (operand.Scalar n) Outer x y first second form agrees = absurd (never form)
pair-fits g own values others to (operand.Number n) (operand.Block b) Plus x y first second form agrees = absurd (never form)
pair-fits g own values others to (operand.Number n) (operand.Block b) Minus x y first second form agrees = absurd (never form)
pair-fits g own values others to (operand.Number n) (operand.Block b) Outer x y first second form agrees = absurd (never form)
pair-fits g own values others to (operand.Scalar n) (operand.Block b) Plus x y first second form agrees = absurd (never form)
pair-fits g own values others to (operand.Scalar n) (operand.Block b) Minus x y first second form agrees = absurd (never form)
pair-fits g own values others to (operand.Scalar n) (operand.Block b) Outer x y first second form agrees = absurd (never form)
pair-fits g own values others to (operand.Number n) (operand.Number k) bin x y first second form agrees = absurd (never form)
pair-fits g own values others to (operand.Number n) (operand.Scalar k) bin x y first second form agrees = absurd (never form)
pair-fits g own values others to (operand.Scalar n) (operand.Number k) bin x y first second form agrees = absurd (never form)
pair-fits g own values others to (operand.Scalar n) (operand.Scalar k) bin x y first second form agrees = absurd (never form)

-- the same with any operator that takes two
two-fits : (g : Setting) (own : Own) (values others : List (List ℕ)) (to : BlockRef) (o : Op) (a b : Operand) (bin : Bin) (x y : sides.Term) → TermIs g own values a x → TermIs g own others b y
    → form_stands (target.Block to) o (Two a bin b) ≡ true → block_agrees g.program to.at (Two a bin b) ≡ true → side_fits g.spaces o to.at (sides.Joined x bin y) ≡ true
two-fits g own values others to op.Set a b bin x y first second form agrees = pair-fits g own values others to a b bin x y first second form agrees
two-fits g own values others to op.Add a b bin x y first second form agrees = pair-fits g own values others to a b bin x y first second form agrees
two-fits g own values others to op.Subtract a b bin x y first second form agrees = pair-fits g own values others to a b bin x y first second form agrees
two-fits g own values others to op.Scale a b bin x y first second form agrees = absurd (never form)

module _ (g : Setting) (own : Own) (line : ℕ) (bound : List ℕ) (within : Bool) (into : Target) (o : Op) (right : Right) (sound : IsSound g) (in-range : InRange g bound own.values) (whole : OwnIsWhole g own)
    (good : Good g (record { line = line; form = Assign into o right; bound = bound; within = within })) (once : breaks_repeated g.program (record { line = line; form = Assign into o right; bound = bound; within = within }) ≡ false) where
  -- the statement, where it stands
  abbrev statement : Visit
  statement = record { line = line; form = Assign into o right; bound = bound; within = within }

  -- each block that it names
  block-fit : (b : BlockRef) → Among b (blocks_named statement.form) → Fit g bound b
  block-fit b at =
      let used = holds-so (all_in (indices_used statement.form) bound) good.unbound in
      fit-named g statement bound b good
      (front-in (flat_map (λ (x : BlockRef). x.at) (blocks_named statement.form)) (flat_map slot_index (slots_named statement.form) ++ flat_map condition_indices (conditions statement.form)) bound used).0
      at

  block-once : (b : BlockRef) → Among b (blocks_named statement.form) → has_twice b.at ≡ false
  block-once b at = none_at (λ (x : BlockRef). has_twice x.at) b (blocks_named statement.form) (neither (list_any (λ (x : BlockRef). has_twice x.at) (blocks_named statement.form)) (has_twice (flat_map slot_index (slots_named statement.form))) once).0 at

  -- with as many numbers as positions, and not too many
  block-named : (b : BlockRef) (words : List ℕ) → Among b (blocks_named statement.form) → proper_block g.program b ≡ true → length words ≡ volume_now g.spaces own.values b.at → length words < 2 ^ 32 → IsNamed g.spaces own.values (sight g own b words)
  block-named b words at proper long short =
      let rank = first-holds (has_length most_rank b.at) (list_all (has_index g.program) b.at) (second-holds (has_array g.program b.array) (has_length most_rank b.at && list_all (has_index g.program) b.at) proper) in
      record {
        once = block-once b at;
        some = leb-true 1 (length b.at) (first-holds (nat_le 1 (length b.at)) (nat_le (length b.at) most_rank) rank);
        most = leb-true (length b.at) most_rank (second-holds (nat_le 1 (length b.at)) (nat_le (length b.at) most_rank) rank);
        extents = refl;
        words = long;
        few = short;
      }

  -- an operand that was read
  term-named : (a : Operand) (values : List (List ℕ)) (x : sides.Term) → ((b : BlockRef) → Among b (operand_block a) → Among b (blocks_named statement.form)) → proper_operand g.program a ≡ true → AreLong g.spaces own.values (shared_operand g a) values
      → TermIs g own values a x → IsShortTerm x → IsTerm g.spaces own.values x
  term-named (operand.Number n) values x named proper long (m, is) short = subst (λ q. IsTerm g.spaces own.values q) (sym is) tt
  term-named (operand.Scalar s) values x named proper long (m, is) short = subst (λ q. IsTerm g.spaces own.values q) (sym is) tt
  term-named (operand.Block b) values x named proper long (words, read, is) short =
      let at = named b (inl refl) in
      let shared : is_shared_kind (array_kind g b.array) ≡ true → length (first_value values) ≡ volume_now g.spaces own.values b.at =
      (λ e. (subst (λ (bs : List BlockRef). AreLong g.spaces own.values bs values) (ap (λ q. if q then b ∷ [] else []) e) long).0) in
      subst (λ q. IsTerm g.spaces own.values q) (sym is)
      (block-named b words at proper (read-long g bound own b values words (array_kind g b.array) sound in-range (block-fit b at) whole refl shared read) (subst IsShortTerm is short))

  -- the rules that it keeps
  pub form-stands : form_stands into o right ≡ true
  form-stands =
      let p = g.program in
      let kinds = (neither (wrong_loop p statement.form || wrong_where statement.form) ((list_any (wrong_dims p) (blocks_named statement.form) || wrong_slots p statement.form) || (wrong_array p statement.form || wrong_form statement.form)) good.kind).1 in
      let last = (neither (list_any (wrong_dims p) (blocks_named statement.form) || wrong_slots p statement.form) (wrong_array p statement.form || wrong_form statement.form) kinds).1 in
      holds-so (form_stands into o right) (neither (wrong_array p statement.form) (wrong_form statement.form) last).1

  pub indices-agree : assignment_agrees g.program into right ≡ true
  indices-agree =
      let p = g.program in
      let rest = (neither (list_any (wrong_rank p) (blocks_named statement.form)) (wrong_slot_rank p statement.form || disagrees p statement.form) good.indices).1 in
      holds-so (assignment_agrees p into right) (neither (wrong_slot_rank p statement.form) (disagrees p statement.form) rest).1

  -- a block that it writes
  pub target-named : (b : BlockRef) (words : List ℕ) → into ≡ target.Block b → length words ≡ volume_now g.spaces own.values b.at → length words < 2 ^ 32 → IsNamed g.spaces own.values (sight g own b words)
  target-named b words is long short =
      let proper : proper_target g.program into ≡ true = first-holds (proper_target g.program into) (proper_right g.program right) good.proper in
      block-named b words (among_left b (target_block into) (flat_map operand_block (operands right)) (subst (λ t. Among b (target_block t)) (sym is) (inl refl))) (subst (λ t. proper_target g.program t ≡ true) is proper) long short

  -- the blocks of an operand are among its own
  operand-named : (a : Operand) → Among a (operands right) → (b : BlockRef) → Among b (operand_block a) → Among b (blocks_named statement.form)
  operand-named a at b in-a = among_right b (target_block into) (flat_map operand_block (operands right)) (among_flat operand_block a b (operands right) at in-a)

  -- a right side that was read: named blocks, and what its operands are
  pub side-named : (r : Right) (values : List (List ℕ)) (side : sides.Side) → right ≡ r → AreLong g.spaces own.values (shared_in g r) values → side_read g own r values ≡ Ok side → IsShort side → IsSide g.spaces own.values side × SideIs g own values r side
  side-named (One a) values side same long ok short =
      let found = then-ok (term_of g own a values) (λ x. Ok (sides.Alone x)) side ok in
      let is : sides.Alone found.0 ≡ side = answer-one (sides.Alone found.0) side found.2 in
      let read = term-is g own values a found.0 found.1 in
      let proper : proper_right g.program (One a) ≡ true = subst (λ q. proper_right g.program q ≡ true) same (second-holds (proper_target g.program into) (proper_right g.program right) good.proper) in
      let at : Among a (operands right) = subst (λ q. Among a (operands q)) (sym same) (inl refl) in
      subst (λ q. IsSide g.spaces own.values q × SideIs g own values (One a) q) is
      (term-named a values found.0 (operand-named a at) proper long read (subst IsShort (sym is) short), read)
  side-named (Two a bin b) values side same long ok short =
      let rest = drop (length (shared_operand g a)) values in
      let found = then-ok (term_of g own a values) (λ x. and_then (term_of g own b rest) (λ y. Ok (sides.Joined x bin y))) side ok in
      let other = then-ok (term_of g own b rest) (λ y. Ok (sides.Joined found.0 bin y)) side found.2 in
      let is : sides.Joined found.0 bin other.0 ≡ side = answer-one (sides.Joined found.0 bin other.0) side other.2 in
      let first = term-is g own values a found.0 found.1 in
      let second = term-is g own rest b other.0 other.1 in
      let proper : proper_right g.program (Two a bin b) ≡ true = subst (λ q. proper_right g.program q ≡ true) same (second-holds (proper_target g.program into) (proper_right g.program right) good.proper) in
      let at-a : Among a (operands right) = subst (λ q. Among a (operands q)) (sym same) (inl refl) in
      let at-b : Among b (operands right) = subst (λ q. Among b (operands q)) (sym same) (inr (inl refl)) in
      let parts = long-parts g own (shared_operand g a) (shared_operand g b) values long in
      let shorts : IsShort (sides.Joined found.0 bin other.0) = subst IsShort (sym is) short in
      subst (λ q. IsSide g.spaces own.values q × SideIs g own values (Two a bin b) q) is (
        (
          term-named a values found.0 (operand-named a at-a) (first-holds (proper_operand g.program a) (proper_operand g.program b) proper) parts.0 first shorts.0,
          term-named b rest other.0 (operand-named b at-b) (second-holds (proper_operand g.program a) (proper_operand g.program b) proper) parts.1 second shorts.1,
        ),
        (refl, first, second),
      )

-- one number for a scalar
one-number : (g : Setting) (own : Own) (values : List (List ℕ)) (s : ℕ) (o : Op) (a : Operand) (x : sides.Term) → TermIs g own values a x → form_stands (target.Scalar s) o (One a) ≡ true → number_fits (sides.Alone x) ≡ true
one-number g own values s o (operand.Number n) x (m, is) form = ap (λ y. number_fits (sides.Alone y)) is
one-number g own values s o (operand.Scalar k) x (m, is) form = ap (λ y. number_fits (sides.Alone y)) is
one-number g own values s op.Set (operand.Block b) x read form = absurd (never form)
one-number g own values s op.Add (operand.Block b) x read form = absurd (never form)
one-number g own values s op.Subtract (operand.Block b) x read form = absurd (never form)
one-number g own values s op.Scale (operand.Block b) x read form = absurd (never form)

-- two operands by what they are
number-are : (bin : Bin) (x y v w : sides.Term) → x ≡ v → y ≡ w → number_fits (sides.Joined v bin w) ≡ true → number_fits (sides.Joined x bin y) ≡ true
number-are bin x y v w first second fits = ap (λ q. number_fits (sides.Joined q bin y)) first ∙ (ap (λ q. number_fits (sides.Joined v bin q)) second ∙ fits)

-- two numbers, or two blocks, for a scalar
pair-number-fits : (g : Setting) (own : Own) (values others : List (List ℕ)) (a b : Operand) (bin : Bin) (x y : sides.Term) → TermIs g own values a x → TermIs g own others b y
    → scalar_form (is_block a) (is_block b) bin ≡ true → scalar_agrees (Two a bin b) ≡ true → number_fits (sides.Joined x bin y) ≡ true
pair-number-fits g own values others (operand.Number n) (operand.Number k) bin x y (m, is) (l, are) form agrees = number-are bin x y _ _ is are refl
pair-number-fits g own values others (operand.Number n) (operand.Scalar k) bin x y (m, is) (l, are) form agrees = number-are bin x y _ _ is are refl
pair-number-fits g own values others (operand.Scalar n) (operand.Number k) bin x y (m, is) (l, are) form agrees = number-are bin x y _ _ is are refl
pair-number-fits g own values others (operand.Scalar n) (operand.Scalar k) bin x y (m, is) (l, are) form agrees = number-are bin x y _ _ is are refl
pair-number-fits g own values others (operand.Block a) (operand.Block b) Times x y (v, r, is) (w, s, are) form agrees = number-are Times x y _ _ is are agrees
pair-number-fits g own values others (operand.Block a) (operand.Block b) Plus x y first second form agrees = absurd (never form)
pair-number-fits g own values others (operand.Block a) (operand.Block b) Minus x y first second form agrees = absurd (never form)
pair-number-fits g own values others (operand.Block a) (operand.Block b) Outer x y first second form agrees = absurd (never form)
pair-number-fits g own values others (operand.Block a) (operand.Number k) bin x y first second form agrees = absurd (never form)
pair-number-fits g own values others (operand.Block a) (operand.Scalar k) bin x y first second form agrees = absurd (never form)
pair-number-fits g own values others (operand.Number n) (operand.Block b) bin x y first second form agrees = absurd (never form)
pair-number-fits g own values others (operand.Scalar n) (operand.Block b) bin x y first second form agrees = absurd (never form)

-- the form that two operands have for a scalar
scalar-form : (s : ℕ) (o : Op) (a b : Operand) (bin : Bin) → form_stands (target.Scalar s) o (Two a bin b) ≡ true → scalar_form (is_block a) (is_block b) bin ≡ true
scalar-form s op.Set a b bin form = form
scalar-form s op.Add a b bin form = form
scalar-form s op.Subtract a b bin form = form
scalar-form s op.Scale a b bin form = absurd (never form)

-- right sides that were read fit a block
read-fits : (g : Setting) (own : Own) (values : List (List ℕ)) (to : BlockRef) (o : Op) (right : Right) (side : sides.Side) → IsSound g → SideIs g own values right side → form_stands (target.Block to) o right ≡ true → block_agrees g.program to.at right ≡ true
    → side_fits g.spaces o to.at side ≡ true
read-fits g own values to o (One a) (sides.Alone x) sound is form agrees = one-fits g own values to o a x sound is form agrees
read-fits g own values to o (One a) (sides.Joined x bin y) sound is form agrees = absurd is
read-fits g own values to o (Two a bin b) (sides.Alone x) sound is form agrees = absurd is
read-fits g own values to o (Two a bin b) (sides.Joined x other y) sound is form agrees =
    ap (λ q. side_fits g.spaces o to.at (sides.Joined x q y)) is.0 ∙ two-fits g own values (drop (length (shared_operand g a)) values) to o a b bin x y is.1 is.2 form agrees

-- and a scalar
read-number : (g : Setting) (own : Own) (values : List (List ℕ)) (s : ℕ) (o : Op) (right : Right) (side : sides.Side) → SideIs g own values right side → form_stands (target.Scalar s) o right ≡ true → scalar_agrees right ≡ true → number_fits side ≡ true
read-number g own values s o (One a) (sides.Alone x) is form agrees = one-number g own values s o a x is form
read-number g own values s o (One a) (sides.Joined x bin y) is form agrees = absurd is
read-number g own values s o (Two a bin b) (sides.Alone x) is form agrees = absurd is
read-number g own values s o (Two a bin b) (sides.Joined x other y) is form agrees =
    ap (λ q. number_fits (sides.Joined x q y)) is.0 ∙ pair-number-fits g own values (drop (length (shared_operand g a)) values) a b bin x y is.1 is.2 (scalar-form s o a b bin form) agrees

-- an assignment to a block of a statement that breaks no rule, its indices in their ranges: what was read fits
pub assignments-fit : (g : Setting) (own : Own) (line : ℕ) (bound : List ℕ) (within : Bool) (to : BlockRef) (o : Op) (right : Right) (values : List (List ℕ)) (side : sides.Side) (old : List ℕ)
    → IsSound g → InRange g bound own.values → OwnIsWhole g own
    → Good g (record { line = line; form = Assign (target.Block to) o right; bound = bound; within = within })
    → breaks_repeated g.program (record { line = line; form = Assign (target.Block to) o right; bound = bound; within = within }) ≡ false
    → AreLong g.spaces own.values (shared_in g right) values → side_read g own right values ≡ Ok side → IsShort side
    → length old ≡ volume_now g.spaces own.values to.at → length old < 2 ^ 32
    → Fits g.spaces own.values o (sight g own to old) side
assignments-fit g own line bound within to o right values side old sound in-range whole good once long ok short many few =
    let read = side-named g own line bound within (target.Block to) o right sound in-range whole good once right values side refl long ok short in
    record {
      target = target-named g own line bound within (target.Block to) o right sound in-range whole good once to old refl many few;
      side = read.0;
      agrees =
          read-fits g own values to o right side sound read.1
          (form-stands g own line bound within (target.Block to) o right sound in-range whole good once)
          (indices-agree g own line bound within (target.Block to) o right sound in-range whole good once);
      flat = no-part-of-part g sound;
    }

-- one to a scalar
pub numbers-fit : (g : Setting) (own : Own) (line : ℕ) (bound : List ℕ) (within : Bool) (s : ℕ) (o : Op) (right : Right) (values : List (List ℕ)) (side : sides.Side)
    → IsSound g → InRange g bound own.values → OwnIsWhole g own
    → Good g (record { line = line; form = Assign (target.Scalar s) o right; bound = bound; within = within })
    → breaks_repeated g.program (record { line = line; form = Assign (target.Scalar s) o right; bound = bound; within = within }) ≡ false
    → AreLong g.spaces own.values (shared_in g right) values → side_read g own right values ≡ Ok side → IsShort side
    → FitsNumber g.spaces own.values side
numbers-fit g own line bound within s o right values side sound in-range whole good once long ok short =
    let read = side-named g own line bound within (target.Scalar s) o right sound in-range whole good once right values side refl long ok short in
    record {
      side = read.0;
      agrees =
          read-number g own values s o right side read.1
          (form-stands g own line bound within (target.Scalar s) o right sound in-range whole good once)
          (indices-agree g own line bound within (target.Scalar s) o right sound in-range whole good once);
    }
