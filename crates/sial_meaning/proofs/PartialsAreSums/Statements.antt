-- What statements make of the number of a partial scalar.
use Rattle.std.proofs.Common.{◌≡◌, ℕ, ◌<◌, List, [], ◌∷◌, length, get_or, Bool, true, false, ◌&&◌, ◌||◌, not, eqb, if◌then◌else◌, Option, Some, None, Ok, Err, refl, sym, ap, ◌∙◌, subst, arith, inl, inr, eqb-true}
use Rattle.std.specs.Prelude.{sum_by}
use Rattle.std.specs.List.{list_any}
use Rattle.std.proofs.lemmas.Bool.{eqb-false, or_parts}
use Rattle.std.proofs.lemmas.List.{length-set, get_or-set_same, get_or-set_other}
use Rattle.std.proofs.lemmas.List.Sums.{sum_by-cons, sum_by-append}
use Rattle.sial_syntax.proofs.AmongLemmas.{Among, among_from}
use Rattle.sial_syntax.specs.declared.access.Access.{Access}
use Rattle.sial_syntax.specs.declared.access.Access.TheVariants.{Read}
use Rattle.sial_syntax.specs.declared.classes.ScalarClass.{ScalarClass}
use Rattle.sial_syntax.specs.declared.classes.ScalarClass.TheVariants.{Replicated, Private, Partial}
use Rattle.sial_syntax.specs.declared.operand.BlockRef.{BlockRef}
use Rattle.sial_syntax.specs.declared.operand.Op.{Op}
use Rattle.sial_syntax.specs.declared.operand.Op.TheVariants as op
use Rattle.sial_syntax.specs.declared.operand.Operand.TheVariants as operand
use Rattle.sial_syntax.specs.declared.operand.Right.{Right}
use Rattle.sial_syntax.specs.declared.operand.Right.TheVariants.{One, Two}
use Rattle.sial_syntax.specs.declared.operand.Target.TheVariants as target
use Rattle.sial_syntax.specs.Agreeing.{contains}
use Rattle.sial_syntax.specs.Parts.{scalars_written}
use Rattle.sial_syntax.specs.Sides.{accumulates}
use Rattle.sial_syntax.specs.SideRules.{sets_zero}
use Rattle.sial_syntax.specs.Tree.{Plain, Assign, Get, Request, Put, Prepare, Create, Delete, Allocate, Deallocate, Collective, SipBarrier, ServerBarrier, Print, PrintScalar, Integrals}
use Rattle.sial_meaning.specs.declared.trap.TrapKind.{TrapKind}
use Rattle.sial_meaning.specs.declared.trap.TrapKind.TheVariants.{UnsetScalar, LocalMissing, LocalTwice}
use Rattle.sial_meaning.specs.CourseDeeds.{deeds_if_passed}
use Rattle.sial_meaning.specs.Deeds.{Deed, Reads, Writes, Adds}
use Rattle.sial_meaning.specs.LocalStep.{Done, Answer, and_then, or_trap, quiet, scalar_assigned, scalar_value, scalar_line, to_scalar, to_target, needs_old, with_words, old_words, words_of, matched, is_allocated, integrals, side_read, all_allocated, all_deallocated, local_step}
use Rattle.sial_meaning.specs.Own.{Own, sight, scalar_of}
use Rattle.sial_meaning.specs.Ran.{View, view_of, Ran, Through, touch_of, reads_done, no_partials, added_to, additions, local_ran, put_ran, effect_ran, unless_broken, statement_ran}
use Rattle.sial_meaning.specs.Resets.{adds_to}
use Rattle.sial_meaning.specs.Right.{Plain as Uniform, Side, Alone, assigned, is_insertion}
use Rattle.sial_meaning.specs.Setting.{Setting, array_kind, scalar_class}
use Rattle.sial_meaning.specs.State.{State}
use Rattle.sial_meaning.specs.Statement.{Outcome, Went, Stopped, Copied, Named, named, reads_of, reads_logged, values_of, local_done, put_done, created_trap, effect, unless_trapped, statement}
use Rattle.sial_meaning.specs.Step.{done}
use Rattle.sial_meaning.proofs.IterationsAreTheirDeeds.Statement.{reads_are, reads_added}
use Rattle.sial_meaning.proofs.IterationsAreTheirDeeds.Logs.{BothEnd, both_step}

module _ (scalar : ℕ) where
  -- where a statement leads, beside its deeds: a scalar that isn't partial elsewhere keeps its number, unless it is reset
  pub record PartialsLike (reset : Bool) (ps : List ℕ) (ds : List Deed) (qs : List ℕ) : Type 0 where
    pub long : length qs ≡ length ps
    pub number : get_or qs scalar 0 ≡ (if reset then 0 else get_or ps scalar 0)
    pub nothing : reset ≡ false → ◌≡◌ {A = ℕ} (sum_by (adds_to scalar) ds) 0

  -- nothing changes
  same_partials : (ps : List ℕ) (ds : List Deed) → ◌≡◌ {A = ℕ} (sum_by (adds_to scalar) ds) 0 → PartialsLike false ps ds ps
  same_partials ps ds none = record { long = refl; number = refl; nothing = λ e. none }

  -- reads add nothing
  reads_add_none : (g : Setting) (v : View) (line : ℕ) (own : Own) (blocks : List BlockRef) → ◌≡◌ {A = ℕ} (sum_by (adds_to scalar) (reads_done g v line own blocks)) 0
  reads_add_none g v line own [] = refl
  reads_add_none g v line own (b ∷ bs) =
      let more = sum_by-cons (adds_to scalar) (Reads (touch_of v (named g own b) Read line)) (reads_done g v line own bs) in let rest = reads_add_none g v line own bs in omega (arith, more, rest)

  -- where a statement leads, beside its deeds; a reset never traps
  abbrev pub PartialsTo : Bool → State → Outcome → Ran → Type 0
  PartialsTo reset s (Went t) x = PartialsLike reset s.partials (deeds_if_passed x) t.partials
  PartialsTo reset s (Stopped trap t) x = reset ≡ false

  -- an answer leaves the partial scalars
  abbrev LeavesPartials : List ℕ → Answer Done → Type 0
  LeavesPartials ps (Ok done) = done.partials ≡ ps
  LeavesPartials ps (Err kind) = Unit {0}

  -- what follows an answer
  leaves_then : {X : Type 0} (ps : List ℕ) (x : Answer X) (f : X → Answer Done) → ((y : X) → LeavesPartials ps (f y)) → LeavesPartials ps (and_then x f)
  leaves_then ps (Ok y) f h = h y
  leaves_then ps (Err kind) f h = tt

  -- one of two answers
  leaves_if : (ps : List ℕ) (b : Bool) (x y : Answer Done) → LeavesPartials ps x → LeavesPartials ps y → LeavesPartials ps (if b then x else y)
  leaves_if ps true x y a b = a
  leaves_if ps false x y a b = b

  -- an answer leaves how many partial scalars there are, and the number of this one
  abbrev Others : List ℕ → Answer Done → Type 0
  Others ps (Ok done) = (length done.partials ≡ length ps) × (get_or done.partials scalar 0 ≡ get_or ps scalar 0)
  Others ps (Err kind) = Unit {0}

  -- a scalar that isn't partial set
  other_assigned : (s : ℕ) (o : Op) (value : ℕ) (own : Own) (ps : List ℕ) (needed : Bool) (old : Answer ℕ) → Others ps (scalar_assigned s o value own ps needed old)
  other_assigned s o value own ps false old = (refl, refl)
  other_assigned s o value own ps true (Ok n) = (refl, refl)
  other_assigned s o value own ps true (Err kind) = tt

  -- what follows an answer
  others_then : {X : Type 0} (ps : List ℕ) (x : Answer X) (f : X → Answer Done) → ((y : X) → Others ps (f y)) → Others ps (and_then x f)
  others_then ps (Ok y) f h = h y
  others_then ps (Err kind) f h = tt

  -- a local statement that leaves this number and adds nothing to it
  local_partials : (g : Setting) (line : ℕ) (form : Plain) (blocks : List BlockRef) (s : State) (a b : Answer Done) → BothEnd a b → Others s.partials a → ((ps : List ℕ) → ◌≡◌ {A = ℕ} (sum_by (adds_to scalar) (additions g form ps)) 0)
      → PartialsTo false s (local_done line (reads_logged g line blocks s) a) (local_ran g line form (reads_done g (view_of s) line s.own blocks) s.own b)
  local_partials g line form blocks s (Ok a) (Ok b) both others none =
      let reads : List Deed = reads_done g (view_of s) line s.own blocks in
      let more = sum_by-append (adds_to scalar) reads (additions g form b.partials) in
      let last = none b.partials in
      let first = reads_add_none g (view_of s) line s.own blocks in
      record { long = others.0; number = others.1; nothing = λ e. omega (arith, more, first, last) }
  local_partials g line form blocks s (Ok a) (Err kind) both others none = absurd both
  local_partials g line form blocks s (Err kind) b both others none = refl

  -- an answer that leaves all of them leaves this one
  leaves_others : (ps : List ℕ) (a : Answer Done) → LeavesPartials ps a → Others ps a
  leaves_others ps (Ok done) e = (ap length e, ap (λ qs. get_or qs scalar 0) e)
  leaves_others ps (Err kind) e = tt

  -- a write
  put_partials : (line : ℕ) (place : Named) (how : Access) (s : State) (answer : Answer (List ℕ)) → PartialsTo false s (put_done line place how s answer) (put_ran line (touch_of (view_of s) place how line) s.own answer)
  put_partials line place how s (Ok words) = same_partials s.partials (Writes (touch_of (view_of s) place how line) words ∷ []) refl
  put_partials line place how s (Err kind) = refl

  -- a local step of a statement that assigns to no scalar
  step_partials : (g : Setting) (form : Plain) (values : List (List ℕ)) (own : Own) (partials : List ℕ) → ((s : ℕ) (o : Op) (right : Right) → form ≡ Assign (target.Scalar s) o right → ⊥) → LeavesPartials partials (local_step g form values own partials)
  step_partials g (Assign (target.Scalar s) op right) values own partials apart = absurd (apart s op right refl)
  step_partials g (Assign (target.Block b) op right) values own partials apart =
      leaves_then
      partials
      (side_read g own right values)
      (λ side. to_target g (target.Block b) op side own partials)
      (λ side.
      leaves_then
      partials
      (old_words g own b (needs_old op || is_insertion g.spaces b.at side) (array_kind g b.array))
      (λ old. quiet (with_words g b (assigned g.spaces op (sight g own b old) side) own (array_kind g b.array)) partials)
      (λ old. refl))
  step_partials g (Allocate array at) values own partials apart =
      leaves_if
      partials
      (list_any (is_allocated own array) (matched g own array at))
      (Err LocalTwice)
      (quiet (all_allocated g array (matched g own array at) own) partials)
      tt
      refl
  step_partials g (Deallocate array at) values own partials apart =
      leaves_if
      partials
      (list_any (λ n. not (is_allocated own array n)) (matched g own array at))
      (Err LocalMissing)
      (quiet (all_deallocated array (matched g own array at) own) partials)
      tt
      refl
  step_partials g (Print text) values own partials apart = refl
  step_partials g (PrintScalar printed) values own partials apart =
      leaves_then
      partials
      (or_trap UnsetScalar (scalar_of own printed))
      (λ n. Ok (record { own = own; partials = partials; printed = scalar_line g printed n ∷ [] }))
      (λ n. refl)
  step_partials g (Integrals block) values own partials apart =
      leaves_then
      partials
      (old_words g own block false (array_kind g block.array))
      (λ old. quiet (with_words g block (integrals (sight g own block [])) own (array_kind g block.array)) partials)
      (λ old. refl)
  step_partials g form values own partials apart = refl

  module _ (g : Setting) (partial : scalar_class g scalar ≡ Partial) where
    -- another scalar set
    other_set : (class : ScalarClass) (s : ℕ) (o : Op) (side : Side) (own : Own) (ps : List ℕ) → eqb s scalar ≡ false → Others ps (to_scalar g class s o side own ps)
    other_set Replicated s o side own ps e = other_assigned s o (scalar_value g side) own ps (needs_old o) (or_trap UnsetScalar (scalar_of own s))
    other_set Private s o side own ps e = other_assigned s o (scalar_value g side) own ps (needs_old o) (or_trap UnsetScalar (scalar_of own s))
    other_set Partial s o side own ps e = (length-set ps s _, get_or-set_other ps s scalar _ 0 (λ same. eqb-false s scalar e (sym same)))

    -- an assignment of another scalar adds nothing to this one
    other_adds : (s : ℕ) (b : Bool) (class : ScalarClass) (n : ℕ) → eqb s scalar ≡ false → ◌≡◌ {A = ℕ} (sum_by (adds_to scalar) (if b then added_to class s n else [])) 0
    other_adds s true Replicated n e = refl
    other_adds s true Private n e = refl
    other_adds s true Partial n e =
        let more = sum_by-cons (adds_to scalar) (Adds s n) [] in
        let none : ◌≡◌ {A = ℕ} (if eqb s scalar then n else 0) 0 = ap (λ b. if b then n else 0) e in
        let last : ◌≡◌ {A = ℕ} (sum_by (adds_to scalar) []) 0 = refl in
        omega (arith, more, none, last)
    other_adds s false class n e = refl

    -- an assignment of another scalar
    other_partials : (line s : ℕ) (o : Op) (right : Right) (st : State) → eqb s scalar ≡ false → PartialsTo false st (effect Copied g line (Assign (target.Scalar s) o right) st) (effect_ran g (view_of st) line (Assign (target.Scalar s) o right) st.own)
    other_partials line s o right st e =
        let form : Plain = Assign (target.Scalar s) o right in
        local_partials
        g
        line
        form
        (reads_of g form)
        st
        (local_step g form (values_of g Copied st (reads_of g form)) st.own st.partials)
        (local_step g form (values_of g Copied st (reads_of g form)) st.own (no_partials g))
        (both_step g form (values_of g Copied st (reads_of g form)) st.own st.partials (no_partials g))
        (others_then
        st.partials
        (side_read g st.own right (values_of g Copied st (reads_of g form)))
        (λ side. to_scalar g (scalar_class g s) s o side st.own st.partials)
        (λ side. other_set (scalar_class g s) s o side st.own st.partials e))
        (λ ps. other_adds s (accumulates o) (scalar_class g s) (get_or ps s 0) e)

    -- the scalar itself set to a number
    set_partials : (line n : ℕ) (class : ScalarClass) (st : State) (x : Ran) → class ≡ Partial → n ≡ 0 → scalar < length st.partials → PartialsTo true st (local_done line st (to_scalar g class scalar op.Set (Alone (Uniform n)) st.own st.partials)) x
    set_partials line n Replicated st x e none there = absurd cc
    set_partials line n Private st x e none there = absurd cc
    set_partials line n Partial st x e none there = record {
      long = length-set st.partials scalar n;
      number = get_or-set_same st.partials scalar n 0 there ∙ none;
      nothing = λ f. absurd cc;
    }

    -- the scalar itself reset
    reset_partials : (line : ℕ) (o : Op) (right : Right) (st : State) → sets_zero (Assign (target.Scalar scalar) o right) ≡ true → scalar < length st.partials
        → PartialsTo true st (statement Copied g line (Assign (target.Scalar scalar) o right) st) (statement_ran g (view_of st) line (Assign (target.Scalar scalar) o right) st.own)
    reset_partials line op.Set (One (operand.Number n)) st e there =
        set_partials line n (scalar_class g scalar) st (statement_ran g (view_of st) line (Assign (target.Scalar scalar) op.Set (One (operand.Number n))) st.own) partial (eqb-true n 0 e) there
    reset_partials line op.Set (One (operand.Scalar n)) st e there = absurd cc
    reset_partials line op.Set (One (operand.Block b)) st e there = absurd cc
    reset_partials line op.Set (Two a bin b) st e there = absurd cc
    reset_partials line op.Add right st e there = absurd cc
    reset_partials line op.Subtract right st e there = absurd cc
    reset_partials line op.Scale right st e there = absurd cc

    -- reads alone
    reads_partials : (line : ℕ) (blocks : List BlockRef) (st : State) → PartialsTo false st (Went (reads_logged g line blocks st)) (Through (reads_done g (view_of st) line st.own blocks) st.own)
    reads_partials line blocks st =
        let is = reads_are g line blocks st in
        let same : (reads_logged g line blocks st).partials ≡ st.partials = ap (λ (t : State). t.partials) is ∙ reads_added g (view_of st) line st.own blocks st.partials in
        record { long = ap length same; number = ap (λ ps. get_or ps scalar 0) same; nothing = λ e. reads_add_none g (view_of st) line st.own blocks }

    -- a statement, unless its created flags trap
    trapped_partials : (line : ℕ) (st : State) (trap : Option TrapKind) (f : State → Outcome) (next : Own → Ran) → PartialsTo false st (f st) (next st.own) → PartialsTo false st (unless_trapped line st trap f) (unless_broken line st.own trap next)
    trapped_partials line st None f next h = h
    trapped_partials line st (Some kind) f next h = refl

    -- the effect of a statement that assigns to no scalar
    effect_partials : (line : ℕ) (form : Plain) (st : State) → ((s : ℕ) (o : Op) (right : Right) → form ≡ Assign (target.Scalar s) o right → ⊥) → PartialsTo false st (effect Copied g line form st) (effect_ran g (view_of st) line form st.own)
    effect_partials line (Assign (target.Scalar s) o right) st apart = absurd (apart s o right refl)
    effect_partials line (Get block) st apart = reads_partials line (block ∷ []) st
    effect_partials line (Request block) st apart = reads_partials line (block ∷ []) st
    effect_partials line (Put block how from) st apart = put_partials line (named g st.own block) how st (words_of g st.own from [])
    effect_partials line (Prepare block how from) st apart = put_partials line (named g st.own block) how st (words_of g st.own from [])
    effect_partials line (Create array) st apart = same_partials st.partials [] refl
    effect_partials line (Delete array) st apart = same_partials st.partials [] refl
    effect_partials line SipBarrier st apart = same_partials st.partials [] refl
    effect_partials line ServerBarrier st apart = same_partials st.partials [] refl
    effect_partials line (Collective into from) st apart = same_partials st.partials [] refl
    effect_partials line form st apart =
        local_partials
        g
        line
        form
        (reads_of g form)
        st
        (local_step g form (values_of g Copied st (reads_of g form)) st.own st.partials)
        (local_step g form (values_of g Copied st (reads_of g form)) st.own (no_partials g))
        (both_step g form (values_of g Copied st (reads_of g form)) st.own st.partials (no_partials g))
        (leaves_others st.partials (local_step g form (values_of g Copied st (reads_of g form)) st.own st.partials) (step_partials g form (values_of g Copied st (reads_of g form)) st.own st.partials apart))
        (λ ps. refl)

    -- nothing and something
    and_no : (b : Bool) → (b && false) ≡ false
    and_no true = refl
    and_no false = refl

    -- an assignment of a scalar, which is this one or another
    assign_partials : (line s : ℕ) (o : Op) (right : Right) (st : State) → ((k : ℕ) → Among k (s ∷ []) → scalar_class g k ≡ Partial → sets_zero (Assign (target.Scalar s) o right) ≡ true) → scalar < length st.partials
        → PartialsTo (sets_zero (Assign (target.Scalar s) o right) && contains (s ∷ []) scalar) st (statement Copied g line (Assign (target.Scalar s) o right) st) (statement_ran g (view_of st) line (Assign (target.Scalar s) o right) st.own)
    assign_partials line s o right st rule there = by_test (contains (s ∷ []) scalar) refl
      where
        here : Among scalar (s ∷ []) → scalar ≡ s
        here (inl same) = same
        here (inr none) = absurd none

        by_test : (b : Bool) → contains (s ∷ []) scalar ≡ b → PartialsTo (sets_zero (Assign (target.Scalar s) o right) && b) st (statement Copied g line (Assign (target.Scalar s) o right) st) (statement_ran g (view_of st) line (Assign (target.Scalar s) o right) st.own)
        by_test true e =
            let among = among_from scalar (s ∷ []) e in
            subst
            (λ (k : ℕ). PartialsTo (sets_zero (Assign (target.Scalar k) o right) && true) st (statement Copied g line (Assign (target.Scalar k) o right) st) (statement_ran g (view_of st) line (Assign (target.Scalar k) o right) st.own))
            (here among)
            (let zeroed : sets_zero (Assign (target.Scalar scalar) o right) ≡ true = rule scalar among partial in
            subst
            (λ (b : Bool). PartialsTo (b && true) st (statement Copied g line (Assign (target.Scalar scalar) o right) st) (statement_ran g (view_of st) line (Assign (target.Scalar scalar) o right) st.own))
            (sym zeroed)
            (reset_partials line o right st zeroed there))
        by_test false e =
            subst
            (λ (b : Bool). PartialsTo b st (statement Copied g line (Assign (target.Scalar s) o right) st) (statement_ran g (view_of st) line (Assign (target.Scalar s) o right) st.own))
            (sym (and_no (sets_zero (Assign (target.Scalar s) o right))))
            (trapped_partials
            line
            st
            (created_trap g (Assign (target.Scalar s) o right) st.own)
            (effect Copied g line (Assign (target.Scalar s) o right))
            (effect_ran g (view_of st) line (Assign (target.Scalar s) o right))
            (other_partials line s o right st (or_parts (eqb s scalar) false e).0))

    -- a statement that assigns to no scalar
    plain_partials : (line : ℕ) (form : Plain) (st : State) → ((s : ℕ) (o : Op) (right : Right) → form ≡ Assign (target.Scalar s) o right → ⊥) → PartialsTo false st (statement Copied g line form st) (statement_ran g (view_of st) line form st.own)
    plain_partials line form st apart =
        trapped_partials line st (created_trap g form st.own) (effect Copied g line form) (effect_ran g (view_of st) line form) (effect_partials line form st apart)

    -- any statement outside of pardos
    pub statement_partials : (line : ℕ) (form : Plain) (st : State) → ((k : ℕ) → Among k (scalars_written form) → scalar_class g k ≡ Partial → sets_zero form ≡ true) → scalar < length st.partials
        → PartialsTo (sets_zero form && contains (scalars_written form) scalar) st (statement Copied g line form st) (statement_ran g (view_of st) line form st.own)
    statement_partials line (Assign (target.Scalar s) o right) st rule there = assign_partials line s o right st rule there
    statement_partials line (Assign (target.Block b) o right) st rule there =
        subst
        (λ (x : Bool). PartialsTo x st (statement Copied g line (Assign (target.Block b) o right) st) (statement_ran g (view_of st) line (Assign (target.Block b) o right) st.own))
        (sym (and_no (sets_zero (Assign (target.Block b) o right))))
        (plain_partials line (Assign (target.Block b) o right) st (λ s p q e. absurd cc))
    statement_partials line form st rule there = plain_partials line form st (λ s p q e. absurd cc)
