-- Without recursion a procedure has a side exactly where some call gives it that side.
use Rattle.std.proofs.Common.{◌≡◌, ℕ, zero, suc, ◌<◌, length, slice_index_or, replicate, Bool, true, false, nat_lt, ⊎_elim, refl, sym, ap, ◌∙◌, subst, arith, None}
use Rattle.std.proofs.lemmas.Bool.{or_cases, or_left, or_right, ltb-true, ltb-false}
use Rattle.std.proofs.lemmas.List.{get_or_past}
use Rattle.sial_syntax.specs.CallLaws.{IsGiven, OuterByCalls, InnerByCalls}
use Rattle.sial_syntax.specs.Proper.{IsProper}
use Rattle.sial_syntax.specs.Sides.{Sides, Sided, no_side, sides_at, called_by, sided_body, sided_procedures, sided, procedure_sides, all_sided, sides_of}
use Rattle.sial_syntax.specs.SideRules.{recursion}
use Rattle.sial_syntax.specs.Tree.{Tree}
use Rattle.sial_syntax.specs.Visits.{body_visits}
use Rattle.sial_syntax.proofs.AmongLemmas.{Among, among_left, among_either, among_map_from}
use Rattle.sial_syntax.proofs.CallLemmas.{no_procedure}
use Rattle.sial_syntax.proofs.ReachedByChains.{member, contained}
use Rattle.sial_syntax.proofs.SideLemmas.{on_side, side_at, placed, outside, Gives, given_from, given_by, side_next, OfProcedure, procedures_from, procedure_at, sides_length, call_gives}

-- a statement's side comes from its body's sides, so it stays where these are more
more_at : (within b : Bool) (s t : Sides) → ((c : Bool) → on_side c s ≡ true → on_side c t ≡ true) → on_side b (sides_at s within) ≡ true → on_side b (sides_at t within) ≡ true
more_at false b s t more e = more b e
more_at true false s t more e = absurd cc
more_at true true s t more e =
    ⊎_elim
    (λ (out : s.outer ≡ true). or_left t.outer t.inner (more false out))
    (λ (in' : s.inner ≡ true). or_right t.outer t.inner (more true in'))
    (or_cases s.outer s.inner e)

-- a side that is given by a call is given where procedures have more sides
given_more : (p : Tree) (depth next : ℕ) (b : Bool) (q : ℕ) → ((c : Bool) (r : ℕ) → r < length p.procedures → on_side c (side_at p depth r) ≡ true → on_side c (side_at p next r) ≡ true)
    → Gives b (sided p (procedure_sides p depth)) q → Gives b (sided p (procedure_sides p next)) q
given_more p depth next b q more g =
    ⊎_elim
    (λ main. (g.0, among_left g.0 (sided_body outside p.body) (sided_procedures p.procedures (procedure_sides p next)) main, g.2, g.3))
    (λ inside. of_one (procedures_from g.0 p.procedures (procedure_sides p depth) inside))
    (among_either g.0 (sided_body outside p.body) (sided_procedures p.procedures (procedure_sides p depth)) g.1)
  where
    of_one : OfProcedure g.0 p.procedures (procedure_sides p depth) → Gives b (sided p (procedure_sides p next)) q
    of_one o =
        let v = among_map_from (placed (side_at p depth o.0)) g.0 (body_visits (slice_index_or p.procedures o.0 no_procedure).body) o.2 in
        let calls : Among q (called_by v.0.form) = subst (λ (y : Sided). Among q (called_by y.form)) v.2 g.2 in
        let on : on_side b (sides_at (side_at p depth o.0) v.0.within) ≡ true = sym (ap (λ (y : Sided). on_side b y.sides) v.2) ∙ g.3 in (
          placed (side_at p next o.0) v.0,
          procedure_at p next o.0 v.0 o.1 v.1,
          calls,
          more_at v.0.within b (side_at p depth o.0) (side_at p next o.0) (λ c. more c o.0 o.1) on,
        )

-- at first no procedure has a side
none_at_first : (p : Tree) (b : Bool) (q : ℕ) → on_side b (side_at p zero q) ≡ false
none_at_first p b q = ap (on_side b) (alike (length p.procedures) q no_side) ∙ no_side_is b
  where
    alike : {X : Type 0} (n k : ℕ) (d : X) → slice_index_or (replicate n d) k d ≡ d
    alike zero k d = refl
    alike (suc n) zero d = refl
    alike (suc n) (suc k) d = alike n k d

    no_side_is : (c : Bool) → on_side c no_side ≡ false
    no_side_is true = refl
    no_side_is false = refl

-- calls one deeper take no side away
rises : (p : Tree) (depth : ℕ) (b : Bool) (q : ℕ) → q < length p.procedures → on_side b (side_at p depth q) ≡ true → on_side b (side_at p (suc depth) q) ≡ true
rises p zero b q there e = let never : on_side b (side_at p zero q) ≡ false = none_at_first p b q in absurd cc
rises p (suc depth) b q there e =
    let g = given_by b (sided p (procedure_sides p depth)) q (sym (ap (on_side b) (side_next p depth q there)) ∙ e) in
    let h = given_more p depth (suc depth) b q (λ c r below f. rises p depth c r below f) g in
    ap (on_side b) (side_next p (suc depth) q there) ∙ given_from b (sided p (procedure_sides p (suc depth))) q h.0 h.1 h.2 h.3

-- a side that a procedure has at some depth is given by a call of a statement with the sides of one deeper
side_given : (p : Tree) (depth : ℕ) (b : Bool) (q : ℕ) → q < length p.procedures → on_side b (side_at p depth q) ≡ true → Gives b (sided p (procedure_sides p depth)) q
side_given p zero b q there e = let never : on_side b (side_at p zero q) ≡ false = none_at_first p b q in absurd cc
side_given p (suc depth) b q there e =
    given_more p depth (suc depth) b q (λ c r below f. rises p depth c r below f)
    (given_by b (sided p (procedure_sides p depth)) q (sym (ap (on_side b) (side_next p depth q there)) ∙ e))

-- a procedure that isn't there has no side
side_there : (p : Tree) (b : Bool) (q : ℕ) → on_side b (sides_of p q) ≡ true → q < length p.procedures
side_there p b q e =
    elim (nat_lt q (length p.procedures)) as (λ t. nat_lt q (length p.procedures) ≡ t → q < length p.procedures) [
      | true ↦ λ here. ltb-true q (length p.procedures) here
      | false ↦ λ past.
          let far = ltb-false q (length p.procedures) past in
          let many = sides_length p (length p.procedures) in
          let none : sides_of p q ≡ no_side = get_or_past (procedure_sides p (length p.procedures)) q no_side (omega (arith, far, many)) in
          absurd (no b (sym (ap (on_side b) none) ∙ e))
    ] refl
  where
    no : (c : Bool) → on_side c no_side ≡ true → ⊥
    no true f = absurd cc
    no false f = absurd cc

-- a side of a procedure, and the call that gives it
by_calls : (p : Tree) → IsProper p → recursion p ≡ None → (b : Bool) (q : ℕ) → (on_side b (sides_of p q) ≡ true → IsGiven (on_side b) p q) × (IsGiven (on_side b) p q → on_side b (sides_of p q) ≡ true)
by_calls p proper none b q = (
  λ e. let g = side_given p (length p.procedures) b q (side_there p b q e) e in (g.0, contained g.0 (all_sided p) g.1, contained q (called_by g.0.form) g.2, g.3),
  λ g. call_gives p proper none b g.0 q (member g.0 (all_sided p) g.1) (member q (called_by g.0.form) g.2) g.3,
)

pub outer-by-calls : OuterByCalls
outer-by-calls p q proper none = by_calls p proper none false q

pub inner-by-calls : InnerByCalls
inner-by-calls p q proper none = by_calls p proper none true q
