-- The sides of statements: a call on a side gives the procedure that side.
use Rattle.std.proofs.Common.{◌≡◌, ℕ, zero, suc, ◌+◌, ◌<◌, ◌≤◌, List, [], ◌∷◌, map, filter, length, slice_index_or, fold, Bool, true, false, ◌||◌, ◌⊎◌, inl, inr, ⊎_elim, refl, sym, ap, ◌∙◌, subst, arith, None}
use Rattle.std.specs.List.{list_any, enumerate_from}
use Rattle.std.proofs.lemmas.Bool.{or_cases, or_left, or_right}
use Rattle.std.proofs.lemmas.List.{length-map, length-replicate}
use Rattle.std.proofs.lemmas.List.FromFn.{length-enumerate_from}
use Rattle.sial_syntax.specs.Agreeing.{contains}
use Rattle.sial_syntax.specs.Proper.{IsProper}
pub use Rattle.sial_syntax.specs.Sides.{sides_of}
use Rattle.sial_syntax.specs.Sides.{Sides, Sided, no_side, either_side, sides_at, called_by, sided_body, sided_procedures, sided, sides_given, procedure_sides, all_sided}
use Rattle.sial_syntax.specs.SideRules.{recursion}
use Rattle.sial_syntax.specs.Tree.{Tree, Procedure}
use Rattle.sial_syntax.specs.Visits.{Visit, body_visits}
use Rattle.sial_syntax.proofs.AmongLemmas.{Among, among_left, among_right, among_either, among_map, among_map_from, among_filter, among_filter_from, among_flat, any_at, any_from, contains_at, among_from, numbered_at}
use Rattle.sial_syntax.proofs.CallLemmas.{Below, Chain, chain_short, no_procedure}
use Rattle.sial_syntax.proofs.DepthLemmas.{body_calls, procedure_there, body_there}

-- whether something stands within pardos, or outside of them
abbrev pub on_side : (inner : Bool) → Sides → Bool
on_side true sides = sides.inner
on_side false sides = sides.outer

-- the sides of a procedure, as calls so deep give them
abbrev pub side_at : Tree → (depth procedure : ℕ) → Sides
side_at p depth procedure = slice_index_or (procedure_sides p depth) procedure no_side

-- a statement where it is visited, of a body that has these sides
abbrev pub placed : Sides → Visit → Sided
placed sides v = record { line = v.line; form = v.form; sides = sides_at sides v.within }

-- one of three tests
or_or : (a b c : Bool) → ((a || b) || c) ≡ (a || (b || c))
or_or true b c = refl
or_or false b c = refl

-- no side is none
no_side_is : (b : Bool) → on_side b no_side ≡ false
no_side_is true = refl
no_side_is false = refl

-- the sides of either
either_is : (b : Bool) (x y : Sides) → on_side b (either_side x y) ≡ (on_side b x || on_side b y)
either_is true x y = refl
either_is false x y = refl

-- the sides of all
fold_is : (b : Bool) (a : Sides) (xs : List Sides) → on_side b (fold either_side a xs) ≡ (on_side b a || list_any (on_side b) xs)
fold_is b a [] = none (on_side b a)
  where
    none : (c : Bool) → c ≡ (c || false)
    none true = refl
    none false = refl
fold_is b a (x ∷ xs) = fold_is b (either_side a x) xs ∙ (ap (λ c. c || list_any (on_side b) xs) (either_is b a x) ∙ or_or (on_side b a) (on_side b x) (list_any (on_side b) xs))

-- a call on a side gives it
pub given_from : (b : Bool) (calls : List Sided) (q : ℕ) (x : Sided) → Among x calls → Among q (called_by x.form) → on_side b x.sides ≡ true → on_side b (sides_given calls q) ≡ true
given_from b calls q x m c e =
    fold_is b no_side (map (λ (s : Sided). s.sides) (filter (λ (s : Sided). contains (called_by s.form) q) calls))
    ∙ or_right
    (on_side b no_side)
    (list_any (on_side b) (map (λ (s : Sided). s.sides) (filter (λ (s : Sided). contains (called_by s.form) q) calls)))
    (any_at
    (on_side b)
    x.sides
    (map (λ (s : Sided). s.sides) (filter (λ (s : Sided). contains (called_by s.form) q) calls))
    (among_map (λ (s : Sided). s.sides) x (filter (λ (s : Sided). contains (called_by s.form) q) calls) (among_filter (λ (s : Sided). contains (called_by s.form) q) x calls m (contains_at q (called_by x.form) c)))
    e)

-- a call that gives a side
abbrev pub Gives : Bool → List Sided → ℕ → Type 0
Gives b calls q = (x : Sided) × Among x calls × Among q (called_by x.form) × (on_side b x.sides ≡ true)

-- a side that is given is given by a call
pub given_by : (b : Bool) (calls : List Sided) (q : ℕ) → on_side b (sides_given calls q) ≡ true → Gives b calls q
given_by b calls q e =
    let kept = filter (λ (s : Sided). contains (called_by s.form) q) calls in
    ⊎_elim
    (λ (none : on_side b no_side ≡ true). let never : on_side b no_side ≡ false = no_side_is b in absurd cc)
    (λ some.
    let side = any_from (on_side b) (map (λ (s : Sided). s.sides) kept) some in
    let x = among_map_from (λ (s : Sided). s.sides) side.0 kept side.1 in
    let r = among_filter_from (λ (s : Sided). contains (called_by s.form) q) x.0 calls x.1 in
    (x.0, r.0, among_from q (called_by x.0.form) r.1, sym (ap (on_side b) x.2) ∙ side.2))
    (or_cases (on_side b no_side) (list_any (on_side b) (map (λ (s : Sided). s.sides) kept)) (sym (fold_is b no_side (map (λ (s : Sided). s.sides) kept)) ∙ e))

-- there are as many sides as procedures
pub sides_length : (p : Tree) (depth : ℕ) → length (procedure_sides p depth) ≡ length p.procedures
sides_length p zero = length-replicate (length p.procedures) no_side
sides_length p (suc depth) =
    length-map (enumerate_from 0 p.procedures) (λ (q : ℕ × Procedure). sides_given (sided p (procedure_sides p depth)) q.0) ∙ length-enumerate_from 0 p.procedures

-- the sides of a procedure, as calls one deeper give them
pub side_next : (p : Tree) (depth q : ℕ) → q < length p.procedures → side_at p (suc depth) q ≡ sides_given (sided p (procedure_sides p depth)) q
side_next p depth q there =
    let same : ◌≡◌ {A = ℕ} (0 + q) q = omega arith in
    numbered_at (sides_given (sided p (procedure_sides p depth))) 0 p.procedures q no_side there ∙ ap (sides_given (sided p (procedure_sides p depth))) same

-- a statement of a procedure
abbrev pub OfProcedure : Sided → List Procedure → List Sides → Type 0
OfProcedure x qs ss = (r : ℕ) × (r < length qs) × Among x (sided_body (slice_index_or ss r no_side) (slice_index_or qs r no_procedure).body)

-- a statement of procedures is one of one of them
pub procedures_from : (x : Sided) (qs : List Procedure) (ss : List Sides) → Among x (sided_procedures qs ss) → OfProcedure x qs ss
procedures_from x [] ss m = absurd m
procedures_from x (q ∷ qs) [] m = absurd m
procedures_from x (q ∷ qs) (s ∷ ss) m =
    ⊎_elim
    (λ (a : Among x (sided_body s q.body)). let first : OfProcedure x (q ∷ qs) (s ∷ ss) = (zero, omega arith, a) in first)
    (λ b. let r = procedures_from x qs ss b in (suc r.0, omega (arith, r.1), r.2))
    (among_either x (sided_body s q.body) (sided_procedures qs ss) m)

-- a statement of one procedure is one of all
procedures_at : (x : Sided) (qs : List Procedure) (ss : List Sides) (r : ℕ) → r < length qs → r < length ss → Among x (sided_body (slice_index_or ss r no_side) (slice_index_or qs r no_procedure).body) → Among x (sided_procedures qs ss)
procedures_at x [] ss r there side m = absurd (omega (arith, there))
procedures_at x (q ∷ qs) [] r there side m = absurd (omega (arith, side))
procedures_at x (q ∷ qs) (s ∷ ss) zero there side m = among_left x (sided_body s q.body) (sided_procedures qs ss) m
procedures_at x (q ∷ qs) (s ∷ ss) (suc r) there side m = among_right x (sided_body s q.body) (sided_procedures qs ss) (procedures_at x qs ss r (omega (arith, there)) (omega (arith, side)) m)

-- the sides of the program's own body
abbrev pub outside : Sides
outside = record { outer = true; inner = false }

-- a statement of a procedure among all, where the procedures have the sides that calls so deep give
pub procedure_at : (p : Tree) (depth r : ℕ) (v : Visit) → r < length p.procedures → Among v (body_visits (slice_index_or p.procedures r no_procedure).body) → Among (placed (side_at p depth r) v) (sided p (procedure_sides p depth))
procedure_at p depth r v there m =
    let many : length (procedure_sides p depth) ≡ length p.procedures = sides_length p depth in
    among_right
    (placed (side_at p depth r) v)
    (sided_body outside p.body)
    (sided_procedures p.procedures (procedure_sides p depth))
    (procedures_at
    (placed (side_at p depth r) v)
    p.procedures
    (procedure_sides p depth)
    r
    there
    (omega (arith, there, many))
    (among_map (placed (side_at p depth r)) v (body_visits (slice_index_or p.procedures r no_procedure).body) m))

-- a chain of so many calls leads to a procedure
abbrev Long : Tree → (depth procedure : ℕ) → Type 0
Long p depth q = (ys : List ℕ) × Chain p (q ∷ ys) × Below (length p.procedures) (q ∷ ys) × (length ys ≡ depth)

-- a statement's side comes from its body's sides
lower : {L : Type 0} (within b : Bool) (s t : Sides) → on_side b (sides_at s within) ≡ true → ((c : Bool) → on_side c s ≡ true → (on_side c t ≡ true) ⊎ L) → (on_side b (sides_at t within) ≡ true) ⊎ L
lower false b s t e h = h b e
lower true false s t e h = absurd cc
lower true true s t e h =
    ⊎_elim
    (λ (out : s.outer ≡ true). ⊎_elim (λ f. inl (or_left t.outer t.inner f)) (λ l. inr l) (h false out))
    (λ (in' : s.inner ≡ true). ⊎_elim (λ f. inl (or_right t.outer t.inner f)) (λ l. inr l) (h true in'))
    (or_cases s.outer s.inner e)

-- a side that calls one deeper give a procedure, less deep ones give, or a long chain leads to it
descends : (p : Tree) (depth : ℕ) (b : Bool) (q : ℕ) → q < length p.procedures → on_side b (side_at p (suc depth) q) ≡ true → (on_side b (side_at p depth q) ≡ true) ⊎ Long p depth q
descends p zero b q there e = inr ([], (tt, tt), (there, tt), refl)
descends p (suc n) b q there e =
    let g = given_by b (sided p (procedure_sides p (suc n))) q (sym (ap (on_side b) (side_next p (suc n) q there)) ∙ e) in
    ⊎_elim
    (λ main. inl (ap (on_side b) (side_next p n q there) ∙ given_from b (sided p (procedure_sides p n)) q g.0 (among_left g.0 (sided_body outside p.body) (sided_procedures p.procedures (procedure_sides p n)) main) g.2 g.3))
    (λ inside. of_one g.0 g.2 g.3 (procedures_from g.0 p.procedures (procedure_sides p (suc n)) inside) (λ c r below f. descends p n c r below f))
    (among_either g.0 (sided_body outside p.body) (sided_procedures p.procedures (procedure_sides p (suc n))) g.1)
  where
    of_one : (x : Sided) → Among q (called_by x.form) → on_side b x.sides ≡ true → OfProcedure x p.procedures (procedure_sides p (suc n)) → ((c : Bool) (r : ℕ) → r < length p.procedures → on_side c (side_at p (suc n) r) ≡ true → (on_side c (side_at p n r) ≡ true) ⊎ Long p n r) → (on_side b (side_at p (suc n) q) ≡ true) ⊎ Long p (suc n) q
    of_one x c f o on =
        let v = among_map_from (placed (side_at p (suc n) o.0)) x (body_visits (slice_index_or p.procedures o.0 no_procedure).body) o.2 in
        let calls : Among q (called_by v.0.form) = subst (λ (y : Sided). Among q (called_by y.form)) v.2 c in
        ⊎_elim
        (λ (side : on_side b (sides_at (side_at p n o.0) v.0.within) ≡ true).
        inl (ap (on_side b) (side_next p n q there) ∙ given_from b (sided p (procedure_sides p n)) q (placed (side_at p n o.0) v.0) (procedure_at p n o.0 v.0 o.1 v.1) calls side))
        (λ (long : Long p n o.0).
        inr (
          o.0 ∷ long.0,
          (among_flat (λ (w : Visit). called_by w.form) v.0 q (body_visits (slice_index_or p.procedures o.0 no_procedure).body) v.1 calls, long.1),
          (there, long.2),
          ap suc long.3,
        ))
        (lower v.0.within b (side_at p (suc n) o.0) (side_at p n o.0) (sym (ap (λ (y : Sided). on_side b y.sides) v.2) ∙ f) (λ d. on d o.0 o.1))

-- a statement of the program's own body among all
pub main_stands : (p : Tree) (v : Visit) → Among v (body_visits p.body) → Among (placed outside v) (all_sided p)
main_stands p v m =
    among_left
    (placed outside v)
    (sided_body outside p.body)
    (sided_procedures p.procedures (procedure_sides p (length p.procedures)))
    (among_map (placed outside) v (body_visits p.body) m)

-- a statement of a procedure among all
pub procedure_stands : (p : Tree) (r : ℕ) (v : Visit) → r < length p.procedures → Among v (body_visits (slice_index_or p.procedures r no_procedure).body) → Among (placed (sides_of p r) v) (all_sided p)
procedure_stands p r v there m = procedure_at p (length p.procedures) r v there m

-- the procedures that a proper program calls are there
pub sided_calls : (p : Tree) → IsProper p → (x : Sided) (q : ℕ) → Among x (all_sided p) → Among q (called_by x.form) → q < length p.procedures
sided_calls p proper x q m c =
    ⊎_elim
    (λ main.
    let v = among_map_from (placed outside) x (body_visits p.body) main in
    body_calls p [] false p.body (body_there p proper) v.0 q v.1 (subst (λ (y : Sided). Among q (called_by y.form)) v.2 c))
    (λ inside.
    let o = procedures_from x p.procedures (procedure_sides p (length p.procedures)) inside in
    let v = among_map_from (placed (sides_of p o.0)) x (body_visits (slice_index_or p.procedures o.0 no_procedure).body) o.2 in
    body_calls p [] false (slice_index_or p.procedures o.0 no_procedure).body (procedure_there p p.procedures o.0 proper.procedures) v.0 q v.1 (subst (λ (y : Sided). Among q (called_by y.form)) v.2 c))
    (among_either x (sided_body outside p.body) (sided_procedures p.procedures (procedure_sides p (length p.procedures))) m)

-- without recursion a call on a side gives the procedure that side
pub call_gives : (p : Tree) → IsProper p → recursion p ≡ None → (b : Bool) (x : Sided) (q : ℕ) → Among x (all_sided p) → Among q (called_by x.form) → on_side b x.sides ≡ true → on_side b (sides_of p q) ≡ true
call_gives p proper none b x q m c e =
    let there = sided_calls p proper x q m c in
    ⊎_elim
    (λ (side : on_side b (sides_of p q) ≡ true). side)
    (λ (long : Long p (length p.procedures) q).
    let short : suc (length long.0) ≤ length p.procedures = chain_short p none (q ∷ long.0) long.1 long.2 in absurd (omega (arith, short, long.3)))
    (descends p (length p.procedures) b q there (ap (on_side b) (side_next p (length p.procedures) q there) ∙ given_from b (all_sided p) q x m c e))
