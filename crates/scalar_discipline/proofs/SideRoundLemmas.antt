-- Rounds give the sides of procedures, and so those of all statements.
use Rattle.std.proofs.Common.{◌≡◌, ℕ, zero, suc, ◌+◌, ◌<◌, List, [], ◌∷◌, ◌++◌, map, filter, flat_map, fold, drop, length, replicate, slice_index_or, set, Bool, true, false, cond, ◌==◌, ◌||◌, ◌⊎◌, inl, inr, refl, sym, ap, ◌∙◌, subst, append_assoc, append-nil, arith}
use Rattle.std.specs.List.{enumerate_from}
use Rattle.std.proofs.lemmas.Bool.{eqb-true, eq-eqb}
use Rattle.std.proofs.lemmas.Grind.{flat_map-append}
use Rattle.std.proofs.lemmas.List.{length-map, length-replicate, map-append}
use Rattle.sial_syntax.specs.Agreeing.{contains}
use Rattle.sial_syntax.specs.Boxes.{numbers_from}
use Rattle.sial_syntax.specs.Sides.{Sides, Sided, no_side, either_side, sides_at, called_by, sided_body, sided_procedures, sided, sides_given, procedure_sides, all_sided}
use Rattle.sial_syntax.specs.Tree.{Tree, Procedure, Block, End, Then, Plain, Do, DoIn, Pardo, If, IfElse}
use Rattle.sial_syntax.specs.Visits.{Visit, visits, inner_visits, body_visits}
use Rattle.sial_syntax.proofs.CallLemmas.{no_procedure}
use Rattle.scalar_discipline.specs.declared.call.Call.{Call}
use Rattle.scalar_discipline.specs.Calls.{calls_within}
use Rattle.scalar_discipline.specs.Calls as calls
use Rattle.scalar_discipline.specs.Flat.{outside, with_body, with_inner, with_procedures, all_placed}
use Rattle.scalar_discipline.specs.Handing.{given_more, hand_on, handed, handed_by, nowhere, next_sides, sides_after}
use Rattle.scalar_discipline.proofs.CallListLemmas.{calls_at, calls-are}
use Rattle.scalar_discipline.proofs.ListLemmas.{same_map, map_twice, map_numbers, map_enumerated, number_at}
use Rattle.scalar_discipline.proofs.ReachRoundLemmas.{one-called}

-- a statement of a body that has these sides
abbrev side_of : Sides → Visit → Sided
side_of own v = record { line = v.line; form = v.form; sides = sides_at own v.within }

mutual
  -- the statements of a body behind others
  in-body : (own : Sides) (bound : List ℕ) (within : Bool) (body : Block) (all : List Sided) → with_body own within body all ≡ all ++ map (side_of own) (visits bound within body)
  in-body own bound within End all = sym (append-nil all)
  in-body own bound within (Then line form rest) all =
      let here = side_of own (record { line = line; form = form; bound = bound; within = within }) in
      let inner = map (side_of own) (inner_visits bound within form) in
      let others = map (side_of own) (visits bound within rest) in
      in-body own bound within rest (with_inner own within form (all ++ here ∷ []))
      ∙ (ap (λ ss. ss ++ others) (inside own bound within form (all ++ here ∷ []))
      ∙ (append_assoc (all ++ here ∷ []) inner others
      ∙ (append_assoc all (here ∷ []) (inner ++ others)
      ∙ ap (λ ss. all ++ here ∷ ss) (sym (map-append (side_of own) (inner_visits bound within form) (visits bound within rest))))))

  -- the statements inside a statement behind others
  inside : (own : Sides) (bound : List ℕ) (within : Bool) (form : Plain) (all : List Sided) → with_inner own within form all ≡ all ++ map (side_of own) (inner_visits bound within form)
  inside own bound within (Do index body) all = in-body own (index ∷ bound) within body all
  inside own bound within (DoIn sub index body) all = in-body own (sub ∷ bound) within body all
  inside own bound within (Pardo indices wheres body) all = in-body own (indices ++ bound) true body all
  inside own bound within (If cond body) all = in-body own bound within body all
  inside own bound within (IfElse cond body other) all =
      in-body own bound within other (with_body own within body all)
      ∙ (ap (λ ss. ss ++ map (side_of own) (visits bound within other)) (in-body own bound within body all)
      ∙ (append_assoc all (map (side_of own) (visits bound within body)) (map (side_of own) (visits bound within other))
      ∙ ap (λ ss. all ++ ss) (sym (map-append (side_of own) (visits bound within body) (visits bound within other)))))
  inside own bound within _ all = sym (append-nil all)

-- what a list begins with at a place
drop-head : {X : Type 0} (xs : List X) (k : ℕ) (d x : X) (rest : List X) → drop k xs ≡ x ∷ rest → (slice_index_or xs k d ≡ x) × (drop (k + 1) xs ≡ rest)
drop-head [] zero d x rest e = absurd cc
drop-head [] (suc k) d x rest e = absurd cc
drop-head (y ∷ ys) zero d x rest e = (ap (first y) e, ap others e)
  where
    first : {X : Type 0} → X → List X → X
    first z [] = z
    first z (w ∷ ws) = w

    others : {X : Type 0} → List X → List X
    others [] = []
    others (w ∷ ws) = ws
drop-head (y ∷ ys) (suc k) d x rest e =
    let more : suc k + 1 ≡ suc (k + 1) = omega arith in
    let head = drop-head ys k d x rest e in
    (head.0, ap (λ n. drop n (y ∷ ys)) more ∙ head.1)

-- the statements of procedures behind others, where each has its sides
in-procedures : (sides : List Sides) (place : ℕ) (qs : List Procedure) (own : List Sides) (all : List Sided) → drop place sides ≡ own → length own ≡ length qs → with_procedures sides place qs all ≡ all ++ sided_procedures qs own
in-procedures sides place [] own all at long = sym (append-nil all)
in-procedures sides place (q ∷ qs) [] all at long = absurd (omega (arith, long))
in-procedures sides place (q ∷ qs) (s ∷ ss) all at long =
    let head = drop-head sides place no_side s ss at in
    in-procedures sides (place + 1) qs ss (with_body (slice_index_or sides place no_side) false q.body all) head.1 (omega (arith, long))
    ∙ (ap (λ xs. xs ++ sided_procedures qs ss) (in-body (slice_index_or sides place no_side) [] false q.body all ∙ ap (λ t. all ++ sided_body t q.body) head.0)
    ∙ append_assoc all (sided_body s q.body) (sided_procedures qs ss))

-- so are all statements
pub placed-are : (p : Tree) (sides : List Sides) → length sides ≡ length p.procedures → all_placed p sides ≡ sided p sides
placed-are p sides long =
    in-procedures sides 0 p.procedures sides (with_body outside false p.body []) refl long
    ∙ ap (λ xs. xs ++ sided_procedures p.procedures sides) (in-body outside [] false p.body [])

-- what statements hand on
abbrev handed_of : List Sided → List (ℕ × Sides)
handed_of ss = flat_map (λ (s : Sided). map (λ q. (q, s.sides)) (called_by s.form)) ss

-- the calls of a body hand on what its statements do
handed-visits : (own : Sides) (vs : List Visit) → handed own (flat_map calls_at vs) ≡ handed_of (map (side_of own) vs)
handed-visits own [] = refl
handed-visits own (v ∷ vs) = by (called_by v.form) ∙ ap (λ hs. map (λ q. (q, sides_at own v.within)) (called_by v.form) ++ hs) (handed-visits own vs)
  where
    by : (qs : List ℕ)
        → handed own (map (λ q. record { line = v.line; procedure = q; within = v.within }) qs ++ flat_map calls_at vs) ≡ map (λ q. (q, sides_at own v.within)) qs ++ handed own (flat_map calls_at vs)
    by [] = refl
    by (q ∷ qs) = ap (λ hs. (q, sides_at own v.within) ∷ hs) (by qs)

-- of one procedure
handed-body : (own : Sides) (q : Procedure) → handed own (calls_within q) ≡ handed_of (sided_body own q.body)
handed-body own q = ap (handed own) (calls-are q) ∙ handed-visits own (body_visits q.body)

-- of all procedures
handed-procedures : (sides : List Sides) (place : ℕ) (qs : List Procedure) (own : List Sides) → drop place sides ≡ own → length own ≡ length qs → handed_by sides place (map calls_within qs) ≡ handed_of (sided_procedures qs own)
handed-procedures sides place [] own at long = refl
handed-procedures sides place (q ∷ qs) [] at long = absurd (omega (arith, long))
handed-procedures sides place (q ∷ qs) (s ∷ ss) at long =
    let head = drop-head sides place no_side s ss at in
    ap (λ t. handed t (calls_within q) ++ handed_by sides (place + 1) (map calls_within qs)) head.0
    ∙ (ap (λ hs. hs ++ handed_by sides (place + 1) (map calls_within qs)) (handed-body s q)
    ∙ (ap (λ hs. handed_of (sided_body s q.body) ++ hs) (handed-procedures sides (place + 1) qs ss head.1 (omega (arith, long)))
    ∙ sym (flat_map-append (λ (s : Sided). map (λ q. (q, s.sides)) (called_by s.form)) (sided_body s q.body) (sided_procedures qs ss))))

-- of the whole program
handed-all : (p : Tree) (sides : List Sides) → length sides ≡ length p.procedures → handed outside (calls.with_body false p.body []) ++ handed_by sides 0 (map calls_within p.procedures) ≡ handed_of (sided p sides)
handed-all p sides long =
    ap (λ hs. hs ++ handed_by sides 0 (map calls_within p.procedures)) (handed-body outside (record { name = []; body = p.body }))
    ∙ (ap (λ hs. handed_of (sided_body outside p.body) ++ hs) (handed-procedures sides 0 p.procedures sides refl long)
    ∙ sym (flat_map-append (λ (s : Sided). map (λ q. (q, s.sides)) (called_by s.form)) (sided_body outside p.body) (sided_procedures p.procedures sides)))

-- numbers of which one is changed
pub set-numbers : {X : Type 0} (f g : ℕ → X) (first n i : ℕ) (x : X) → ((j : ℕ) → j < n → (j ≡ i → ⊥) → f (first + j) ≡ g (first + j)) → (i < n → x ≡ g (first + i)) → set (map f (numbers_from first n)) i x ≡ map g (numbers_from first n)
set-numbers f g first zero i x same is = refl
set-numbers f g first (suc n) zero x same is =
    let start : first + 0 ≡ first = omega arith in
    ap (λ y. y ∷ map f (numbers_from (first + 1) n)) (is (omega arith) ∙ ap g start) ∙ ap (λ ys. g first ∷ ys) (rest f g (first + 1) n (λ j within.
    let next : first + suc j ≡ (first + 1) + j = omega arith in
    subst (λ (k : ℕ). f k ≡ g k) next (same (suc j) (omega (arith, within)) (λ e. omega (arith, e)))))
  where
    rest : {X : Type 0} (f g : ℕ → X) (first n : ℕ) → ((j : ℕ) → j < n → f (first + j) ≡ g (first + j)) → map f (numbers_from first n) ≡ map g (numbers_from first n)
    rest f g first zero same = refl
    rest f g first (suc n) same =
        let start : first + 0 ≡ first = omega arith in
        ap (λ y. y ∷ map f (numbers_from (first + 1) n)) (subst (λ (k : ℕ). f k ≡ g k) start (same 0 (omega arith)))
        ∙ ap (λ ys. g first ∷ ys) (rest f g (first + 1) n (λ j within. let next : first + suc j ≡ (first + 1) + j = omega arith in subst (λ (k : ℕ). f k ≡ g k) next (same (suc j) (omega (arith, within)))))
set-numbers f g first (suc n) (suc i) x same is =
    let start : first + 0 ≡ first = omega arith in
    let next : (first + 1) + i ≡ first + suc i = omega arith in
    ap (λ y. y ∷ set (map f (numbers_from (first + 1) n)) i x) (subst (λ (k : ℕ). f k ≡ g k) start (same 0 (omega arith) (λ e. omega (arith, e))))
    ∙ ap (λ ys. g first ∷ ys)
    (set-numbers f g (first + 1) n i x
    (λ j within other. let more : first + suc j ≡ (first + 1) + j = omega arith in subst (λ (k : ℕ). f k ≡ g k) more (same (suc j) (omega (arith, within)) (λ e. other (omega (arith, e)))))
    (λ within. is (omega (arith, within)) ∙ ap g (sym next)))

-- sides of procedures of which one is given more
more-at : (f : ℕ → Sides) (n i : ℕ) (sides : Sides) → given_more i sides (map f (numbers_from 0 n)) ≡ map (λ q. cond (i == q) (either_side (f q) sides) (f q)) (numbers_from 0 n)
more-at f n i sides =
    set-numbers f (λ q. cond (i == q) (either_side (f q) sides) (f q)) 0 n i (either_side (slice_index_or (map f (numbers_from 0 n)) i no_side) sides)
    (λ j within other. same j other (i == (0 + j)) refl)
    (λ within.
    let here : i ≡ 0 + i = omega arith in
    ap (λ (s : Sides). either_side s sides) (number_at f 0 n i no_side within)
    ∙ sym (ap (λ b. cond b (either_side (f (0 + i)) sides) (f (0 + i))) (eq-eqb i (0 + i) here)))
  where
    same : (j : ℕ) → (j ≡ i → ⊥) → (b : Bool) → (i == (0 + j)) ≡ b → f (0 + j) ≡ cond (i == (0 + j)) (either_side (f (0 + j)) sides) (f (0 + j))
    same j other true e = let is : i ≡ 0 + j = eqb-true i (0 + j) e in absurd (other (omega (arith, is)))
    same j other false e = sym (ap (λ b. cond b (either_side (f (0 + j)) sides) (f (0 + j))) e)

-- the sides that procedures have once some are handed on
hand-map : (hs : List (ℕ × Sides)) (f : ℕ → Sides) (n : ℕ)
    → hand_on hs (map f (numbers_from 0 n)) ≡ map (λ q. fold either_side (f q) (map (λ (h : ℕ × Sides). h.1) (filter (λ (h : ℕ × Sides). h.0 == q) hs))) (numbers_from 0 n)
hand-map [] f n = refl
hand-map (h ∷ hs) f n =
    ap (hand_on hs) (more-at f n h.0 h.1)
    ∙ (hand-map hs (λ q. cond (h.0 == q) (either_side (f q) h.1) (f q)) n
    ∙ same_map
    (λ q. fold either_side (cond (h.0 == q) (either_side (f q) h.1) (f q)) (map (λ (g : ℕ × Sides). g.1) (filter (λ (g : ℕ × Sides). g.0 == q) hs)))
    (λ q. fold either_side (f q) (map (λ (g : ℕ × Sides). g.1) (filter (λ (g : ℕ × Sides). g.0 == q) (h ∷ hs))))
    (numbers_from 0 n)
    (λ q among. step (h.0 == q) (f q) (filter (λ (g : ℕ × Sides). g.0 == q) hs)))
  where
    step : (b : Bool) (a : Sides) (fs : List (ℕ × Sides)) → fold either_side (cond b (either_side a h.1) a) (map (λ (g : ℕ × Sides). g.1) fs) ≡ fold either_side a (map (λ (g : ℕ × Sides). g.1) (cond b (h ∷ fs) fs))
    step true a fs = refl
    step false a fs = refl

-- what statements hand on to a procedure
given-are : (q : ℕ) (ss : List Sided) (a : Sides)
    → fold either_side a (map (λ (h : ℕ × Sides). h.1) (filter (λ (h : ℕ × Sides). h.0 == q) (handed_of ss)))
    ≡ fold either_side a (map (λ (s : Sided). s.sides) (filter (λ (s : Sided). contains (called_by s.form) q) ss))
given-are q [] a = refl
given-are q (s ∷ ss) a = by (called_by s.form) (one-called s.form) (λ b. given-are q ss b)
  where
    passed : (b : Bool) (r : ℕ) (hs : List (ℕ × Sides)) (ts : List Sided)
        → ((c : Sides) → fold either_side c (map (λ (h : ℕ × Sides). h.1) hs) ≡ fold either_side c (map (λ (t : Sided). t.sides) ts))
        → fold either_side a (map (λ (h : ℕ × Sides). h.1) (cond b ((r, s.sides) ∷ hs) hs)) ≡ fold either_side a (map (λ (t : Sided). t.sides) (cond (b || false) (s ∷ ts) ts))
    passed true r hs ts same = same (either_side a s.sides)
    passed false r hs ts same = same a

    by : (qs : List ℕ) → (qs ≡ []) ⊎ ((r : ℕ) × (qs ≡ r ∷ []))
        → ((c : Sides) → fold either_side c (map (λ (h : ℕ × Sides). h.1) (filter (λ (h : ℕ × Sides). h.0 == q) (handed_of ss))) ≡ fold either_side c (map (λ (t : Sided). t.sides) (filter (λ (t : Sided). contains (called_by t.form) q) ss)))
        → fold either_side a (map (λ (h : ℕ × Sides). h.1) (filter (λ (h : ℕ × Sides). h.0 == q) (map (λ r. (r, s.sides)) qs ++ handed_of ss)))
        ≡ fold either_side a (map (λ (t : Sided). t.sides) (cond (contains qs q) (s ∷ filter (λ (t : Sided). contains (called_by t.form) q) ss) (filter (λ (t : Sided). contains (called_by t.form) q) ss)))
    by qs (inl none) same =
        subst
        (λ (rs : List ℕ). fold either_side a (map (λ (h : ℕ × Sides). h.1) (filter (λ (h : ℕ × Sides). h.0 == q) (map (λ r. (r, s.sides)) rs ++ handed_of ss)))
        ≡ fold either_side a (map (λ (t : Sided). t.sides) (cond (contains rs q) (s ∷ filter (λ (t : Sided). contains (called_by t.form) q) ss) (filter (λ (t : Sided). contains (called_by t.form) q) ss))))
        (sym none) (same a)
    by qs (inr one) same =
        subst
        (λ (rs : List ℕ). fold either_side a (map (λ (h : ℕ × Sides). h.1) (filter (λ (h : ℕ × Sides). h.0 == q) (map (λ r. (r, s.sides)) rs ++ handed_of ss)))
        ≡ fold either_side a (map (λ (t : Sided). t.sides) (cond (contains rs q) (s ∷ filter (λ (t : Sided). contains (called_by t.form) q) ss) (filter (λ (t : Sided). contains (called_by t.form) q) ss))))
        (sym one.1)
        (passed (one.0 == q) one.0 (filter (λ (h : ℕ × Sides). h.0 == q) (handed_of ss)) (filter (λ (t : Sided). contains (called_by t.form) q) ss) same)

-- what a round gives procedures is what the calls among all statements give them
next-are : (p : Tree) (sides : List Sides) → length sides ≡ length p.procedures
    → next_sides (calls.with_body false p.body []) (map calls_within p.procedures) sides ≡ map (λ (x : ℕ × Procedure). sides_given (sided p sides) x.0) (enumerate_from 0 p.procedures)
next-are p sides long =
    let n = length p.procedures in
    ap (λ hs. hand_on hs (nowhere (map calls_within p.procedures))) (handed-all p sides long)
    ∙ (ap (hand_on (handed_of (sided p sides))) (map_twice (λ (own : List Call). no_side) calls_within p.procedures ∙ map_numbers (λ (q : Procedure). no_side) (λ q. no_side) p.procedures no_procedure 0 (λ i within. refl))
    ∙ (hand-map (handed_of (sided p sides)) (λ q. no_side) n
    ∙ (same_map
    (λ q. fold either_side no_side (map (λ (h : ℕ × Sides). h.1) (filter (λ (h : ℕ × Sides). h.0 == q) (handed_of (sided p sides)))))
    (λ q. sides_given (sided p sides) q) (numbers_from 0 n) (λ q among. given-are q (sided p sides) no_side)
    ∙ sym (map_enumerated (λ (x : ℕ × Procedure). sides_given (sided p sides) x.0) (λ q. sides_given (sided p sides) q) p.procedures no_procedure 0 (λ i within. refl)))))

-- there are as many sides as procedures
pub sides-long : (p : Tree) (m : ℕ) → length (procedure_sides p m) ≡ length p.procedures
sides-long p zero = length-replicate (length p.procedures) no_side
sides-long p (suc m) = length-map (enumerate_from 0 p.procedures) (λ (x : ℕ × Procedure). sides_given (sided p (procedure_sides p m)) x.0) ∙ counted 0 p.procedures
  where
    counted : (first : ℕ) (qs : List Procedure) → length (enumerate_from first qs) ≡ length qs
    counted first [] = refl
    counted first (q ∷ qs) = ap suc (counted (first + 1) qs)

-- so rounds give the sides that calls so deep give
pub sides-are : (p : Tree) (m : ℕ) → sides_after (calls.with_body false p.body []) (map calls_within p.procedures) m ≡ procedure_sides p m
sides-are p zero = map_twice (λ (own : List Call). no_side) calls_within p.procedures ∙ nothing p.procedures
  where
    nothing : (qs : List Procedure) → map (λ (q : Procedure). no_side) qs ≡ replicate (length qs) no_side
    nothing [] = refl
    nothing (q ∷ qs) = ap (λ ss. no_side ∷ ss) (nothing qs)
sides-are p (suc m) =
    ap (next_sides (calls.with_body false p.body []) (map calls_within p.procedures)) (sides-are p m) ∙ next-are p (procedure_sides p m) (sides-long p m)

-- and all statements have theirs
pub all-are : (p : Tree) (sides : List Sides) → sides ≡ procedure_sides p (length p.procedures) → all_placed p sides ≡ all_sided p
all-are p sides is = ap (all_placed p) is ∙ placed-are p (procedure_sides p (length p.procedures)) (sides-long p (length p.procedures))
