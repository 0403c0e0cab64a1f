-- Chains of calls: without recursion they repeat no procedure, so they are no longer than there are procedures.
use Rattle.std.proofs.Common.{◌≡◌, ℕ, zero, suc, ◌+◌, ◌<◌, ◌≤◌, List, [], ◌∷◌, filter, flat_map, length, slice_index_or, Bool, true, false, cond, eqb, eqb-true, eq-eqb, ◌⊎◌, inl, inr, refl, sym, ap, ◌∙◌, subst, arith, None}
use Rattle.std.specs.List.{list_any, enumerate_from}
use Rattle.std.proofs.lemmas.Bool.{or_cases, or_left, or_right, or_parts, or_from, eqb-false}
use Rattle.sial_syntax.specs.Agreeing.{contains, has_twice}
use Rattle.sial_syntax.specs.Sides.{called_by}
use Rattle.sial_syntax.specs.SideRules.{calls_of, reaches, recursive_calls, recursion, least}
use Rattle.sial_syntax.specs.Tree.{Tree, Procedure, End}
use Rattle.sial_syntax.specs.Visits.{Visit, body_visits}
use Rattle.sial_syntax.proofs.AmongLemmas.{Among, among_flat_from, any_at, any_from, none_at, among_from, among_numbered, map_none, append_none, filter_none}

-- all numbers are below a bound
abbrev pub Below : ℕ → List ℕ → Type 0
Below n [] = Unit {0}
Below n (x ∷ xs) = (x < n) × Below n xs

-- the others of a list
abbrev others : ℕ → List ℕ → List ℕ
others n [] = []
others n (x ∷ xs) = cond (eqb x n) (others n xs) (x ∷ others n xs)

-- a list that hasn't a number is all others
others_same : (n : ℕ) (xs : List ℕ) → contains xs n ≡ false → others n xs ≡ xs
others_same n [] e = refl
others_same n (x ∷ xs) e =
    let parts = or_parts (eqb x n) (contains xs n) e in
    ap (λ b. cond b (others n xs) (x ∷ others n xs)) parts.0 ∙ ap (λ ys. x ∷ ys) (others_same n xs parts.1)

-- what a list hasn't the others haven't
others_lack : (n k : ℕ) (xs : List ℕ) → contains xs k ≡ false → contains (others n xs) k ≡ false
others_lack n k [] e = refl
others_lack n k (x ∷ xs) e = by_test (eqb x n) (or_parts (eqb x k) (contains xs k) e) (others_lack n k xs)
  where
    by_test : (b : Bool) → (eqb x k ≡ false) × (contains xs k ≡ false) → (contains xs k ≡ false → contains (others n xs) k ≡ false) → contains (cond b (others n xs) (x ∷ others n xs)) k ≡ false
    by_test true parts h = h parts.1
    by_test false parts h = or_from (eqb x k) (contains (others n xs) k) parts.0 (h parts.1)

-- the others of different numbers are different
others_once : (n : ℕ) (xs : List ℕ) → has_twice xs ≡ false → has_twice (others n xs) ≡ false
others_once n [] e = refl
others_once n (x ∷ xs) e = by_test (eqb x n) (or_parts (contains xs x) (has_twice xs) e) (others_once n xs)
  where
    by_test : (b : Bool) → (contains xs x ≡ false) × (has_twice xs ≡ false) → (has_twice xs ≡ false → has_twice (others n xs) ≡ false) → has_twice (cond b (others n xs) (x ∷ others n xs)) ≡ false
    by_test true parts h = h parts.1
    by_test false parts h = or_from (contains (others n xs) x) (has_twice (others n xs)) (others_lack n x xs parts.0) (h parts.1)

-- one of different numbers is left out at most
others_length : (n : ℕ) (xs : List ℕ) → has_twice xs ≡ false → length xs ≤ suc (length (others n xs))
others_length n [] e = omega arith
others_length n (x ∷ xs) e = by_test (eqb x n) refl (or_parts (contains xs x) (has_twice xs) e) (others_length n xs)
  where
    by_test : (b : Bool) → eqb x n ≡ b → (contains xs x ≡ false) × (has_twice xs ≡ false) → (has_twice xs ≡ false → length xs ≤ suc (length (others n xs))) → suc (length xs) ≤ suc (length (cond b (others n xs) (x ∷ others n xs)))
    by_test true same parts h =
        let lacks : contains xs n ≡ false = ap (contains xs) (sym (eqb-true x n same)) ∙ parts.0 in
        let all : length (others n xs) ≡ length xs = ap length (others_same n xs lacks) in
        omega (arith, all)
    by_test false same parts h = let most : length xs ≤ suc (length (others n xs)) = h parts.1 in omega (arith, most)

-- the others of numbers up to a bound are below it
others_below : (n : ℕ) (xs : List ℕ) → Below (suc n) xs → Below n (others n xs)
others_below n [] below = tt
others_below n (x ∷ xs) below = by_test (eqb x n) refl (others_below n xs below.1)
  where
    by_test : (b : Bool) → eqb x n ≡ b → Below n (others n xs) → Below n (cond b (others n xs) (x ∷ others n xs))
    by_test true e h = h
    by_test false e h = let first : x < suc n = below.0 in let apart : x ≡ n → ⊥ = eqb-false x n e in (below_suc x n first apart, h)
      where
        below_suc : (x n : ℕ) → x < suc n → (x ≡ n → ⊥) → x < n
        below_suc x n first apart = omega (arith, first, apart)

-- different numbers below a bound are no more than that
pub below_short : (n : ℕ) (xs : List ℕ) → Below n xs → has_twice xs ≡ false → length xs ≤ n
below_short zero [] below once = omega arith
below_short zero (x ∷ xs) below once = absurd (omega (arith, below.0))
below_short (suc n) xs below once =
    let fewer : length (others n xs) ≤ n = below_short n (others n xs) (others_below n xs below) (others_once n xs once) in
    let most : length xs ≤ suc (length (others n xs)) = others_length n xs once in
    omega (arith, fewer, most)

-- the first is called by the next, where there is one
abbrev pub CalledBy : Tree → ℕ → List ℕ → Type 0
CalledBy p x [] = Unit {0}
CalledBy p x (y ∷ ys) = Among x (calls_of p y)

-- each is called by the next
abbrev pub Chain : Tree → List ℕ → Type 0
Chain p [] = Unit {0}
Chain p (x ∷ xs) = CalledBy p x xs × Chain p xs

-- a procedure is reached from itself
reaches_itself : (p : Tree) (most x : ℕ) → reaches p most x x ≡ true
reaches_itself p zero x = eq-eqb x x refl
reaches_itself p (suc n) x = or_left (eqb x x) (list_any (λ q. reaches p n q x) (calls_of p x)) (eq-eqb x x refl)

-- from a procedure to one that it calls
reaches_called : (p : Tree) (most a b c : ℕ) → eqb a b ≡ true → Among c (calls_of p b) → reaches p (suc most) a c ≡ true
reaches_called p n a b c e m =
    or_right
    (eqb a c)
    (list_any (λ q. reaches p n q c) (calls_of p a))
    (any_at (λ q. reaches p n q c) c (calls_of p a) (subst (λ (x : ℕ). Among c (calls_of p x)) (sym (eqb-true a b e)) m) (reaches_itself p n c))

-- one call more
reaches_then : (p : Tree) (most a b c : ℕ) → reaches p most a b ≡ true → Among c (calls_of p b) → reaches p (suc most) a c ≡ true
reaches_then p zero a b c e m = reaches_called p zero a b c e m
reaches_then p (suc n) a b c e m = one (or_cases (eqb a b) (list_any (λ q. reaches p n q b) (calls_of p a)) e) (λ q r. reaches_then p n q b c r m)
  where
    one : (eqb a b ≡ true) ⊎ (list_any (λ q. reaches p n q b) (calls_of p a) ≡ true) → ((q : ℕ) → reaches p n q b ≡ true → reaches p (suc n) q c ≡ true) → reaches p (suc (suc n)) a c ≡ true
    one (inl same) on = reaches_called p (suc n) a b c same m
    one (inr some) on =
        let r = any_from (λ q. reaches p n q b) (calls_of p a) some in
        or_right
        (eqb a c)
        (list_any (λ q. reaches p (suc n) q c) (calls_of p a))
        (any_at (λ q. reaches p (suc n) q c) r.0 (calls_of p a) r.1 (on r.0 r.2))

-- a chain that comes back calls one that reaches it
comes_back : (p : Tree) (most x : ℕ) (ys : List ℕ) (w : ℕ) → Chain p (x ∷ ys) → Among w ys → length ys ≤ suc most → (z : ℕ) × Among z (calls_of p w) × (reaches p most z x ≡ true)
comes_back p n x [] w chain m few = absurd m
comes_back p n x (y ∷ ys) w chain (inl same) few = (x, subst (λ (v : ℕ). Among x (calls_of p v)) (sym same) chain.0, reaches_itself p n x)
comes_back p zero x (y ∷ []) w chain (inr m) few = absurd m
comes_back p zero x (y ∷ v ∷ vs) w chain (inr m) few = absurd (omega (arith, few))
comes_back p (suc n) x (y ∷ ys) w chain (inr m) few =
    let r = comes_back p n y ys w chain.1 m (omega (arith, few)) in (r.0, r.1, reaches_then p n r.0 y x r.2 chain.0)

-- no least line is no line
least_none : (lines : List ℕ) → least lines ≡ None → lines ≡ []
least_none [] e = refl
least_none (x ∷ xs) e = absurd cc

-- none of several lists has entries
flat_none : {X Y : Type 0} (f : X → List Y) (x : X) (xs : List X) → flat_map f xs ≡ [] → Among x xs → f x ≡ []
flat_none f x [] e m = absurd m
flat_none f x (z ∷ xs) e (inl same) = ap f same ∙ (append_none (f z) (flat_map f xs) e).0
flat_none f x (z ∷ xs) e (inr m) = flat_none f x xs (append_none (f z) (flat_map f xs) e).1 m

-- what stands for a procedure that isn't there
abbrev pub no_procedure : Procedure
no_procedure = record { name = []; body = End }

-- a procedure that isn't there calls none
calls_there : (procedures : List Procedure) (w z : ℕ) → Among z (flat_map (λ (v : Visit). called_by v.form) (body_visits (slice_index_or procedures w no_procedure).body)) → w < length procedures
calls_there [] w z m = absurd m
calls_there (q ∷ qs) zero z m = omega arith
calls_there (q ∷ qs) (suc w) z m = let r = calls_there qs w z m in omega (arith, r)

-- without recursion no procedure calls one that reaches it
pub no_return : (p : Tree) → recursion p ≡ None → (w z : ℕ) → Among z (calls_of p w) → reaches p (length p.procedures) z w ≡ false
no_return p none w z m =
    let there : w < length p.procedures = calls_there p.procedures w z m in
    let r = among_flat_from (λ (v : Visit). called_by v.form) z (body_visits (slice_index_or p.procedures w no_procedure).body) m in
    let lines : recursive_calls p (0 + w, slice_index_or p.procedures w no_procedure) ≡ [] =
    flat_none
    (recursive_calls p)
    (0 + w, slice_index_or p.procedures w no_procedure)
    (enumerate_from 0 p.procedures)
    (least_none (flat_map (recursive_calls p) (enumerate_from 0 p.procedures)) none)
    (among_numbered 0 p.procedures w no_procedure there) in
    let kept =
    map_none
    (λ (v : Visit). v.line)
    (filter (λ (v : Visit). list_any (λ called. reaches p (length p.procedures) called (0 + w)) (called_by v.form)) (body_visits (slice_index_or p.procedures w no_procedure).body))
    lines in
    let fails =
    filter_none
    (λ (v : Visit). list_any (λ called. reaches p (length p.procedures) called (0 + w)) (called_by v.form))
    r.0
    (body_visits (slice_index_or p.procedures w no_procedure).body)
    kept
    r.1 in
    let far : reaches p (length p.procedures) z (0 + w) ≡ false = none_at (λ called. reaches p (length p.procedures) called (0 + w)) z (called_by r.0.form) fails r.2 in
    let same : ◌≡◌ {A = ℕ} (0 + w) w = omega arith in
    subst (λ (x : ℕ). reaches p (length p.procedures) z x ≡ false) same far

-- without recursion a chain repeats no procedure
chain_once : (p : Tree) → recursion p ≡ None → (xs : List ℕ) → Chain p xs → Below (length p.procedures) xs → has_twice xs ≡ false
chain_once p none [] chain below = refl
chain_once p none (x ∷ ys) chain below =
    let once = chain_once p none ys chain.1 below.1 in
    let short : length ys ≤ length p.procedures = below_short (length p.procedures) ys below.1 once in
    or_from (contains ys x) (has_twice ys) (by_cases (contains ys x) refl short) once
  where
    by_cases : (b : Bool) → contains ys x ≡ b → length ys ≤ length p.procedures → b ≡ false
    by_cases false e short = refl
    by_cases true e short =
        let r = comes_back p (length p.procedures) x ys x chain (among_from x ys e) (omega (arith, short)) in
        let far : reaches p (length p.procedures) r.0 x ≡ false = no_return p none x r.0 r.1 in absurd cc

-- so it is no longer than there are procedures
pub chain_short : (p : Tree) → recursion p ≡ None → (xs : List ℕ) → Chain p xs → Below (length p.procedures) xs → length xs ≤ length p.procedures
chain_short p none xs chain below = below_short (length p.procedures) xs below (chain_once p none xs chain below)
