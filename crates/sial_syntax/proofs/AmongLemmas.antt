-- Members of lists, and what tests say of them.
use Rattle.std.proofs.Common.{◌≡◌, ℕ, zero, suc, ◌+◌, ◌<◌, List, [], ◌∷◌, ◌++◌, map, filter, flat_map, length, get_or, Bool, true, false, cond, eqb, eqb-true, eq-eqb, ◌⊎◌, inl, inr, refl, sym, ap, ◌∙◌, subst, arith}
use Rattle.std.specs.List.{list_any, list_all, enumerate_from}
use Rattle.std.proofs.lemmas.Bool.{and_from, and_parts, or_parts, or_cases, or_left, or_right}
use Rattle.sial_syntax.specs.Agreeing.{contains}

-- something is a member of a list
abbrev pub Among : {X : Type 0} → X → List X → Type 0
Among x [] = ⊥
Among x (y ∷ ys) = (x ≡ y) ⊎ Among x ys

-- a member of the first of two lists
pub among_left : {X : Type 0} (x : X) (xs ys : List X) → Among x xs → Among x (xs ++ ys)
among_left x [] ys m = absurd m
among_left x (z ∷ xs) ys (inl e) = inl e
among_left x (z ∷ xs) ys (inr m) = inr (among_left x xs ys m)

-- a member of the second of two lists
pub among_right : {X : Type 0} (x : X) (xs ys : List X) → Among x ys → Among x (xs ++ ys)
among_right x [] ys m = m
among_right x (z ∷ xs) ys m = inr (among_right x xs ys m)

-- a member of two lists together
pub among_either : {X : Type 0} (x : X) (xs ys : List X) → Among x (xs ++ ys) → Among x xs ⊎ Among x ys
among_either x [] ys m = inr m
among_either x (z ∷ xs) ys (inl e) = inl (inl e)
among_either x (z ∷ xs) ys (inr m) = one (among_either x xs ys m)
  where
    one : Among x xs ⊎ Among x ys → Among x (z ∷ xs) ⊎ Among x ys
    one (inl a) = inl (inr a)
    one (inr b) = inr b

-- the image of a member
pub among_map : {X Y : Type 0} (f : X → Y) (x : X) (xs : List X) → Among x xs → Among (f x) (map f xs)
among_map f x [] m = absurd m
among_map f x (z ∷ xs) (inl e) = inl (ap f e)
among_map f x (z ∷ xs) (inr m) = inr (among_map f x xs m)

-- a member of the images is one's image
pub among_map_from : {X Y : Type 0} (f : X → Y) (y : Y) (xs : List X) → Among y (map f xs) → (x : X) × Among x xs × (y ≡ f x)
among_map_from f y [] m = absurd m
among_map_from f y (z ∷ xs) (inl e) = (z, inl refl, e)
among_map_from f y (z ∷ xs) (inr m) = let r = among_map_from f y xs m in (r.0, inr r.1, r.2)

-- a member of one of several lists
pub among_flat : {X Y : Type 0} (f : X → List Y) (x : X) (y : Y) (xs : List X) → Among x xs → Among y (f x) → Among y (flat_map f xs)
among_flat f x y [] m n = absurd m
among_flat {X = X} f x y (z ∷ xs) (inl e) n = among_left y (f z) (flat_map f xs) (subst (λ (w : X). Among y (f w)) e n)
among_flat f x y (z ∷ xs) (inr m) n = among_right y (f z) (flat_map f xs) (among_flat f x y xs m n)

-- a member of several lists is one of one of them
pub among_flat_from : {X Y : Type 0} (f : X → List Y) (y : Y) (xs : List X) → Among y (flat_map f xs) → (x : X) × Among x xs × Among y (f x)
among_flat_from f y [] m = absurd m
among_flat_from {X = X} f y (z ∷ xs) m = one (among_either y (f z) (flat_map f xs) m) (among_flat_from f y xs)
  where
    one : Among y (f z) ⊎ Among y (flat_map f xs) → (Among y (flat_map f xs) → (x : X) × Among x xs × Among y (f x)) → (x : X) × Among x (z ∷ xs) × Among y (f x)
    one (inl a) others = (z, inl refl, a)
    one (inr b) others = let r = others b in (r.0, inr r.1, r.2)

-- what a filter leaves out fails its test
pub filter_none : {X : Type 0} (test : X → Bool) (x : X) (xs : List X) → filter test xs ≡ [] → Among x xs → test x ≡ false
filter_none test x [] none m = absurd m
filter_none test x (z ∷ xs) none m = by_test (test z) refl m none (filter_none test x xs)
  where
    by_test : (b : Bool) → test z ≡ b → Among x (z ∷ xs) → cond b (z ∷ filter test xs) (filter test xs) ≡ [] → (filter test xs ≡ [] → Among x xs → test x ≡ false) → test x ≡ false
    by_test true e n f others = absurd cc
    by_test false e (inl same) f others = ap test same ∙ e
    by_test false e (inr n) f others = others f n

-- a member that passes is kept
pub among_filter : {X : Type 0} (test : X → Bool) (x : X) (xs : List X) → Among x xs → test x ≡ true → Among x (filter test xs)
among_filter test x [] m e = absurd m
among_filter test x (z ∷ xs) m e = by_test (test z) refl m (λ n. among_filter test x xs n e)
  where
    by_test : (b : Bool) → test z ≡ b → Among x (z ∷ xs) → (Among x xs → Among x (filter test xs)) → Among x (cond b (z ∷ filter test xs) (filter test xs))
    by_test true f (inl same) others = inl same
    by_test true f (inr n) others = inr (others n)
    by_test false f (inl same) others = let t : test z ≡ true = sym (ap test same) ∙ e in absurd cc
    by_test false f (inr n) others = others n

-- what a filter keeps is a member that passes
pub among_filter_from : {X : Type 0} (test : X → Bool) (x : X) (xs : List X) → Among x (filter test xs) → Among x xs × (test x ≡ true)
among_filter_from test x [] m = absurd m
among_filter_from test x (z ∷ xs) m = by_test (test z) refl m (among_filter_from test x xs)
  where
    by_test : (b : Bool) → test z ≡ b → Among x (cond b (z ∷ filter test xs) (filter test xs)) → (Among x (filter test xs) → Among x xs × (test x ≡ true)) → Among x (z ∷ xs) × (test x ≡ true)
    by_test true f (inl same) others = (inl same, ap test same ∙ f)
    by_test true f (inr n) others = let r = others n in (inr r.0, r.1)
    by_test false f n others = let r = others n in (inr r.0, r.1)

-- no list is empty whose image has entries
pub map_none : {X Y : Type 0} (f : X → Y) (xs : List X) → map f xs ≡ [] → xs ≡ []
map_none f [] e = refl
map_none f (x ∷ xs) e = absurd cc

-- no list is empty that has others before or behind it
pub append_none : {X : Type 0} (xs ys : List X) → xs ++ ys ≡ [] → (xs ≡ []) × (ys ≡ [])
append_none [] ys e = (refl, e)
append_none (x ∷ xs) ys e = absurd cc

-- a test that some member passes
pub any_at : {X : Type 0} (test : X → Bool) (x : X) (xs : List X) → Among x xs → test x ≡ true → list_any test xs ≡ true
any_at test x [] m e = absurd m
any_at test x (z ∷ xs) (inl same) e = or_left (test z) (list_any test xs) (sym (ap test same) ∙ e)
any_at test x (z ∷ xs) (inr m) e = or_right (test z) (list_any test xs) (any_at test x xs m e)

-- some member passes
pub any_from : {X : Type 0} (test : X → Bool) (xs : List X) → list_any test xs ≡ true → (x : X) × Among x xs × (test x ≡ true)
any_from test [] e = absurd cc
any_from {X = X} test (z ∷ xs) e = one (or_cases (test z) (list_any test xs) e) (any_from test xs)
  where
    one : (test z ≡ true) ⊎ (list_any test xs ≡ true) → (list_any test xs ≡ true → (x : X) × Among x xs × (test x ≡ true)) → (x : X) × Among x (z ∷ xs) × (test x ≡ true)
    one (inl a) others = (z, inl refl, a)
    one (inr b) others = let r = others b in (r.0, inr r.1, r.2)

-- no member passes
pub none_at : {X : Type 0} (test : X → Bool) (x : X) (xs : List X) → list_any test xs ≡ false → Among x xs → test x ≡ false
none_at test x [] e m = absurd m
none_at test x (z ∷ xs) e (inl same) = ap test same ∙ (or_parts (test z) (list_any test xs) e).0
none_at test x (z ∷ xs) e (inr m) = none_at test x xs (or_parts (test z) (list_any test xs) e).1 m

-- all members pass
pub all_from : {X : Type 0} (test : X → Bool) (xs : List X) → ((x : X) → Among x xs → test x ≡ true) → list_all test xs ≡ true
all_from test [] each = refl
all_from test (z ∷ xs) each = and_from (test z) (list_all test xs) (each z (inl refl)) (all_from test xs (λ x m. each x (inr m)))

-- each member passes
pub all_at : {X : Type 0} (test : X → Bool) (x : X) (xs : List X) → list_all test xs ≡ true → Among x xs → test x ≡ true
all_at test x [] e m = absurd m
all_at test x (z ∷ xs) e (inl same) = ap test same ∙ (and_parts (test z) (list_all test xs) e).0
all_at test x (z ∷ xs) e (inr m) = all_at test x xs (and_parts (test z) (list_all test xs) e).1 m

-- a list has its members
pub contains_at : (x : ℕ) (xs : List ℕ) → Among x xs → contains xs x ≡ true
contains_at x xs m = any_at (λ i. eqb i x) x xs m (eq-eqb x x refl)

-- what a list has is a member
pub among_from : (x : ℕ) (xs : List ℕ) → contains xs x ≡ true → Among x xs
among_from x xs e = let r = any_from (λ i. eqb i x) xs e in subst (λ (z : ℕ). Among z xs) (eqb-true r.0 x r.2) r.1

-- an entry of a list is a member
pub among_get : {X : Type 0} (xs : List X) (i : ℕ) (d : X) → i < length xs → Among (get_or xs i d) xs
among_get [] i d within = absurd (omega (arith, within))
among_get (x ∷ xs) zero d within = inl refl
among_get (x ∷ xs) (suc i) d within = inr (among_get xs i d (omega (arith, within)))

-- a function of the numbers of a list's entries
pub numbered_at : {X Y : Type 0} (f : ℕ → Y) (first : ℕ) (xs : List X) (i : ℕ) (d : Y) → i < length xs → get_or (map (λ (x : ℕ × X). f x.0) (enumerate_from first xs)) i d ≡ f (first + i)
numbered_at f first [] i d within = absurd (omega (arith, within))
numbered_at f first (x ∷ xs) zero d within = ap f (omega arith)
numbered_at f first (x ∷ xs) (suc i) d within = numbered_at f (first + 1) xs i d (omega (arith, within)) ∙ ap f (omega arith)

-- an entry with its number
pub among_numbered : {X : Type 0} (first : ℕ) (xs : List X) (i : ℕ) (d : X) → i < length xs → Among (first + i, get_or xs i d) (enumerate_from first xs)
among_numbered first [] i d within = absurd (omega (arith, within))
among_numbered {X = X} first (x ∷ xs) zero d within = let same : ◌≡◌ {A = ℕ} (first + 0) first = omega arith in inl (ap (λ (n : ℕ). (n, x)) same)
among_numbered {X = X} first (x ∷ xs) (suc i) d within =
    let same : ◌≡◌ {A = ℕ} (first + 1 + i) (first + suc i) = omega arith in
    inr (subst (λ (n : ℕ). Among (n, get_or xs i d) (enumerate_from (first + 1) xs)) same (among_numbered (first + 1) xs i d (omega (arith, within))))
