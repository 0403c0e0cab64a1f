-- Positions by index among places: lists that go side by side, and what is found in them.
use Rattle.std.proofs.Common.{◌≡◌, ℕ, ◌⊎◌, inl, inr, Bool, true, false, ◌==◌, ◌||◌, cond, List, [], ◌∷◌, zip, length, Some, None, refl, sym, ap, ◌∙◌, arith}
use Rattle.std.proofs.lemmas.Bool.{eqb-true, eq-eqb, false_from_ne_true}
use Rattle.std.specs.Prelude.{find}
use Rattle.sial_syntax.specs.Agreeing.{contains, has_twice}
use Rattle.sial_meaning.proofs.AcceptedInOtherWords.Pairs.{never}

-- at one place of two lists stand these two
unfoldable pub Beside : {X Y : Type 0} → List X → List Y → X → Y → Type 0
Beside [] ys x y = ⊥
Beside (a ∷ as') [] x y = ⊥
Beside (a ∷ as') (b ∷ bs) x y = ((a ≡ x) × (b ≡ y)) ⊎ Beside as' bs x y

-- one of two that hold
pub either-holds : (a b : Bool) → (a || b) ≡ true → (a ≡ true) ⊎ (b ≡ true)
either-holds true b is = inl refl
either-holds false b is = inr is

-- one of two holds if the first does
pub or-left : (a b : Bool) → a ≡ true → (a || b) ≡ true
or-left true b is = refl
or-left false b is = absurd (never is)

-- one of two holds if the second does
pub or-right : (a b : Bool) → b ≡ true → (a || b) ≡ true
or-right true b is = refl
or-right false b is = is

-- neither of two
pub neither : (a b : Bool) → (a || b) ≡ false → (a ≡ false) × (b ≡ false)
neither true b is = absurd (never (sym is))
neither false b is = (refl, is)

-- what stands beside something is in the list
pub beside-in : {Y : Type 0} (xs : List ℕ) (ys : List Y) (x : ℕ) (y : Y) → Beside xs ys x y → contains xs x ≡ true
unfolding Beside
beside-in [] ys x y at = absurd at
beside-in (a ∷ as') [] x y at = absurd at
beside-in (a ∷ as') (b ∷ bs) x y (inl e) = or-left (a == x) (contains as' x) (eq-eqb a x e.0)
beside-in (a ∷ as') (b ∷ bs) x y (inr at) = or-right (a == x) (contains as' x) (beside-in as' bs x y at)

-- the two lists the other way round
pub beside-turned : {X Y : Type 0} (xs : List X) (ys : List Y) (x : X) (y : Y) → Beside xs ys x y → Beside ys xs y x
unfolding Beside
beside-turned [] ys x y at = absurd at
beside-turned (a ∷ as') [] x y at = absurd at
beside-turned (a ∷ as') (b ∷ bs) x y (inl e) = inl (e.1, e.0)
beside-turned (a ∷ as') (b ∷ bs) x y (inr at) = inr (beside-turned as' bs x y at)

-- beside one place of a list in which nothing stands twice stands one thing
pub beside-once : {Y : Type 0} (xs : List ℕ) (ys : List Y) (x : ℕ) (y z : Y) → has_twice xs ≡ false → Beside xs ys x y → Beside xs ys x z → y ≡ z
unfolding Beside
beside-once [] ys x y z once first second = absurd first
beside-once (a ∷ as') [] x y z once first second = absurd first
beside-once (a ∷ as') (b ∷ bs) x y z once (inl e) (inl f) = sym e.1 ∙ f.1
beside-once (a ∷ as') (b ∷ bs) x y z once (inl e) (inr second) =
    absurd (never (sym (neither (contains as' a) (has_twice as') once).0 ∙ (ap (contains as') e.0 ∙ beside-in as' bs x z second)))
beside-once (a ∷ as') (b ∷ bs) x y z once (inr first) (inl f) =
    absurd (never (sym (neither (contains as' a) (has_twice as') once).0 ∙ (ap (contains as') f.0 ∙ beside-in as' bs x y first)))
beside-once (a ∷ as') (b ∷ bs) x y z once (inr first) (inr second) = beside-once as' bs x y z (neither (contains as' a) (has_twice as') once).1 first second

-- something stands beside each
pub beside-some : {Y : Type 0} (xs : List ℕ) (ys : List Y) (x : ℕ) → length xs ≡ length ys → contains xs x ≡ true → (y : Y) × Beside xs ys x y
unfolding Beside
beside-some [] ys x long is = absurd (never is)
beside-some (a ∷ as') [] x long is = absurd (omega (arith, long))
beside-some (a ∷ as') (b ∷ bs) x long is =
    elim (either-holds (a == x) (contains as' x) is) as (λ q. (y : _) × Beside (a ∷ as') (b ∷ bs) x y) [
      | inl here ↦ (b, inl (eqb-true a x here, refl))
      | inr later ↦ let rest : length as' ≡ length bs = omega (arith, long) in
          let found = beside-some as' bs x rest later in
          (found.0, inr found.1)
    ]

-- the one thing that a test finds
pub find-one : (f : ℕ → Bool) (ts ps : List ℕ) (t p : ℕ) → has_twice ts ≡ false → Beside ts ps t p → ((u : ℕ) → contains ts u ≡ true → f u ≡ true → u ≡ t) → f t ≡ true → find (λ (q : ℕ × ℕ). f q.0) (zip ts ps) ≡ Some (t, p)
unfolding Beside
find-one f [] ps t p once at one is = absurd at
find-one f (u ∷ us) [] t p once at one is = absurd at
find-one f (u ∷ us) (q ∷ qs) t p once (inl e) one is =
    ap (λ b. cond b (Some (u, q)) (find (λ (q : ℕ × ℕ). f q.0) (zip us qs))) (ap f e.0 ∙ is) ∙ (ap (λ x. Some (x, q)) e.0 ∙ ap (λ x. Some (t, x)) e.1)
find-one f (u ∷ us) (q ∷ qs) t p once (inr at) one is =
    let apart = neither (contains us u) (has_twice us) once in
    let fails : f u ≡ false = false_from_ne_true (f u) (λ here.
    never (sym apart.0 ∙ (ap (contains us) (one u (or-left (u == u) (contains us u) (eq-eqb u u refl)) here) ∙ beside-in us qs t p at))) in
    ap (λ b. cond b (Some (u, q)) (find (λ (q : ℕ × ℕ). f q.0) (zip us qs))) fails
    ∙ find-one f us qs t p apart.1 at (λ v in-us. one v (or-right (u == v) (contains us v) in-us)) is

-- nothing is found where all fail
pub find-none : (f : ℕ → Bool) (ts ps : List ℕ) → ((u : ℕ) → contains ts u ≡ true → f u ≡ false) → find (λ (q : ℕ × ℕ). f q.0) (zip ts ps) ≡ None
find-none f [] ps fails = refl
find-none f (u ∷ us) [] fails = refl
find-none f (u ∷ us) (q ∷ qs) fails =
    ap (λ b. cond b (Some (u, q)) (find (λ (q : ℕ × ℕ). f q.0) (zip us qs))) (fails u (or-left (u == u) (contains us u) (eq-eqb u u refl)))
    ∙ find-none f us qs (λ v in-us. fails v (or-right (u == v) (contains us v) in-us))
