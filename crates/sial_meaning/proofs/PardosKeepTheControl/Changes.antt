-- What a worker holds but for what a pardo unsets, after single changes.
use Rattle.std.proofs.Common.{◌≡◌, ℕ, zero, suc, ◌+◌, ◌<◌, ◌≤◌, List, [], ◌∷◌, map, true, false, eqb, Option, Some, None, length, get_or, set, refl, sym, ap, ◌∙◌, subst, arith, ⊎_elim}
use Rattle.std.proofs.lemmas.Bool.{or_parts, or_left, or_right, eqb-false, eq-eqb, cases_eq}
use Rattle.std.proofs.lemmas.List.{length-set, length-map, get_or-set_same, get_or-set_other, set-set, set_comm, set-get_or}
use Rattle.sial_syntax.proofs.BoxLemmas.{map-from, numbers-length}
use Rattle.sial_syntax.specs.declared.classes.ScalarClass.{ScalarClass}
use Rattle.sial_syntax.specs.declared.classes.ScalarClass.TheVariants.{Replicated, Private, Partial}
use Rattle.sial_syntax.specs.declared.classes.Side.{Side}
use Rattle.sial_syntax.specs.declared.classes.Side.TheVariants.{Outer, Inner, Unused}
use Rattle.sial_syntax.specs.Agreeing.{contains, has_twice}
use Rattle.sial_syntax.specs.Boxes.{numbers_from}
use Rattle.sial_meaning.specs.Own.{Own, Held, value_of, bound, all_bound, with_values, for_each, unset_if_private, unset_if_inner, unset, with_temp, with_local, with_scalar}
use Rattle.sial_meaning.specs.Setting.{Setting, scalar_class, side_of}

-- an entry of a list made by numbers
get_numbers : {X : Type 0} (f : ℕ → X) (first n i : ℕ) (d : X) → i < n → get_or (map f (numbers_from first n)) i d ≡ f (first + i)
get_numbers f first zero i d below = absurd (omega (arith, below))
get_numbers f first (suc n) zero d below = ap f (omega arith)
get_numbers f first (suc n) (suc i) d below = get_numbers f (first + 1) n i d (omega (arith, below)) ∙ ap f (omega arith)

-- such an entry, counted from 0
get_each : {X : Type 0} (n : ℕ) (f : ℕ → X) (i : ℕ) (d : X) → i < n → get_or (for_each n f) i d ≡ f i
get_each n f i d below = get_numbers f 0 n i d below ∙ ap f (omega arith)

-- there are as many entries
pub each-long : {X : Type 0} (n : ℕ) (f : ℕ → X) → length (for_each n f) ≡ n
each-long n f = length-map (numbers_from 0 n) f ∙ numbers-length 0 n

-- each entry changed by its number
abbrev changed : {X : Type 0} → (ℕ → X → X) → X → List X → List X
changed h d xs = for_each (length xs) (λ k. h k (get_or xs k d))

-- an entry set to one that is changed alike
changed_set : {X : Type 0} (h : ℕ → X → X) (d : X) (xs : List X) (i : ℕ) (y : X) → h i y ≡ h i (get_or xs i d) → changed h d (set xs i y) ≡ changed h d xs
changed_set {X = X} h d xs i y same =
    ap (λ n. for_each n (λ k. h k (get_or (set xs i y) k d))) (length-set xs i y)
    ∙ map-from
    (λ k. h k (get_or (set xs i y) k d))
    (λ k. h k (get_or xs k d))
    0
    (length xs)
    (λ k from below.
    ⊎_elim
    (λ (here : k ≡ i).
    subst
    (λ (j : ℕ). h j (get_or (set xs i y) j d) ≡ h j (get_or xs j d))
    (sym here)
    (ap (h i) (get_or-set_same xs i y d (omega (arith, below, here))) ∙ same))
    (λ apart. ap (h k) (get_or-set_other xs i k y d apart))
    (cases_eq k i))

-- entries changed twice
changed_again : {X : Type 0} (h : ℕ → X → X) (d : X) (xs : List X) → ((k : ℕ) (x : X) → h k (h k x) ≡ h k x) → changed h d (changed h d xs) ≡ changed h d xs
changed_again h d xs again =
    ap (λ n. for_each n (λ k. h k (get_or (changed h d xs) k d))) (each-long (length xs) (λ k. h k (get_or xs k d)))
    ∙ map-from
    (λ k. h k (get_or (changed h d xs) k d))
    (λ k. h k (get_or xs k d))
    0
    (length xs)
    (λ k from below. ap (h k) (get_each (length xs) (λ j. h j (get_or xs j d)) k d (omega (arith, below))) ∙ again k (get_or xs k d))

-- all made the same, one of them set before
map_same_set : {X Y : Type 0} (y : Y) (xs : List X) (i : ℕ) (x : X) → map (λ (z : X). y) (set xs i x) ≡ map (λ (z : X). y) xs
map_same_set y [] i x = refl
map_same_set y (z ∷ xs) zero x = refl
map_same_set y (z ∷ xs) (suc i) x = ap (λ ys. y ∷ ys) (map_same_set y xs i x)

-- all made the same twice
map_same_again : {X : Type 0} (x : X) (xs : List X) → map (λ (z : X). x) (map (λ (z : X). x) xs) ≡ map (λ (z : X). x) xs
map_same_again x [] = refl
map_same_again x (z ∷ xs) = ap (λ ys. x ∷ ys) (map_same_again x xs)

-- scalars, temps and locals of a worker replaced
abbrev held : Own → List (Option ℕ) → List (Option Held) → List (List (Option (List ℕ))) → Own
held a scalars temps locals = record a { scalars = scalars; temps = temps; locals = locals }

-- those of two workers are alike
held_same : (a : Own) (s s1 : List (Option ℕ)) (t t1 : List (Option Held)) (l l1 : List (List (Option (List ℕ)))) → s ≡ s1 → t ≡ t1 → l ≡ l1 → held a s t l ≡ held a s1 t1 l1
held_same a s s1 t t1 l l1 es et el = ap (λ x. held a x t l) es ∙ (ap (λ x. held a s1 x l) et ∙ ap (λ x. held a s1 t1 x) el)

-- a scalar unset twice
private_again : (class : ScalarClass) (x : Option ℕ) → unset_if_private class (unset_if_private class x) ≡ unset_if_private class x
private_again Replicated x = refl
private_again Private x = refl
private_again Partial x = refl

-- a local array unset twice
inner_again : (side : Side) (x : List (Option (List ℕ))) → unset_if_inner side (unset_if_inner side x) ≡ unset_if_inner side x
inner_again Outer x = refl
inner_again Inner x = map_same_again None x
inner_again Unused x = refl

module _ (g : Setting) where
  -- unset twice
  pub unset_again : (a : Own) → unset g (unset g a) ≡ unset g a
  unset_again a =
      held_same
      a
      (changed (λ s. unset_if_private (scalar_class g s)) None (changed (λ s. unset_if_private (scalar_class g s)) None a.scalars))
      (changed (λ s. unset_if_private (scalar_class g s)) None a.scalars)
      (map (λ (h : Option Held). None) (map (λ (h : Option Held). None) a.temps))
      (map (λ (h : Option Held). None) a.temps)
      (changed (λ k. unset_if_inner (side_of g k)) [] (changed (λ k. unset_if_inner (side_of g k)) [] a.locals))
      (changed (λ k. unset_if_inner (side_of g k)) [] a.locals)
      (changed_again (λ s. unset_if_private (scalar_class g s)) None a.scalars (λ k x. private_again (scalar_class g k) x))
      (map_same_again None a.temps)
      (changed_again (λ k. unset_if_inner (side_of g k)) [] a.locals (λ k x. inner_again (side_of g k) x))

  -- a private scalar set
  pub unset_scalar : (scalar n : ℕ) (a : Own) → scalar_class g scalar ≡ Private → unset g (with_scalar scalar n a) ≡ unset g a
  unset_scalar scalar n a e =
      ap
      (λ x. held a x (map (λ (h : Option Held). None) a.temps) (changed (λ k. unset_if_inner (side_of g k)) [] a.locals))
      (changed_set
      (λ s. unset_if_private (scalar_class g s))
      None
      a.scalars
      scalar
      (Some n)
      (ap (λ c. unset_if_private c (Some n)) e ∙ sym (ap (λ c. unset_if_private c (get_or a.scalars scalar None)) e)))

  -- a temp set
  pub unset_temp : (array : ℕ) (h : Held) (a : Own) → unset g (with_temp array h a) ≡ unset g a
  unset_temp array h a =
      ap
      (λ x. held a (changed (λ s. unset_if_private (scalar_class g s)) None a.scalars) x (changed (λ k. unset_if_inner (side_of g k)) [] a.locals))
      (map_same_set None a.temps array (Some h))

  -- a block of a local array that is used inside pardos set or taken away
  pub unset_local : (array number : ℕ) (words : Option (List ℕ)) (a : Own) → side_of g array ≡ Inner → unset g (with_local array number words a) ≡ unset g a
  unset_local array number words a e =
      ap
      (λ x. held a (changed (λ s. unset_if_private (scalar_class g s)) None a.scalars) (map (λ (h : Option Held). None) a.temps) x)
      (changed_set
      (λ k. unset_if_inner (side_of g k))
      []
      a.locals
      array
      (set (get_or a.locals array []) number words)
      (ap (λ s. unset_if_inner s (set (get_or a.locals array []) number words)) e
      ∙ (map_same_set None (get_or a.locals array []) number words ∙ sym (ap (λ s. unset_if_inner s (get_or a.locals array [])) e))))

  -- several indices bound
  pub unset_bound : (indices tuple : List ℕ) (a : Own) → unset g (all_bound indices tuple a) ≡ all_bound indices tuple (unset g a)
  unset_bound [] tuple a = refl
  unset_bound (i ∷ is) [] a = refl
  unset_bound (i ∷ is) (n ∷ ns) a = unset_bound is ns (bound i n a)

-- an index bound twice
pub bound_twice : (index k n : ℕ) (a : Own) → bound index n (bound index k a) ≡ bound index n a
bound_twice index k n a = ap (λ (v : List ℕ). with_values v a) (set-set a.values index k n)

-- an index that isn't bound left
pub bound_none : (index : ℕ) (a : Own) → value_of a index ≡ 0 → bound index 0 a ≡ a
bound_none index a e =
    ap (λ (n : ℕ). with_values (set a.values index n) a) (sym e) ∙ ap (λ (v : List ℕ). with_values v a) (set-get_or a.values index 0)

-- an index bound behind others
bound_past : (index n : ℕ) (indices tuple : List ℕ) (a : Own) → contains indices index ≡ false → bound index n (all_bound indices tuple a) ≡ all_bound indices tuple (bound index n a)
bound_past index n [] tuple a out = refl
bound_past index n (j ∷ js) [] a out = refl
bound_past index n (j ∷ js) (m ∷ ms) a out =
    let parts = or_parts (eqb j index) (contains js index) out in
    bound_past index n js ms (bound j m a) parts.1
    ∙ ap (λ (v : List ℕ). all_bound js ms (with_values v a)) (set_comm a.values j index m n (eqb-false j index parts.0))

-- different indices bound twice
pub bound_again : (indices tuple other : List ℕ) (a : Own) → has_twice indices ≡ false → length indices ≤ length tuple → all_bound indices tuple (all_bound indices other a) ≡ all_bound indices tuple a
bound_again [] tuple other a once enough = refl
bound_again (i ∷ is) [] other a once enough = absurd (omega (arith, enough))
bound_again (i ∷ is) (n ∷ ns) [] a once enough = refl
bound_again (i ∷ is) (n ∷ ns) (m ∷ ms) a once enough =
    let parts = or_parts (contains is i) (has_twice is) once in
    ap (all_bound is ns) (bound_past i n is ms (bound i m a) parts.0)
    ∙ (bound_again is ns ms (bound i n (bound i m a)) parts.1 (omega (arith, enough)) ∙ ap (all_bound is ns) (bound_twice i m n a))

-- indices that aren't bound left
pub bound_nones : (indices : List ℕ) (a : Own) → ((i : ℕ) → contains indices i ≡ true → value_of a i ≡ 0) → all_bound indices (map (λ i. 0) indices) a ≡ a
bound_nones [] a none = refl
bound_nones (i ∷ is) a none =
    ap (all_bound is (map (λ i. 0) is)) (bound_none i a (none i (or_left (eqb i i) (contains is i) (eq-eqb i i refl))))
    ∙ bound_nones is a (λ j e. none j (or_right (eqb i j) (contains is j) e))
