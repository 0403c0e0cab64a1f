-- The highest class that is wider than 0.
use Rattle.std.proofs.Common.{◌≡◌, ◌≢◌, ◌⊎◌, inl, inr, ℕ, zero, suc, ◌+◌, ◌-◌, ◌<◌, ◌≤◌, List, [], ◌∷◌, length, get_or, refl, arith, eq-eqb, ne_eqb}
use Rattle.std.proofs.lemmas.Bool.{cases_eq}
use Rattle.block_pool.specs.Opened.{IsWidest, widest_from, widest_of}

-- no class is wider than 0
record IsUnchanged (known widest : ℕ) (ws : List ℕ) : Type 0 where
  same : widest ≡ known
  zeros : (i : ℕ) → get_or ws i 0 ≡ 0

-- the widest class, where these widths begin at a class
record IsFound (class widest : ℕ) (ws : List ℕ) : Type 0 where
  from : class ≤ widest
  to : widest < class + length ws
  wide : get_or ws (widest - class) 0 ≢ 0
  above : (i : ℕ) → widest < class + i → get_or ws i 0 ≡ 0

-- one width of 0 more
zero_there : (w : ℕ) (ws : List ℕ) → w ≡ 0 → ((i : ℕ) → get_or ws i 0 ≡ 0) → (i : ℕ) → get_or (w ∷ ws) i 0 ≡ 0
zero_there w ws e zeros zero = e
zero_there w ws e zeros (suc i) = zeros i

-- the widest class stands later
found_later : (class widest w : ℕ) (ws : List ℕ) → IsFound (class + 1) widest ws → IsFound class widest (w ∷ ws)
found_later class widest w ws f = record {
  from = omega (arith, f.from);
  to = omega (arith, f.to);
  wide = let after : class + 1 ≤ widest = f.from in let at : widest - class ≡ suc (widest - (class + 1)) = omega arith in rw at f.wide;
  above = above;
}
  where
    above : (i : ℕ) → widest < class + i → get_or (w ∷ ws) i 0 ≡ 0
    above zero h = absurd (omega (arith, f.from))
    above (suc i) h = f.above i (omega arith)

-- it stands here
found_here : (class widest w : ℕ) (ws : List ℕ) → w ≢ 0 → IsUnchanged class widest ws → IsFound class widest (w ∷ ws)
found_here class widest w ws ne u = record {
  from = omega (arith, u.same);
  to = omega (arith, u.same);
  wide = let same : widest ≡ class = u.same in let at : widest - class ≡ 0 = omega arith in rw at ne;
  above = above;
}
  where
    above : (i : ℕ) → widest < class + i → get_or (w ∷ ws) i 0 ≡ 0
    above zero h = absurd (omega (arith, u.same))
    above (suc i) h = u.zeros i

-- there is a widest class, or none
widest-cases : (known class : ℕ) (ws : List ℕ) → IsUnchanged known (widest_from known class ws) ws ⊎ IsFound class (widest_from known class ws) ws
widest-cases known class [] = inl (record { same = refl; zeros = λ i. refl })
widest-cases known class (w ∷ ws) =
    elim (cases_eq w 0) as (λ _. IsUnchanged known (widest_from known class (w ∷ ws)) (w ∷ ws) ⊎ IsFound class (widest_from known class (w ∷ ws)) (w ∷ ws)) [
      | inl e ↦ rw (eq-eqb w 0 e) (
          elim (widest-cases known (class + 1) ws) as (λ _. IsUnchanged known (widest_from known (class + 1) ws) (w ∷ ws) ⊎ IsFound class (widest_from known (class + 1) ws) (w ∷ ws)) [
            | inl u ↦ inl (record { same = u.same; zeros = zero_there w ws e u.zeros })
            | inr f ↦ inr (found_later class _ w ws f)
          ]
          )
      | inr ne ↦ rw (ne_eqb w 0 ne) (
          elim (widest-cases class (class + 1) ws) as (λ _. IsUnchanged known (widest_from class (class + 1) ws) (w ∷ ws) ⊎ IsFound class (widest_from class (class + 1) ws) (w ∷ ws)) [
            | inl u ↦ inr (found_here class _ w ws ne u)
            | inr f ↦ inr (found_later class _ w ws f)
          ]
          )
    ]

-- of at most 17 classes
pub widest-is : (ws : List ℕ) → length ws ≤ 17 → IsWidest ws (widest_of ws)
widest-is ws h = elim (widest-cases 17 0 ws) as (λ _. IsWidest ws (widest_of ws)) [
  | inl u ↦ record {
    wide = λ ne. absurd (ne u.same);
    above = λ class past. u.zeros class;
    none = λ e class. u.zeros class;
  }
  | inr f ↦ record {
    wide = λ ne. let back : widest_of ws - 0 ≡ widest_of ws = omega arith in rw back at f.wide;
    above = λ class past. f.above class (omega arith);
    none = λ e class. absurd (let to = f.to in omega arith);
  }
]
