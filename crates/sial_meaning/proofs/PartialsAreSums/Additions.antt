-- What additions make of the number of a partial scalar.
use Rattle.std.proofs.Common.{◌≡◌, ℕ, ◌^◌, ◌<◌, List, [], ◌∷◌, length, get_or, set, Bool, true, false, eqb, if◌then◌else◌, refl, sym, ◌∙◌, subst, arith, eqb-true}
use Rattle.std.specs.Prelude.{sum_by}
use Rattle.std.proofs.lemmas.Bool.{eqb-false}
use Rattle.std.proofs.lemmas.List.{length-set, get_or-set_same, get_or-set_other}
use Rattle.std.proofs.lemmas.List.Sums.{sum_by-cons}
use Rattle.sial_meaning.specs.Deeds.{Deed, Reads, Writes, Adds, Traps, add_to, added}
use Rattle.sial_meaning.specs.Number.{plus}
use Rattle.sial_meaning.specs.Resets.{adds_to}

-- additions keep how many partial scalars there are
pub added_long : (ds : List Deed) (ps : List ℕ) → length (added ds ps) ≡ length ps
added_long [] ps = refl
added_long (Reads t ∷ ds) ps = added_long ds ps
added_long (Writes t words ∷ ds) ps = added_long ds ps
added_long (Adds s n ∷ ds) ps = added_long ds (add_to s n ps) ∙ length-set ps s (plus (get_or ps s 0) n)
added_long (Traps t ∷ ds) ps = added_long ds ps

module _ (scalar : ℕ) where
  -- one addition
  add_at : (s n : ℕ) (ps : List ℕ) → scalar < length ps → get_or ps scalar 0 < 2 ^ 64 → get_or (add_to s n ps) scalar 0 ≡ plus (get_or ps scalar 0) (if eqb s scalar then n else 0)
  add_at s n ps there low = by_test (eqb s scalar) refl
    where
      by_test : (b : Bool) → eqb s scalar ≡ b → get_or (set ps s (plus (get_or ps s 0) n)) scalar 0 ≡ plus (get_or ps scalar 0) (if b then n else 0)
      by_test true e =
          let same : s ≡ scalar = eqb-true s scalar e in
          subst
          (λ (k : ℕ). get_or (set ps k (plus (get_or ps k 0) n)) scalar 0 ≡ plus (get_or ps scalar 0) n)
          (sym same)
          (get_or-set_same ps scalar (plus (get_or ps scalar 0) n) 0 there)
      by_test false e = get_or-set_other ps s scalar (plus (get_or ps s 0) n) 0 (λ same. eqb-false s scalar e (sym same)) ∙ omega (arith, low)

  -- all additions
  pub added_at : (ds : List Deed) (ps : List ℕ) → scalar < length ps → get_or ps scalar 0 < 2 ^ 64 → get_or (added ds ps) scalar 0 ≡ plus (get_or ps scalar 0) (sum_by (adds_to scalar) ds)
  added_at [] ps there low = omega (arith, low)
  added_at (Reads t ∷ ds) ps there low = let more = sum_by-cons (adds_to scalar) (Reads t) ds in let rest = added_at ds ps there low in omega (arith, more, rest)
  added_at (Writes t words ∷ ds) ps there low = let more = sum_by-cons (adds_to scalar) (Writes t words) ds in let rest = added_at ds ps there low in omega (arith, more, rest)
  added_at (Traps t ∷ ds) ps there low = let more = sum_by-cons (adds_to scalar) (Traps t) ds in let rest = added_at ds ps there low in omega (arith, more, rest)
  added_at (Adds s n ∷ ds) ps there low =
      let more = sum_by-cons (adds_to scalar) (Adds s n) ds in
      let one = add_at s n ps there low in
      let long = length-set ps s (plus (get_or ps s 0) n) in
      let next : get_or (add_to s n ps) scalar 0 < 2 ^ 64 = omega (arith, one) in
      let rest = added_at ds (add_to s n ps) (omega (arith, there, long)) next in
      omega (arith, more, one, rest)
