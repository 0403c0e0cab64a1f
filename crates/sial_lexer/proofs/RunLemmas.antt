-- Bytes of one class at the front of a text.
use Rattle.std.proofs.Common.{◌≡◌, ℕ, suc, ◌+◌, List, [], ◌∷◌, ◌++◌, Bool, true, false, ◌&&◌, cond, take, drop, length, refl, ap, ◌∙◌, arith}
use Rattle.std.specs.List.{list_all, prefix_len}
use Rattle.sial_lexer.specs.Characters.{begins}

module _ (class : ℕ → Bool) where
  passes_on : (b : Bool) (x : ℕ) (xs : List ℕ) → class x ≡ b → list_all class (take (prefix_len class xs) xs) ≡ true → list_all class (take (cond b (1 + prefix_len class xs) 0) (x ∷ xs)) ≡ true
  passes_on false x xs e h = refl
  passes_on true x xs e h = let k : 1 + prefix_len class xs ≡ suc (prefix_len class xs) = omega arith in
      ap (λ n. list_all class (take n (x ∷ xs))) k ∙ ap (λ b. b && list_all class (take (prefix_len class xs) xs)) e ∙ h

  -- as many bytes as there are of the class are of the class
  pub run_passes : (xs : List ℕ) → list_all class (take (prefix_len class xs) xs) ≡ true
  run_passes [] = refl
  run_passes (x ∷ xs) = passes_on (class x) x xs refl (run_passes xs)

  stops_on : (b : Bool) (x : ℕ) (xs : List ℕ) → class x ≡ b → begins class (drop (prefix_len class xs) xs) ≡ false → begins class (drop (cond b (1 + prefix_len class xs) 0) (x ∷ xs)) ≡ false
  stops_on false x xs e h = e
  stops_on true x xs e h = let k : 1 + prefix_len class xs ≡ suc (prefix_len class xs) = omega arith in
      ap (λ n. begins class (drop n (x ∷ xs))) k ∙ h

  -- and the byte behind them isn't
  pub run_stops : (xs : List ℕ) → begins class (drop (prefix_len class xs) xs) ≡ false
  run_stops [] = refl
  run_stops (x ∷ xs) = stops_on (class x) x xs refl (run_stops xs)

  none_at : (ys : List ℕ) → begins class ys ≡ false → prefix_len class ys ≡ 0
  none_at [] stop = refl
  none_at (y ∷ ys) stop = ap (λ b. cond b (1 + prefix_len class ys) 0) stop

  front_true : (b c : Bool) → b && c ≡ true → b ≡ true
  front_true true c h = refl
  front_true false c h = h

  back_true : (b c : Bool) → b && c ≡ true → c ≡ true
  back_true true c h = h
  back_true false c h = absurd cc

  -- bytes of the class before one that isn't are all that there are
  pub run_is : (xs ys : List ℕ) → list_all class xs ≡ true → begins class ys ≡ false → prefix_len class (xs ++ ys) ≡ length xs
  run_is [] ys all stop = none_at ys stop
  run_is (x ∷ xs) ys all stop =
      let rest = run_is xs ys (back_true (class x) (list_all class xs) all) stop in
      let one : 1 + length xs ≡ suc (length xs) = omega arith in
      ap (λ b. cond b (1 + prefix_len class (xs ++ ys)) 0) (front_true (class x) (list_all class xs) all) ∙ ap (λ n. 1 + n) rest ∙ one
