-- Numbers in a row, one turn after another.
use Rattle.std.proofs.Common.{◌≡◌, ℕ, suc, ◌+◌, ◌-◌, ◌<◌, List, [], ◌∷◌, ◌++◌, map, sym, ap, ◌∙◌, arith, append_assoc}
use Rattle.sial_syntax.specs.Boxes.{numbers_from}

-- the numbers that are left before a turn are that turn's and those that are left behind it
pub one_turn : (first i n : ℕ) → i < n → numbers_from (first + i) (n - i) ≡ (first + i) ∷ numbers_from (first + (i + 1)) (n - (i + 1))
one_turn first i n within =
    let left : n - i ≡ suc (n - (i + 1)) = omega arith in
    let next : (first + i) + 1 ≡ first + (i + 1) = omega arith in
    ap (λ k. numbers_from (first + i) k) left ∙ ap (λ k. (first + i) ∷ numbers_from k (n - (i + 1))) next

-- what each number gives, those before the turn at the front
pub one_more : {X : Type 0} (f : ℕ → X) (front : List X) (first i n : ℕ) → i < n → (front ++ f (first + i) ∷ []) ++ map f (numbers_from (first + (i + 1)) (n - (i + 1))) ≡ front ++ map f (numbers_from (first + i) (n - i))
one_more f front first i n within =
    append_assoc front (f (first + i) ∷ []) (map f (numbers_from (first + (i + 1)) (n - (i + 1))))
    ∙ ap (λ rest. front ++ map f rest) (sym (one_turn first i n within))
