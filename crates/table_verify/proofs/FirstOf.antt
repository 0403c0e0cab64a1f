-- The first of the places where something holds.
use Rattle.std.proofs.Common.{◌≡◌, ◌⊎◌, inl, inr, ℕ, zero, suc, ◌≤◌, ◌<◌, min, Option, Some, None, sym, subst, arith}
use Rattle.table_verify.specs.JumpFaults.{IsFirst}
use Rattle.table_verify.specs.Starting.{earlier}
use Rattle.table_verify.proofs.InLemmas.{case}

min_case : (a b : ℕ) → (min a b ≡ a) ⊎ (min a b ≡ b)
min_case zero b = inl (omega arith)
min_case (suc a) zero = inr (omega arith)
min_case (suc a) (suc b) = case ((min (suc a) (suc b) ≡ suc a) ⊎ (min (suc a) (suc b) ≡ suc b)) (min_case a b) (λ l. inl (omega (arith, l))) (λ r. inr (omega (arith, r)))

pub first_either : (P Q : ℕ → Type 0) (a b : Option ℕ) → IsFirst P a → IsFirst Q b → IsFirst (λ n. P n ⊎ Q n) (earlier a b)
first_either P Q None None f g = λ n x. case ⊥ x (λ p. f n p) (λ q. g n q)
first_either P Q None (Some b) f g = (inr g.0, λ n l x. case ⊥ x (λ p. f n p) (λ q. g.1 n l q))
first_either P Q (Some a) None f g = (inl f.0, λ n l x. case ⊥ x (λ p. f.1 n l p) (λ q. g n q))
first_either P Q (Some a) (Some b) f g = (
  case (P (min a b) ⊎ Q (min a b)) (min_case a b) (λ e. inl (subst P (sym e) f.0)) (λ e. inr (subst Q (sym e) g.0)),
  λ n l x. case ⊥ x (λ p. f.1 n (below_left n l) p) (λ q. g.1 n (below_right n l) q),
)
  where
    below_left : (n : ℕ) → n < min a b → n < a
    below_left n l = let m : min a b ≤ a = omega arith in omega (arith, l, m)

    below_right : (n : ℕ) → n < min a b → n < b
    below_right n l = let m : min a b ≤ b = omega arith in omega (arith, l, m)

-- what holds nowhere adds nothing
pub first_more : (P Q : ℕ → Type 0) (a : Option ℕ) → ((n : ℕ) → Q n → ⊥) → IsFirst P a → IsFirst (λ n. P n ⊎ Q n) a
first_more P Q None never f = λ n x. case ⊥ x (λ p. f n p) (λ q. never n q)
first_more P Q (Some a) never f = (inl f.0, λ n l x. case ⊥ x (λ p. f.1 n l p) (λ q. never n q))
