-- What conditions name together.
use Rattle.std.proofs.Common.{◌≡◌, ℕ, suc, ◌+◌, List, [], ◌∷◌, ◌++◌, flat_map, length, true, ◌&&◌, ◌||◌, refl, sym, ap, ◌∙◌, add-one, arith}
use Rattle.std.specs.Prelude.{nat_lt}
use Rattle.std.specs.List.{list_all, list_any}
use Rattle.std.proofs.Math.Bool.{and-true}
use Rattle.std.proofs.lemmas.Bool.Decides.{nat_tests}
use Rattle.sial_syntax.specs.declared.condition.Cond.{Cond}
use Rattle.sial_syntax.specs.Agreeing.{contains, all_in}
use Rattle.sial_syntax.specs.Parts.{condition_indices, condition_scalars}
use Rattle.shape_check.proofs.ListLemmas.{all_in_append, contains_append}

-- an index is bound where it is one's own or bound around
pub one_bound : (own bound : List ℕ) (index : ℕ) → all_in (index ∷ []) (own ++ bound) ≡ (contains own index || contains bound index)
one_bound own bound index = and-true (contains (own ++ bound) index) ∙ contains_append own bound index

-- the indices of conditions are bound where those of each are
pub all_bound : (conds : List Cond) (bound : List ℕ) → all_in (flat_map condition_indices conds) bound ≡ list_all (λ cond. all_in (condition_indices cond) bound) conds
all_bound [] bound = refl
all_bound (c ∷ cs) bound = all_in_append (condition_indices c) (flat_map condition_indices cs) bound ∙ ap (λ b. all_in (condition_indices c) bound && b) (all_bound cs bound)

-- a list with a first member has one
one-more : (n : ℕ) → nat_lt 0 (n + 1) ≡ true
one-more n = grind (arith, nat_tests)

-- lists together have a member where one of both has
some-append : (xs ys : List ℕ) → nat_lt 0 (length (xs ++ ys)) ≡ (nat_lt 0 (length xs) || nat_lt 0 (length ys))
some-append [] ys = refl
some-append (x ∷ xs) ys = first (length (xs ++ ys)) ∙ sym (ap (λ b. b || nat_lt 0 (length ys)) (first (length xs)))
  where
    first : (n : ℕ) → nat_lt 0 (suc n) ≡ true
    first n = ap (nat_lt 0) (sym (add-one n)) ∙ one-more n

-- conditions name a scalar where one of them does
pub any_scalar : (conds : List Cond) → nat_lt 0 (length (flat_map condition_scalars conds)) ≡ list_any (λ cond. nat_lt 0 (length (condition_scalars cond))) conds
any_scalar [] = refl
any_scalar (c ∷ cs) = some-append (condition_scalars c) (flat_map condition_scalars cs) ∙ ap (λ b. nat_lt 0 (length (condition_scalars c)) || b) (any_scalar cs)
