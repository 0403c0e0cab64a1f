-- Entries of lists, and lists with the same entries.
use Rattle.std.proofs.Common.{◌≡◌, ◌⊎◌, inl, inr, List, [], ◌∷◌, ◌++◌, sym, subst}
use Rattle.table_verify.specs.Jumps.{IsIn}

pub in_left : {X : Type 0} (x : X) (xs ys : List X) → IsIn x xs → IsIn x (xs ++ ys)
in_left x [] ys e = absurd e
in_left x (z ∷ xs) ys (inl e) = inl e
in_left x (z ∷ xs) ys (inr e) = inr (in_left x xs ys e)

pub in_right : {X : Type 0} (x : X) (xs ys : List X) → IsIn x ys → IsIn x (xs ++ ys)
in_right x [] ys e = e
in_right x (z ∷ xs) ys e = inr (in_right x xs ys e)

pub in_either : {X : Type 0} (x : X) (xs ys : List X) → IsIn x (xs ++ ys) → IsIn x xs ⊎ IsIn x ys
in_either x [] ys e = inr e
in_either x (z ∷ xs) ys (inl e) = inl (inl e)
in_either x (z ∷ xs) ys (inr e) = behind (in_either x xs ys e)
  where
    behind : IsIn x xs ⊎ IsIn x ys → (IsIn x (z ∷ xs)) ⊎ IsIn x ys
    behind (inl l) = inl (inr l)
    behind (inr r) = inr r

-- one of two cases
pub case : {A B : Type 0} (G : Type 0) → A ⊎ B → (A → G) → (B → G) → G
case G (inl a) f g = f a
case G (inr b) f g = g b

-- the same entries
pub record Same {X : Type 0} (xs ys : List X) : Type 0 where
  pub there : (x : X) → IsIn x xs → IsIn x ys
  pub back : (x : X) → IsIn x ys → IsIn x xs

pub same : {X : Type 0} {xs ys : List X} → xs ≡ ys → Same xs ys
same {X} {xs} {ys} e = record { there = λ x i. subst (λ (zs : List X). IsIn x zs) e i; back = λ x i. subst (λ (zs : List X). IsIn x zs) (sym e) i }

pub then_same : {X : Type 0} {xs ys zs : List X} → Same xs ys → Same ys zs → Same xs zs
then_same a b = record { there = λ x i. b.there x (a.there x i); back = λ x i. a.back x (b.back x i) }

pub same_both : {X : Type 0} (xs ys us vs : List X) → Same xs ys → Same us vs → Same (xs ++ us) (ys ++ vs)
same_both {X} xs ys us vs a b = record {
  there = λ x i. case (IsIn x (ys ++ vs)) (in_either x xs us i) (λ l. in_left x ys vs (a.there x l)) (λ r. in_right x ys vs (b.there x r));
  back = λ x i. case (IsIn x (xs ++ us)) (in_either x ys vs i) (λ l. in_left x xs us (a.back x l)) (λ r. in_right x xs us (b.back x r));
}

-- an entry before some others or behind them
pub moved : {X : Type 0} (a : X) (xs ys : List X) → Same (a ∷ (xs ++ ys)) (xs ++ (a ∷ ys))
moved a xs ys = record { there = λ x i. forth x i; back = λ x i. case (IsIn x (a ∷ (xs ++ ys))) (in_either x xs (a ∷ ys) i) (λ l. inr (in_left x xs ys l)) (λ r. back_of x r) }
  where
    forth : (x : _) → IsIn x (a ∷ (xs ++ ys)) → IsIn x (xs ++ (a ∷ ys))
    forth x (inl e) = in_right x xs (a ∷ ys) (inl e)
    forth x (inr i) = case (IsIn x (xs ++ (a ∷ ys))) (in_either x xs ys i) (λ l. in_left x xs (a ∷ ys) l) (λ r. in_right x xs (a ∷ ys) (inr r))

    back_of : (x : _) → IsIn x (a ∷ ys) → IsIn x (a ∷ (xs ++ ys))
    back_of x (inl e) = inl e
    back_of x (inr r) = inr (in_right x xs ys r)
