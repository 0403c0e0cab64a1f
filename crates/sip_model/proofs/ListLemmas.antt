-- Lists: members at places, facts of all members, and lists without one member.
use Rattle.std.proofs.Common.{◌≡◌, ℕ, zero, suc, ◌+◌, ◌<◌, ◌≤◌, Bool, true, false, List, [], ◌∷◌, ◌++◌, Some, refl, sym, ap, subst, arith}
use Rattle.std.specs.Prelude.{map, filter, take, drop}
use Rattle.std.specs.List.{enumerate_from}
use Rattle.sial_syntax.specs.Boxes.{numbers_from}
use Rattle.sip_model.specs.Machines.{at_place}

-- a fact of all members
abbrev pub AllIn : {A : Type 0} → (A → Type 0) → List A → Type 0
AllIn P [] = Unit {0}
AllIn P (x ∷ xs) = P x × AllIn P xs

-- what holds of all holds of the one at a place
pub all-at : {A : Type 0} (P : A → Type 0) (xs : List A) (k : ℕ) (x : A) → AllIn P xs → at_place xs k ≡ Some x → P x
all-at P [] k x h e = absurd cc
all-at P (y ∷ ys) zero x h e = let q : y ≡ x = cc in subst P q h.0
all-at P (y ∷ ys) (suc k) x h e = all-at P ys k x h.1 e

-- of two lists together
pub all-append : {A : Type 0} (P : A → Type 0) (xs ys : List A) → AllIn P xs → AllIn P ys → AllIn P (xs ++ ys)
all-append P [] ys h k = k
all-append P (x ∷ xs) ys h k = (h.0, all-append P xs ys h.1 k)

-- of what a function makes of members
pub all-map : {A B : Type 0} (P : B → Type 0) (f : A → B) (xs : List A) → AllIn (λ a. P (f a)) xs → AllIn P (map f xs)
all-map P f [] h = tt
all-map P f (x ∷ xs) h = (h.0, all-map P f xs h.1)

-- of a member that passes a test or not, before members that pass it
filter-more : {A : Type 0} (P : A → Type 0) (p : A → Bool) (x : A) (xs : List A) → (b : Bool) → p x ≡ b → (b ≡ true → P x)
    → AllIn P (filter p xs) → AllIn P (filter p (x ∷ xs))
filter-more P p x xs true e h r = rw e (h refl, r)
filter-more P p x xs false e h r = rw e r

-- of those that pass a test
pub all-filter : {A : Type 0} (P Q : A → Type 0) (p : A → Bool) → ((a : A) → Q a → p a ≡ true → P a) → (xs : List A) → AllIn Q xs
    → AllIn P (filter p xs)
all-filter P Q p f [] h = tt
all-filter P Q p f (x ∷ xs) h = filter-more P p x xs (p x) refl (λ e. f x h.0 e) (all-filter P Q p f xs h.1)

-- of numbers in a row
pub all-numbers : (P : ℕ → Type 0) (first n : ℕ) → ((k : ℕ) → first ≤ k → k < first + n → P k) → AllIn P (numbers_from first n)
all-numbers P first zero h = tt
all-numbers P first (suc n) h =
    (h first (omega arith) (omega arith), all-numbers P (first + 1) n (λ k l m. h k (omega arith) (omega arith)))

-- of members with their places, counted from a number on
pub all-enumerated : {A : Type 0} (P : ℕ × A → Type 0) (first : ℕ) (xs : List A)
    → ((i : ℕ) (x : A) → at_place xs i ≡ Some x → P (first + i, x)) → AllIn P (enumerate_from first xs)
all-enumerated P first [] h = tt
all-enumerated P first (x ∷ xs) h = (subst (λ n. P (n, x)) (omega arith) (h 0 x refl), all-enumerated P (first + 1) xs (λ i y e. subst (λ n. P (n, y)) (omega arith) (h (suc i) y e)))

-- a list is what is before a place, the member there, and what is behind
pub place-splits : {A : Type 0} (xs : List A) (i : ℕ) (x : A) → at_place xs i ≡ Some x → xs ≡ take i xs ++ x ∷ drop (i + 1) xs
place-splits [] i x e = absurd cc
place-splits (y ∷ ys) zero x e = let q : y ≡ x = cc in ap (λ z. z ∷ ys) q
place-splits (y ∷ ys) (suc i) x e =
    let n : suc i + 1 ≡ suc (i + 1) = omega arith in
    subst (λ k. y ∷ ys ≡ take (suc i) (y ∷ ys) ++ x ∷ drop k (y ∷ ys)) (sym n) (ap (λ z. y ∷ z) (place-splits ys i x e))
