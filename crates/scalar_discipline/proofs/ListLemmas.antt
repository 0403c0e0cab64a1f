-- Lists by the numbers of their places.
use Rattle.std.proofs.Common.{◌≡◌, ℕ, zero, suc, ◌+◌, ◌<◌, List, [], ◌∷◌, ◌++◌, map, filter, length, slice_index_or, Bool, cond, ◌||◌, inl, inr, refl, sym, ap, ◌∙◌, subst, append_assoc, append-nil, Option, Some, None, ◌-◌, arith}
use Rattle.std.specs.List.{list_any, enumerate_from}
use Rattle.sial_syntax.specs.declared.condition.Cond.{Cond}
use Rattle.sial_syntax.specs.Boxes.{numbers_from}
use Rattle.sial_syntax.specs.Parts.{arrays_named}
use Rattle.sial_syntax.specs.Tree.{Block, branches}
use Rattle.sial_syntax.proofs.AmongLemmas.{Among}

-- what is the same for each member is the same for all
pub same_map : {X Y : Type 0} (f g : X → Y) (xs : List X) → ((x : X) → Among x xs → f x ≡ g x) → map f xs ≡ map g xs
same_map f g [] same = refl
same_map f g (x ∷ xs) same = ap (λ y. y ∷ map f xs) (same x (inl refl)) ∙ ap (λ ys. g x ∷ ys) (same_map f g xs (λ y m. same y (inr m)))

-- a test that is the same for each member
pub same_any : {X : Type 0} (f g : X → Bool) (xs : List X) → ((x : X) → Among x xs → f x ≡ g x) → list_any f xs ≡ list_any g xs
same_any f g [] same = refl
same_any f g (x ∷ xs) same = ap (λ b. b || list_any f xs) (same x (inl refl)) ∙ ap (λ b. g x || b) (same_any f g xs (λ y m. same y (inr m)))

-- so are those that pass it
pub same_filter : {X : Type 0} (f g : X → Bool) (xs : List X) → ((x : X) → Among x xs → f x ≡ g x) → filter f xs ≡ filter g xs
same_filter f g [] same = refl
same_filter f g (x ∷ xs) same =
    ap (λ b. cond b (x ∷ filter f xs) (filter f xs)) (same x (inl refl))
    ∙ ap (λ ys. cond (g x) (x ∷ ys) ys) (same_filter f g xs (λ y m. same y (inr m)))

-- one thing made of another, and a third of that
pub map_twice : {X Y Z : Type 0} (f : Y → Z) (g : X → Y) (xs : List X) → map f (map g xs) ≡ map (λ x. f (g x)) xs
map_twice f g [] = refl
map_twice f g (x ∷ xs) = ap (λ ys. f (g x) ∷ ys) (map_twice f g xs)

-- a test of what is made of things
pub any_map : {X Y : Type 0} (f : Y → Bool) (g : X → Y) (xs : List X) → list_any f (map g xs) ≡ list_any (λ x. f (g x)) xs
any_map f g [] = refl
any_map f g (x ∷ xs) = ap (λ b. f (g x) || b) (any_map f g xs)

-- what is made of things at their places is made of their numbers
pub map_numbers : {X Y : Type 0} (f : X → Y) (g : ℕ → Y) (xs : List X) (d : X) (first : ℕ) → ((i : ℕ) → i < length xs → f (slice_index_or xs i d) ≡ g (first + i)) → map f xs ≡ map g (numbers_from first (length xs))
map_numbers f g [] d first same = refl
map_numbers f g (x ∷ xs) d first same =
    let start : first + 0 ≡ first = omega arith in
    ap (λ y. y ∷ map f xs) (same 0 (omega arith) ∙ ap g start)
    ∙ ap (λ ys. g first ∷ ys) (map_numbers f g xs d (first + 1) (λ i h. let next : first + suc i ≡ (first + 1) + i = omega arith in same (suc i) (omega (arith, h)) ∙ ap g next))

-- the same of things with their numbers
pub map_enumerated : {X Y : Type 0} (f : ℕ × X → Y) (g : ℕ → Y) (xs : List X) (d : X) (first : ℕ) → ((i : ℕ) → i < length xs → f (first + i, slice_index_or xs i d) ≡ g (first + i))
    → map f (enumerate_from first xs) ≡ map g (numbers_from first (length xs))
map_enumerated f g [] d first same = refl
map_enumerated f g (x ∷ xs) d first same =
    let start : first + 0 ≡ first = omega arith in
    ap (λ y. y ∷ map f (enumerate_from (first + 1) xs)) (subst (λ (n : ℕ). f (n, x) ≡ g n) start (same 0 (omega arith)))
    ∙ ap (λ ys. g first ∷ ys)
    (map_enumerated f g xs d (first + 1) (λ i h.
    let next : first + suc i ≡ (first + 1) + i = omega arith in
    subst (λ (n : ℕ). f (n, slice_index_or xs i d) ≡ g n) next (same (suc i) (omega (arith, h)))))

-- what is made of a number stands at its place
pub number_at : {Y : Type 0} (g : ℕ → Y) (first n i : ℕ) (d : Y) → i < n → slice_index_or (map g (numbers_from first n)) i d ≡ g (first + i)
number_at g first zero i d within = absurd (omega (arith, within))
number_at g first (suc n) zero d within = let start : first ≡ first + 0 = omega arith in ap g start
number_at g first (suc n) (suc i) d within =
    let next : (first + 1) + i ≡ first + suc i = omega arith in
    number_at g (first + 1) n i d (omega (arith, within)) ∙ ap g next

-- what is made of a thing at its place, also where there is none
pub at_map : {X Y : Type 0} (f : X → Y) (xs : List X) (i : ℕ) (d : X) → slice_index_or (map f xs) i (f d) ≡ f (slice_index_or xs i d)
at_map f [] i d = refl
at_map f (x ∷ xs) zero d = refl
at_map f (x ∷ xs) (suc i) d = at_map f xs i d

-- nothing behind a list
pub nothing_more : (xs ys : List ℕ) → ys ≡ [] → xs ≡ xs ++ ys
nothing_more xs ys none = sym (append-nil xs) ∙ ap (λ zs. xs ++ zs) (sym none)

-- an `if` names no array itself
pub branches_none : (test : Cond) (body : Block) (other : Option Block) → arrays_named (branches test body other) ≡ []
branches_none test body None = refl
branches_none test body (Some other) = refl

-- one more number
pub numbers_turn : {X : Type 0} (f : ℕ → X) (done new all : List X) (x : X) (k n : ℕ) → k < n → x ≡ f k → new ≡ done ++ x ∷ [] → done ++ map f (numbers_from k (n - k)) ≡ all → new ++ map f (numbers_from (k + 1) (n - (k + 1))) ≡ all
numbers_turn f done new all x k n within is pushed so =
    let rest = map f (numbers_from (k + 1) (n - (k + 1))) in
    let more : n - k ≡ suc (n - (k + 1)) = omega (arith, within) in
    ap (λ xs. xs ++ rest) (pushed ∙ ap (λ y. done ++ y ∷ []) is)
    ∙ (append_assoc done (f k ∷ []) rest ∙ (ap (λ m. done ++ map f (numbers_from k m)) (sym more) ∙ so))
