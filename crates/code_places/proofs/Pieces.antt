-- Parts of a list at their places.
use Rattle.std.proofs.Common.{◌≡◌, ℕ, zero, suc, ◌+◌, List, [], ◌∷◌, ◌++◌, length, Some, slice_get, refl, ap, sym, ◌∙◌, arith, length-append, append_assoc, append-nil}
use Rattle.code_places.specs.Standing.{PartAt}

-- a part of what stands at a place
pub within : {X : Type 0} (at n : ℕ) (part whole front middle back : List X) → PartAt at part whole → part ≡ front ++ (middle ++ back) → n ≡ at + length front → PartAt n middle whole
within {X} at n part whole front middle back stands parts place = record {
  front = stands.front ++ front;
  back = back ++ stands.back;
  whole_is =
      stands.whole_is
      ∙ ap (λ (x : List X). stands.front ++ (x ++ stands.back)) parts
      ∙ ap (λ (x : List X). stands.front ++ x) (append_assoc front (middle ++ back) stands.back ∙ ap (λ (x : List X). front ++ x) (append_assoc middle back stands.back))
      ∙ sym (append_assoc stands.front front (middle ++ (back ++ stands.back)));
  before = let e = length-append stands.front front in let b = stands.before in omega (arith, e, b, place);
}

-- the first part of two
pub first_part : {X : Type 0} (at : ℕ) (xs ys whole : List X) → PartAt at (xs ++ ys) whole → PartAt at xs whole
first_part {X} at xs ys whole stands = within at at (xs ++ ys) whole [] xs ys stands refl (omega arith)

-- the second part of two
pub second_part : {X : Type 0} (at n : ℕ) (xs ys whole : List X) → PartAt at (xs ++ ys) whole → n ≡ at + length xs → PartAt n ys whole
second_part {X} at n xs ys whole stands place = within at n (xs ++ ys) whole xs ys [] stands (ap (λ (x : List X). xs ++ x) (sym (append-nil ys))) place

-- the entry behind others
get_behind : {X : Type 0} (front : List X) (x : X) (xs : List X) → slice_get (front ++ x ∷ xs) (length front) ≡ Some x
get_behind [] x xs = refl
get_behind (y ∷ front) x xs = get_behind front x xs

-- the first entry of a part is found at its place
pub get_first : {X : Type 0} (at : ℕ) (x : X) (xs whole : List X) → PartAt at (x ∷ xs) whole → slice_get whole at ≡ Some x
get_first at x xs whole stands =
    ap (λ n. slice_get whole n) (sym stands.before)
    ∙ (ap (λ w. slice_get w (length stands.front)) stands.whole_is ∙ get_behind stands.front x (xs ++ stands.back))

-- an entry of a list before others
get_before : {X : Type 0} (xs ys : List X) (n : ℕ) (x : X) → slice_get xs n ≡ Some x → slice_get (xs ++ ys) n ≡ Some x
get_before [] ys n x is = absurd cc
get_before (y ∷ xs) ys zero x is = is
get_before (y ∷ xs) ys (suc n) x is = get_before xs ys n x is

-- an entry of a list behind others
get_after : {X : Type 0} (front xs : List X) (n : ℕ) → slice_get (front ++ xs) (length front + n) ≡ slice_get xs n
get_after [] xs n = let e : 0 + n ≡ n = omega arith in ap (λ m. slice_get xs m) e
get_after (y ∷ front) xs n =
    let e : length (y ∷ front) + n ≡ suc (length front + n) = omega arith in
    ap (λ m. slice_get (y ∷ (front ++ xs)) m) e ∙ get_after front xs n

-- an entry of a part is found so far behind its place
pub get_inside : {X : Type 0} (at n : ℕ) (part whole : List X) (x : X) → PartAt at part whole → slice_get part n ≡ Some x → slice_get whole (at + n) ≡ Some x
get_inside at n part whole x stands is =
    ap (λ m. slice_get whole (m + n)) (sym stands.before)
    ∙ (ap (λ w. slice_get w (length stands.front + n)) stands.whole_is ∙ (get_after stands.front (part ++ stands.back) n ∙ get_before part stands.back n x is))
