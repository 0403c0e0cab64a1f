-- One entry for each of so many things, one after another.
use Rattle.std.proofs.Common.{◌≡◌, ℕ, zero, suc, ◌+◌, ◌-◌, ◌<◌, List, [], ◌∷◌, ◌++◌, map, take, drop, length, slice_index_or, slice_set, refl, sym, ap, ◌∙◌, arith}
use Rattle.sial_syntax.specs.Boxes.{numbers_from}

-- the first of those that are left
pub one-more : {X : Type 0} (f : ℕ → X) (i n : ℕ) → i < n → map f (numbers_from i (n - i)) ≡ f i ∷ map f (numbers_from (i + 1) (n - (i + 1)))
one-more f i n below = let k : n - i ≡ suc (n - (i + 1)) = omega (arith, below) in rw k refl

-- none is left
pub no-more : {X : Type 0} (f : ℕ → X) (i n : ℕ) → n - i ≡ 0 → map f (numbers_from i (n - i)) ≡ []
no-more f i n none = rw none refl

-- an entry is added
pub added : {X : Type 0} (f : ℕ → X) (xs all : List X) (x : X) (i n : ℕ) → i < n → x ≡ f i → xs ++ map f (numbers_from i (n - i)) ≡ all → (xs ++ x ∷ []) ++ map f (numbers_from (i + 1) (n - (i + 1))) ≡ all
added f xs all x i n below is before =
    append-one xs x (map f (numbers_from (i + 1) (n - (i + 1)))) ∙ (ap (λ (y : _). xs ++ (y ∷ map f (numbers_from (i + 1) (n - (i + 1))))) is ∙ (ap (λ (ys : List _). xs ++ ys) (sym (one-more f i n below)) ∙ before))
  where
    append-one : {X : Type 0} (xs : List X) (x : X) (ys : List X) → (xs ++ x ∷ []) ++ ys ≡ xs ++ (x ∷ ys)
    append-one [] x ys = refl
    append-one (z ∷ zs) x ys = ap (λ (r : List _). z ∷ r) (append-one zs x ys)

-- an entry written in place: those before it, it, and those behind it
pub front-set : {X : Type 0} (xs : List X) (i : ℕ) (y : X) → i < length xs → take (i + 1) (slice_set xs i y) ≡ take i xs ++ y ∷ []
front-set xs i y below = rw (one-on i) (set-front xs i y below)
  where
    one-on : (i : ℕ) → i + 1 ≡ suc i
    one-on i = omega arith

    set-front : {X : Type 0} (xs : List X) (i : ℕ) (y : X) → i < length xs → take (suc i) (slice_set xs i y) ≡ take i xs ++ y ∷ []
    set-front [] i y below = absurd (omega (arith, below))
    set-front (x ∷ xs) zero y below = refl
    set-front (x ∷ xs) (suc i) y below = ap (λ (r : List _). x ∷ r) (set-front xs i y (omega (arith, below)))

pub behind-set : {X : Type 0} (xs : List X) (i : ℕ) (y : X) → drop (i + 1) (slice_set xs i y) ≡ drop (i + 1) xs
behind-set xs i y = rw (one-on i) (set-behind xs i y)
  where
    one-on : (i : ℕ) → i + 1 ≡ suc i
    one-on i = omega arith

    set-behind : {X : Type 0} (xs : List X) (i : ℕ) (y : X) → drop (suc i) (slice_set xs i y) ≡ drop (suc i) xs
    set-behind [] i y = refl
    set-behind (x ∷ xs) zero y = refl
    set-behind (x ∷ xs) (suc i) y = set-behind xs i y

-- one less of those that are left
pub same-behind : {X : Type 0} (xs ys : List X) (i : ℕ) → drop i xs ≡ drop i ys → drop (i + 1) xs ≡ drop (i + 1) ys
same-behind xs ys i same = sym (drop-drop' xs i) ∙ (ap (drop 1) same ∙ drop-drop' ys i)
  where
    drop-drop' : {X : Type 0} (zs : List X) (i : ℕ) → drop 1 (drop i zs) ≡ drop (i + 1) zs
    drop-drop' zs i = rw (one-on i) (both zs i)
      where
        one-on : (i : ℕ) → i + 1 ≡ suc i
        one-on i = omega arith

        both : {X : Type 0} (zs : List X) (i : ℕ) → drop 1 (drop i zs) ≡ drop (suc i) zs
        both [] zero = refl
        both [] (suc i) = refl
        both (z ∷ zs) zero = refl
        both (z ∷ zs) (suc i) = both zs i

-- entries that are the same from one on
pub same-from : {X : Type 0} (xs ys : List X) (i : ℕ) (d : X) → drop i xs ≡ drop i ys → slice_index_or xs i d ≡ slice_index_or ys i d
same-from [] [] i d same = refl
same-from [] (y ∷ ys) zero d same = absurd cc
same-from [] (y ∷ ys) (suc i) d same = nothing ys i same
  where
    nothing : (zs : List _) (k : ℕ) → [] ≡ drop k zs → d ≡ slice_index_or zs k d
    nothing [] k e = refl
    nothing (z ∷ zs) zero e = absurd cc
    nothing (z ∷ zs) (suc k) e = nothing zs k e
same-from (x ∷ xs) [] zero d same = absurd cc
same-from (x ∷ xs) [] (suc i) d same = nothing xs i same
  where
    nothing : (zs : List _) (k : ℕ) → drop k zs ≡ [] → slice_index_or zs k d ≡ d
    nothing [] k e = refl
    nothing (z ∷ zs) zero e = absurd cc
    nothing (z ∷ zs) (suc k) e = nothing zs k e
same-from (x ∷ xs) (y ∷ ys) zero d same = cc
same-from (x ∷ xs) (y ∷ ys) (suc i) d same = same-from xs ys i d same

-- one entry more is as it should be
pub one-more-set : {X : Type 0} (f : ℕ → X) (now old all : List X) (y d : X) (i : ℕ) → i < length old → length now ≡ length old → drop i now ≡ drop i old → (slice_index_or now i d ≡ slice_index_or old i d → y ≡ f i)
    → take i now ++ map f (numbers_from i (length old - i)) ≡ all
    → take (i + 1) (slice_set now i y) ++ map f (numbers_from (i + 1) (length old - (i + 1))) ≡ all
one-more-set f now old all y d i below long same is before =
    ap (λ (r : List _). r ++ map f (numbers_from (i + 1) (length old - (i + 1)))) (front-set now i y (omega (arith, below, long)))
    ∙ added f (take i now) all y i (length old) below (is (same-from now old i d same)) before

-- and those behind it are as they were
pub rest-set : {X : Type 0} (now old : List X) (y : X) (i : ℕ) → drop i now ≡ drop i old → drop (i + 1) (slice_set now i y) ≡ drop (i + 1) old
rest-set now old y i same = behind-set now i y ∙ same-behind now old i same

-- what stands at a place doesn't depend on what would stand past the end
pub read-any : {X : Type 0} (xs : List X) (i : ℕ) (d e : X) → i < length xs → slice_index_or xs i d ≡ slice_index_or xs i e
read-any [] i d e below = absurd (omega (arith, below))
read-any (x ∷ xs) zero d e below = refl
read-any (x ∷ xs) (suc i) d e below = read-any xs i d e (omega (arith, below))
