-- Places of tuples and tuples at places, one index after another.
use Rattle.std.proofs.Common.{◌≡◌, ℕ, zero, suc, ◌+◌, ◌*◌, ◌/◌, ◌%◌, ◌^◌, ◌<◌, ◌≤◌, List, [], ◌∷◌, drop, length, slice_index_or, set, refl, sym, ap, ◌∙◌, subst, arith}
use Rattle.std.proofs.Math.Nat.{mul-le-mul_right, div-div-eq-div-mul, mod-lt, mod-eq_of_lt}
use Rattle.std.proofs.Math.Arith.{mod-mul}
use Rattle.std.proofs.lemmas.List.{drop_more, drop-set}
use Rattle.std.proofs.lemmas.Nat.{mod-mul-add, div-mul-add}
use Rattle.sial_syntax.specs.BoxLaws.{AreSegments}
use Rattle.sial_syntax.specs.Boxes.{volume}
use Rattle.sial_syntax.specs.Spaces.{Spaces, first_of, count_of, box_of, numbers_at}

-- a factor that isn't 0 makes nothing smaller
factor : (n v : ℕ) → 0 < n → v ≤ n * v
factor n v some =
    let more : 1 * v ≤ n * v = mul-le-mul_right v some in
    omega (arith, more)

-- what is known of the indices behind the first
pub rest_known : (spaces : Spaces) (indices numbers : List ℕ) (i n : ℕ) (rest behind : List ℕ) → indices ≡ i ∷ rest → numbers ≡ n ∷ behind → AreSegments spaces indices numbers → volume (box_of spaces indices) < 2 ^ 64
    → AreSegments spaces rest behind × (volume (box_of spaces rest) < 2 ^ 64)
rest_known spaces indices numbers i n rest behind e f are fits =
    known
    (subst (λ (ns : List ℕ). AreSegments spaces (i ∷ rest) ns) f (subst (λ (is : List ℕ). AreSegments spaces is numbers) e are))
    (subst (λ (is : List ℕ). volume (box_of spaces is) < 2 ^ 64) e fits)
  where
    known : AreSegments spaces (i ∷ rest) (n ∷ behind) → volume (box_of spaces (i ∷ rest)) < 2 ^ 64 → AreSegments spaces rest behind × (volume (box_of spaces rest) < 2 ^ 64)
    known are fits =
        let some : 0 < count_of spaces i = omega (arith, are.0, are.1) in
        (are.2, omega (arith, factor (count_of spaces i) (volume (box_of spaces rest)) some, fits))

-- factors of what isn't 0 aren't 0
pub left-some : (n v : ℕ) → 0 < n * v → 0 < n
left-some zero v some = omega arith
left-some (suc n) v some = omega arith

pub right-some : (n v : ℕ) → 0 < n * v → 0 < v
right-some n zero some =
    let none : n * 0 ≡ 0 = omega arith in
    absurd (omega arith)
right-some n (suc v) some = omega arith

-- the box of some indices from one on has a place where that of all has one
pub drop_some : (spaces : Spaces) (indices : List ℕ) (k : ℕ) → 0 < volume (box_of spaces indices) → 0 < volume (box_of spaces (drop k indices))
drop_some spaces [] zero some = some
drop_some spaces [] (suc k) some = some
drop_some spaces (i ∷ is) zero some = some
drop_some spaces (i ∷ is) (suc k) some = drop_some spaces is k (right-some (count_of spaces i) (volume (box_of spaces is)) some)

-- the numbers at a place: that of the first index, and those at the place in what is behind it
pub numbers_first : (spaces : Spaces) (indices : List ℕ) (i rank : ℕ) (rest : List ℕ) → indices ≡ i ∷ rest → 0 < volume (box_of spaces indices)
    → (first_of spaces i + rank / volume (box_of spaces rest) % count_of spaces i) ∷ numbers_at spaces rest (rank % volume (box_of spaces rest)) ≡ numbers_at spaces indices (rank % volume (box_of spaces indices))
numbers_first spaces indices i rank rest e some = first (count_of spaces i) (volume (box_of spaces rest)) refl refl (subst (λ (is : List ℕ). 0 < volume (box_of spaces is)) e some) ∙ sym (ap (λ (is : List ℕ). numbers_at spaces is (rank % volume (box_of spaces is))) e)
  where
    first : (n v : ℕ) → count_of spaces i ≡ n → volume (box_of spaces rest) ≡ v → 0 < n * v
        → (first_of spaces i + rank / v % n) ∷ numbers_at spaces rest (rank % v) ≡ ((first_of spaces i + rank % (n * v) / v) ∷ numbers_at spaces rest (rank % (n * v) % v))
    first n v f g some =
        let whole : rank % (n * v) ≡ rank / v % n * v + rank % v = mod-mul rank (left-some n v some) (right-some n v some) in
        let inside : rank % v < v = mod-lt rank (right-some n v some) in
        let high : rank % (n * v) / v ≡ rank / v % n = ap (λ (x : ℕ). x / v) whole ∙ div-mul-add (rank / v % n) v (rank % v) inside in
        let low : rank % (n * v) % v ≡ rank % v = ap (λ (x : ℕ). x % v) whole ∙ mod-mul-add (rank / v % n) v (rank % v) inside in
        ap (λ (x : ℕ). (first_of spaces i + x) ∷ numbers_at spaces rest (rank % v)) (sym high) ∙ ap (λ (x : ℕ). (first_of spaces i + rank % (n * v) / v) ∷ numbers_at spaces rest x) (sym low)

-- how often a box is passed: as often as what is behind the first index is passed, its rows through
pub passed_first : (spaces : Spaces) (indices : List ℕ) (i rank : ℕ) (rest : List ℕ) → indices ≡ i ∷ rest → rank / volume (box_of spaces rest) / count_of spaces i ≡ rank / volume (box_of spaces indices)
passed_first spaces indices i rank rest e =
    div-div-eq-div-mul rank (volume (box_of spaces rest)) (count_of spaces i)
    ∙ (ap (λ (d : ℕ). rank / d) (turned (volume (box_of spaces rest)) (count_of spaces i)) ∙ sym (ap (λ (is : List ℕ). rank / volume (box_of spaces is)) e))
  where
    turned : (a b : ℕ) → a * b ≡ b * a
    turned a b = omega arith

-- the indices from one on
from_one : (indices : List ℕ) (j k : ℕ) → j + 1 ≡ k → k ≤ length indices → drop j indices ≡ slice_index_or indices j 0 ∷ drop k indices
from_one indices j k next below =
    let inside : j < length indices = omega arith in
    drop_more indices j 0 inside ∙ ap (λ (m : ℕ). slice_index_or indices j 0 ∷ drop m indices) next

-- each index of a box that has a place has a segment
pub count_some : (spaces : Spaces) (indices : List ℕ) (j k : ℕ) → j + 1 ≡ k → k ≤ length indices → 0 < volume (box_of spaces indices) → 0 < count_of spaces (slice_index_or indices j 0)
count_some spaces indices j k next below some =
    left-some (count_of spaces (slice_index_or indices j 0)) (volume (box_of spaces (drop k indices)))
    (subst (λ (is : List ℕ). 0 < volume (box_of spaces is)) (from_one indices j k next below) (drop_some spaces indices j some))

-- one more number is written
pub write_turn : (spaces : Spaces) (indices into : List ℕ) (j k rank left x : ℕ) → j + 1 ≡ k → k ≤ length indices → length into ≡ length indices → 0 < volume (box_of spaces indices)
    → left ≡ rank / volume (box_of spaces (drop k indices)) → drop k into ≡ numbers_at spaces (drop k indices) (rank % volume (box_of spaces (drop k indices)))
    → x ≡ first_of spaces (slice_index_or indices j 0) + left % count_of spaces (slice_index_or indices j 0)
    → drop j (set into j x) ≡ numbers_at spaces (drop j indices) (rank % volume (box_of spaces (drop j indices)))
write_turn spaces indices into j k rank left x next below long some passed done is =
    let i = slice_index_or indices j 0 in
    let inside : j < length into = omega arith in
    drop-set into j x inside
    ∙ (ap (λ (m : ℕ). x ∷ drop m into) next
    ∙ (ap (λ (others : List ℕ). x ∷ others) done
    ∙ (ap (λ (y : ℕ). y ∷ numbers_at spaces (drop k indices) (rank % volume (box_of spaces (drop k indices)))) (is ∙ ap (λ (l : ℕ). first_of spaces i + l % count_of spaces i) passed)
    ∙ numbers_first spaces (drop j indices) i rank (drop k indices) (from_one indices j k next below) (drop_some spaces indices j some))))

-- and how often the box was passed is left
pub passed_turn : (spaces : Spaces) (indices : List ℕ) (j k rank left count : ℕ) → j + 1 ≡ k → k ≤ length indices → left ≡ rank / volume (box_of spaces (drop k indices)) → count ≡ count_of spaces (slice_index_or indices j 0)
    → left / count ≡ rank / volume (box_of spaces (drop j indices))
passed_turn spaces indices j k rank left count next below passed is =
    let i = slice_index_or indices j 0 in
    ap (λ (l : ℕ). l / count) passed
    ∙ (ap (λ (n : ℕ). rank / volume (box_of spaces (drop k indices)) / n) is
    ∙ passed_first spaces (drop j indices) i rank (drop k indices) (from_one indices j k next below))

-- all numbers are written
pub write_done : (spaces : Spaces) (indices into : List ℕ) (k rank : ℕ) → k ≡ 0 → drop k into ≡ numbers_at spaces (drop k indices) (rank % volume (box_of spaces (drop k indices))) → rank < volume (box_of spaces indices) → into ≡ numbers_at spaces indices rank
write_done spaces indices into zero rank is done within = done ∙ ap (numbers_at spaces indices) (mod-eq_of_lt within)
write_done spaces indices into (suc k) rank is done within = absurd (omega arith)
