-- Rows of entries, one for each position of a block: what a look-up finds there.
use Rattle.std.proofs.Common.{◌≡◌, ℕ, zero, suc, ◌+◌, ◌<◌, ◌≤◌, ◌⊎◌, inl, inr, true, false, cond, List, [], ◌∷◌, ◌++◌, map, zip, length, slice_index_or, Option, Some, None, refl, sym, ap, ◌∙◌, subst, arith}
use Rattle.std.proofs.lemmas.Bool.{false_from_ne_true}
use Rattle.std.proofs.lemmas.List.{length-map}
use Rattle.std.proofs.lemmas.Map.Text.{is_eq-slice_cmp}
use Rattle.std.proofs.lemmas.Simd.{map-map}
use Rattle.std.proofs.lemmas.Slice.Eq.{bytes_eq-Decides}
use Rattle.std.specs.Cmp.Lexicographic.{slice_cmp}
use Rattle.std.specs.FinMap.{find}
use Rattle.std.specs.List.{Contains}
use Rattle.std.specs.Ordering.{nat_cmp, eq_by_cmp}
use Rattle.sial_syntax.specs.Boxes.{numbers_from, volume, tuple_at}
use Rattle.sial_syntax.specs.Spaces.{Extent}
use Rattle.sial_syntax.proofs.BoxLemmas.{map-from, numbers-length, tuples-are}
use Rattle.sial_meaning.specs.LocalStep.{whole_positions}
use Rattle.sial_meaning.specs.Sight.{lengths}
use Rattle.sial_meaning.specs.Whole.{entries_on, positions_on}

-- the order of positions tells apart what differs
pub same-key : (q k : List ℕ) → q ≡ k → eq_by_cmp (slice_cmp nat_cmp) q k ≡ true
same-key q k same = is_eq-slice_cmp q k ∙ (bytes_eq-Decides q k).1 same

-- keys that differ compare as different
pub other-key : (q k : List ℕ) → (q ≡ k → ⊥) → eq_by_cmp (slice_cmp nat_cmp) q k ≡ false
other-key q k differ = false_from_ne_true (eq_by_cmp (slice_cmp nat_cmp) q k) (λ is. differ ((bytes_eq-Decides q k).0 (sym (is_eq-slice_cmp q k) ∙ is)))

-- what is found among entries
abbrev pub look : List ℕ → List (List ℕ × ℕ) → Option ℕ
look q entries = find (slice_cmp nat_cmp) q entries

-- the entry at hand is found, or passed over
pub look-here : (q k : List ℕ) (v : ℕ) (es : List (List ℕ × ℕ)) → q ≡ k → look q ((k, v) ∷ es) ≡ Some v
look-here q k v es same = ap (λ b. cond b (Some v) (look q es)) (same-key q k same)

-- a look-up goes past an entry with another key
pub look-past : (q k : List ℕ) (v : ℕ) (es : List (List ℕ × ℕ)) → (q ≡ k → ⊥) → look q ((k, v) ∷ es) ≡ look q es
look-past q k v es differ = ap (λ b. cond b (Some v) (look q es)) (other-key q k differ)

-- a row of entries that has no such key is passed over
pub look-past-row : (h : ℕ → List ℕ) (first n : ℕ) (words : List ℕ) (rest : List (List ℕ × ℕ)) (q : List ℕ) → ((k : ℕ) → first ≤ k → k < (first + n) → q ≡ h k → ⊥)
    → look q (zip (map h (numbers_from first n)) words ++ rest) ≡ look q rest
look-past-row h first zero words rest q differ = refl
look-past-row h first (suc n) [] rest q differ = refl
look-past-row h first (suc n) (w ∷ ws) rest q differ =
    look-past q (h first) w (zip (map h (numbers_from (first + 1) n)) ws ++ rest) (differ first (omega arith) (omega arith))
    ∙ look-past-row h (first + 1) n ws rest q (λ k from below. differ k (omega (arith, from)) (omega (arith, below)))

-- a key of a row of entries is found there, at its place
pub look-in-row : (h : ℕ → List ℕ) (first n k : ℕ) (words : List ℕ) (rest : List (List ℕ × ℕ)) → k < n → n ≤ length words → ((j : ℕ) → first ≤ j → j < (first + k) → h (first + k) ≡ h j → ⊥)
    → look (h (first + k)) (zip (map h (numbers_from first n)) words ++ rest) ≡ Some (slice_index_or words k 0)
look-in-row h first zero k words rest below long once = absurd (omega (arith, below))
look-in-row h first (suc n) k [] rest below long once = absurd (omega (arith, long))
look-in-row h first (suc n) zero (w ∷ ws) rest below long once =
    let none : first + 0 ≡ first = omega arith in
    look-here (h (first + 0)) (h first) w (zip (map h (numbers_from (first + 1) n)) ws ++ rest) (ap h none)
look-in-row h first (suc n) (suc k) (w ∷ ws) rest below long once =
    let on : first + suc k ≡ (first + 1) + k = omega arith in
    look-past (h (first + suc k)) (h first) w (zip (map h (numbers_from (first + 1) n)) ws ++ rest) (once first (omega arith) (omega arith))
    ∙ (ap (λ x. look (h x) (zip (map h (numbers_from (first + 1) n)) ws ++ rest)) on
    ∙ look-in-row h (first + 1) n k ws rest (omega (arith, below)) (omega (arith, long))
    (λ j from under same. once j (omega (arith, from)) (omega (arith, under)) (ap h on ∙ same)))

-- what is found stands in the row, or behind it
pub found-in-row : (h : ℕ → List ℕ) (first n : ℕ) (words : List ℕ) (rest : List (List ℕ × ℕ)) (q : List ℕ) (v : ℕ) → look q (zip (map h (numbers_from first n)) words ++ rest) ≡ Some v
    → ((k : ℕ) × (first ≤ k) × (k < (first + n)) × (q ≡ h k)) ⊎ (look q rest ≡ Some v)
found-in-row h first zero words rest q v is = inr is
found-in-row h first (suc n) [] rest q v is = inr is
found-in-row h first (suc n) (w ∷ ws) rest q v is =
    let others = zip (map h (numbers_from (first + 1) n)) ws ++ rest in
    elim (eq_by_cmp (slice_cmp nat_cmp) q (h first)) as (λ b. eq_by_cmp (slice_cmp nat_cmp) q (h first) ≡ b → cond b (Some w) (look q others) ≡ Some v
    → ((k : ℕ) × (first ≤ k) × (k < (first + suc n)) × (q ≡ h k)) ⊎ (look q rest ≡ Some v)) [
      | true ↦ λ e found. inl (first, omega arith, omega arith, (bytes_eq-Decides q (h first)).0 (sym (is_eq-slice_cmp q (h first)) ∙ e))
      | false ↦ λ e found.
          elim (found-in-row h (first + 1) n ws rest q v found) as (λ x. ((k : ℕ) × (first ≤ k) × (k < (first + suc n)) × (q ≡ h k)) ⊎ (look q rest ≡ Some v)) [
            | inl x ↦ let from = x.1 in let below = x.2 in inl (x.0, omega (arith, from), omega (arith, below), x.3)
            | inr x ↦ inr x
          ]
    ] refl is

-- the position of a block at a place of its list
abbrev pub place_on : List Extent → ℕ → List ℕ
place_on extents k = whole_positions extents (tuple_at (lengths extents) k)

-- a block's positions, one for each place of its list
pub positions-are : (extents : List Extent) → positions_on extents ≡ map (place_on extents) (numbers_from 0 (volume (lengths extents)))
positions-are extents =
    ap (map (whole_positions extents)) (tuples-are (lengths extents)) ∙ map-map (whole_positions extents) (tuple_at (lengths extents)) (numbers_from 0 (volume (lengths extents)))

-- entries are positions beside words
pub entries-are : (extents : List Extent) (words : List ℕ) → entries_on extents words ≡ zip (map (place_on extents) (numbers_from 0 (volume (lengths extents)))) words
entries-are extents words = ap (λ ps. zip ps words) (positions-are extents)

-- a position of a block stands at a place of its list
pub row-has : (h : ℕ → List ℕ) (first n : ℕ) (q : List ℕ) (j : ℕ) → j < length (map h (numbers_from first n)) → slice_index_or (map h (numbers_from first n)) j q ≡ q → (k : ℕ) × (first ≤ k) × (k < (first + n)) × (q ≡ h k)
row-has h first zero q j below is = absurd (omega (arith, below))
row-has h first (suc n) q zero below is = (first, omega arith, omega arith, sym is)
row-has h first (suc n) q (suc j) below is =
    let x = row-has h (first + 1) n q j (omega (arith, below)) is in
    let from = x.1 in
    let under = x.2 in
    (x.0, omega (arith, from), omega (arith, under), x.3)

-- a tuple among the positions is that at a place
pub positions-have : (extents : List Extent) (q : List ℕ) → Contains (positions_on extents) q → (k : ℕ) × (0 ≤ k) × (k < (0 + volume (lengths extents))) × (q ≡ place_on extents k)
positions-have extents q has =
    let moved : Contains (map (place_on extents) (numbers_from 0 (volume (lengths extents)))) q = subst (λ ps. Contains ps q) (positions-are extents) has in
    row-has (place_on extents) 0 (volume (lengths extents)) q moved.0 moved.1 moved.2

-- what a row of images has at a number
pub row-contains : (h : ℕ → List ℕ) (first n k : ℕ) → k < n → slice_index_or (map h (numbers_from first n)) k (h (first + k)) ≡ h (first + k)
row-contains h first zero k below = absurd (omega (arith, below))
row-contains h first (suc n) zero below = let none : first + 0 ≡ first = omega arith in ap h (sym none)
row-contains h first (suc n) (suc k) below =
    let on : first + suc k ≡ (first + 1) + k = omega arith in
    ap (λ x. slice_index_or (map h (numbers_from (first + 1) n)) k (h x)) on ∙ (row-contains h (first + 1) n k (omega (arith, below)) ∙ ap h (sym on))

-- the tuple at a place is among the positions
pub contains-place : (extents : List Extent) (q : List ℕ) (k : ℕ) → k < volume (lengths extents) → q ≡ place_on extents k → Contains (positions_on extents) q
contains-place extents q k below is =
    let long : length (map (place_on extents) (numbers_from 0 (volume (lengths extents)))) ≡ volume (lengths extents) =
    length-map (numbers_from 0 (volume (lengths extents))) (place_on extents) ∙ numbers-length 0 (volume (lengths extents)) in
    let none : 0 + k ≡ k = omega arith in
    let at : slice_index_or (map (place_on extents) (numbers_from 0 (volume (lengths extents)))) k (place_on extents k) ≡ place_on extents k =
    subst (λ x. slice_index_or (map (place_on extents) (numbers_from 0 (volume (lengths extents)))) k (place_on extents x) ≡ place_on extents x) none (row-contains (place_on extents) 0 (volume (lengths extents)) k below) in
    subst (λ ps. Contains ps q) (sym (positions-are extents))
    (k, omega (arith, long, below), subst (λ x. slice_index_or (map (place_on extents) (numbers_from 0 (volume (lengths extents)))) k x ≡ x) (sym is) at)

-- all numbers of a list, read at their places
pub read-all : (words : List ℕ) (first n : ℕ) (f : ℕ → ℕ) → ((k : ℕ) → k < n → f (first + k) ≡ slice_index_or words k 0) → n ≡ length words → map (λ k. Some (f k)) (numbers_from first n) ≡ map Some words
read-all [] first zero f same long = refl
read-all [] first (suc n) f same long = absurd (omega (arith, long))
read-all (w ∷ ws) first zero f same long = absurd (omega (arith, long))
read-all (w ∷ ws) first (suc n) f same long =
    let none : first + 0 ≡ first = omega arith in
    ap (λ x. Some x ∷ map (λ k. Some (f k)) (numbers_from (first + 1) n)) (ap f (sym none) ∙ same 0 (omega arith))
    ∙ ap (λ rest. Some w ∷ rest)
    (read-all ws (first + 1) n f
    (λ k below. let on : (first + 1) + k ≡ first + suc k = omega arith in ap f on ∙ same (suc k) (omega (arith, below)))
    (omega (arith, long)))

-- a list of look-ups, one for each place of a block
pub looked-up : (extents : List Extent) (found : List ℕ → Option ℕ) (words : List ℕ) → length words ≡ volume (lengths extents) → ((k : ℕ) → k < volume (lengths extents) → found (place_on extents k) ≡ Some (slice_index_or words k 0))
    → map found (positions_on extents) ≡ map Some words
looked-up extents found words long same =
    ap (map found) (positions-are extents)
    ∙ (map-map found (place_on extents) (numbers_from 0 (volume (lengths extents)))
    ∙ (map-from (λ k. found (place_on extents k)) (λ k. Some (slice_index_or words k 0)) 0 (volume (lengths extents)) (λ k from below. same k (omega (arith, below)))
    ∙ read-all words 0 (volume (lengths extents)) (λ k. slice_index_or words k 0) (λ k below. let none : 0 + k ≡ k = omega arith in ap (λ x. slice_index_or words x 0) none) (sym long)))

-- no entries for a block that isn't there
pub zip-none : (xs : List (List ℕ)) (rest : List (List ℕ × ℕ)) → zip xs [] ++ rest ≡ rest
zip-none [] rest = refl
zip-none (x ∷ xs) rest = refl

-- one look-up for each position, all alike
pub all-none : (found : List ℕ → Option ℕ) (h : ℕ → List ℕ) (first n : ℕ) → ((k : ℕ) → first ≤ k → k < (first + n) → found (h k) ≡ None) → map found (map h (numbers_from first n)) ≡ map (λ position. None) (map h (numbers_from first n))
all-none found h first zero none = refl
all-none found h first (suc n) none =
    ap (λ x. x ∷ map found (map h (numbers_from (first + 1) n))) (none first (omega arith) (omega arith))
    ∙ ap (λ rest. None ∷ rest) (all-none found h (first + 1) n (λ k from below. none k (omega (arith, from)) (omega (arith, below))))
