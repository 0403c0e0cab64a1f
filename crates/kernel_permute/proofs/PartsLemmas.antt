-- Lemmas on parts, put together dimension by dimension.
use Rattle.std.proofs.Common.{◌≡◌, ℕ, ◌+◌, ◌-◌, ◌*◌, ◌/◌, ◌<◌, ◌≤◌, List, [], ◌∷◌, ◌++◌, length, take, drop, ap, sym, ◌∙◌, refl, arith, append-nil}
use Rattle.std.proofs.Math.Nat.{mul-le-mul_right, mul-div_cancel_left, le-mul_of_pos_right, mul-pos}
use Rattle.std.proofs.lemmas.List.{take_all, drop_all, length-drop, length-take-le}
use Rattle.kernel_permute.specs.declared.part.Part.{Part}
use Rattle.kernel_permute.specs.Parts.{starts, sizes, dims_of}
use Rattle.kernel_permute.specs.Positions.{product}
use Rattle.kernel_permute.specs.Slicing.{IsPart}
use Rattle.kernel_permute.proofs.ProductLemmas.{positive_left, positive_right}

-- the parts with these starts, sizes and dimensions
abbrev pub parts_with : List ℕ → List ℕ → List ℕ → List Part
parts_with [] zs ds = []
parts_with (a ∷ ats) [] ds = []
parts_with (a ∷ ats) (z ∷ zs) [] = []
parts_with (a ∷ ats) (z ∷ zs) (d ∷ ds) = record { at = a; size = z; dim = d } ∷ parts_with ats zs ds

pub starts-parts_with : (ats zs ds : List ℕ) → IsPart ats zs ds → starts (parts_with ats zs ds) ≡ ats
starts-parts_with [] [] [] is = refl
starts-parts_with (a ∷ ats) (z ∷ zs) (d ∷ ds) is = ap (λ r. a ∷ r) (starts-parts_with ats zs ds is.1)
starts-parts_with [] [] (d ∷ ds) is = absurd is
starts-parts_with [] (z ∷ zs) ds is = absurd is
starts-parts_with (a ∷ ats) [] ds is = absurd is
starts-parts_with (a ∷ ats) (z ∷ zs) [] is = absurd is

pub sizes-parts_with : (ats zs ds : List ℕ) → IsPart ats zs ds → sizes (parts_with ats zs ds) ≡ zs
sizes-parts_with [] [] [] is = refl
sizes-parts_with (a ∷ ats) (z ∷ zs) (d ∷ ds) is = ap (λ r. z ∷ r) (sizes-parts_with ats zs ds is.1)
sizes-parts_with [] [] (d ∷ ds) is = absurd is
sizes-parts_with [] (z ∷ zs) ds is = absurd is
sizes-parts_with (a ∷ ats) [] ds is = absurd is
sizes-parts_with (a ∷ ats) (z ∷ zs) [] is = absurd is

pub dims_of-parts_with : (ats zs ds : List ℕ) → IsPart ats zs ds → dims_of (parts_with ats zs ds) ≡ ds
dims_of-parts_with [] [] [] is = refl
dims_of-parts_with (a ∷ ats) (z ∷ zs) (d ∷ ds) is = ap (λ r. d ∷ r) (dims_of-parts_with ats zs ds is.1)
dims_of-parts_with [] [] (d ∷ ds) is = absurd is
dims_of-parts_with [] (z ∷ zs) ds is = absurd is
dims_of-parts_with (a ∷ ats) [] ds is = absurd is
dims_of-parts_with (a ∷ ats) (z ∷ zs) [] is = absurd is

-- the parts, once the loop is through
pub parts_done : (parts : List Part) (ats zs ds : List ℕ) (k : ℕ) → length ats ≤ k → length parts ≡ length ats → take k parts ++ parts_with (drop k ats) (drop k zs) (drop k ds) ≡ parts_with ats zs ds → parts ≡ parts_with ats zs ds
parts_done parts ats zs ds k over long before =
    let whole : take k parts ≡ parts = take_all k parts (omega arith) in
    let none : parts_with (drop k ats) (drop k zs) (drop k ds) ≡ [] = ap (λ r. parts_with r (drop k zs) (drop k ds)) (drop_all k ats over) in
    sym (append-nil parts) ∙ (rw (whole, none) at before)

-- where a block is not empty, each of its parts begins in it
pub positive_from_part : (at size dims : List ℕ) → IsPart at size dims → 0 < product size → 0 < product dims
positive_from_part [] [] [] is some = omega arith
positive_from_part (a ∷ ats) (z ∷ zs) (d ∷ ds) is some =
    let here : 0 < z = positive_left z (product zs) some in
    let wide : 0 < d = omega (arith, is.0) in
    mul-pos wide (positive_from_part ats zs ds is.1 (positive_right z (product zs) some))
positive_from_part [] [] (d ∷ ds) is some = absurd is
positive_from_part [] (z ∷ zs) ds is some = absurd is
positive_from_part (a ∷ ats) [] ds is some = absurd is
positive_from_part (a ∷ ats) (z ∷ zs) [] is some = absurd is

-- what is known of a part, once its first dimension is taken apart; the part has m numbers, the block n
pub record FirstSplit (first : Part) (rest : List Part) (m n : ℕ) : Type 0 where
  pub part : IsPart (starts rest) (sizes rest) (dims_of rest)
  pub within : first.at + first.size ≤ first.dim
  pub fits : first.at + first.size ≤ n
  pub piece : m ≡ product (first.size ∷ sizes rest)
  pub width : product (dims_of rest) ≡ n / first.dim
  pub whole : n ≡ first.dim * (n / first.dim)
  pub dim : 0 < first.dim

pub first_split : (first : Part) (rest parts : List Part) (m n : ℕ) → parts ≡ first ∷ rest → IsPart (starts parts) (sizes parts) (dims_of parts) → m ≡ product (sizes parts) → n ≡ product (dims_of parts) → 0 < m → FirstSplit first rest m n
first_split first rest parts m n split part piece whole some =
    let all = rw split at part in
    let piece_is : m ≡ first.size * product (sizes rest) = piece ∙ ap (λ p. product (sizes p)) split in
    let whole_is : n ≡ first.dim * product (dims_of rest) = whole ∙ ap (λ p. product (dims_of p)) split in
    let filled : 0 < product (sizes parts) = omega arith in
    let wide : 0 < product (dims_of parts) = positive_from_part (starts parts) (sizes parts) (dims_of parts) part filled in
    let both : 0 < first.dim * product (dims_of rest) = omega arith in
    let dim : 0 < first.dim = positive_left first.dim (product (dims_of rest)) both in
    let inner : 0 < product (dims_of rest) = positive_right first.dim (product (dims_of rest)) both in
    let width : product (dims_of rest) ≡ n / first.dim = rw whole_is (sym (mul-div_cancel_left (product (dims_of rest)) dim)) in
    let more : first.dim ≤ first.dim * product (dims_of rest) = le-mul_of_pos_right first.dim inner in
    record {
      part = all.1;
      within = all.0;
      fits = omega arith;
      piece = piece_is;
      width = width;
      whole = whole_is ∙ ap (λ w. first.dim * w) width;
      dim = dim;
    }

-- how many numbers lie in the rows of the part
pub length-inner : (first : Part) (rest : List Part) (m : ℕ) (block : List ℕ) → FirstSplit first rest m (length block) → length (take ((first.at + first.size) * (length block / first.dim) - first.at * (length block / first.dim)) (drop (first.at * (length block / first.dim)) block)) ≡ first.size * product (dims_of rest)
length-inner first rest m block known =
    let w = length block / first.dim in
    let k : (first.at + first.size) * w - first.at * w ≡ first.size * w = omega arith in
    let upto : (first.at + first.size) * w ≤ first.dim * w = mul-le-mul_right w known.within in
    let filled : length block ≡ first.dim * w = known.whole in
    length-take-le ((first.at + first.size) * w - first.at * w) (drop (first.at * w) block) (omega (arith, length-drop (first.at * w) block)) ∙ k ∙ ap (λ v. first.size * v) (sym known.width)

-- the numbers of one of so many rows
pub row_of : (count n m : ℕ) → m ≡ count * n → 0 < m → n ≡ m / count
row_of count n m is some =
    let filled : 0 < count * n = omega arith in
    let any : 0 < count = positive_left count n filled in
    rw is (sym (mul-div_cancel_left n any))

-- where the part is not empty, the block is not
pub rows_some : (count : ℕ) (rest : List Part) (m n : ℕ) → IsPart (starts rest) (sizes rest) (dims_of rest) → m ≡ product (count ∷ sizes rest) → n ≡ product (count ∷ dims_of rest) → 0 < m → 0 < n
rows_some count rest m n part piece whole some =
    let filled : 0 < count * product (sizes rest) = omega arith in
    let inner : 0 < product (dims_of rest) = positive_from_part (starts rest) (sizes rest) (dims_of rest) part (positive_right count (product (sizes rest)) filled) in
    rw whole (mul-pos (positive_left count (product (sizes rest)) filled) inner)
