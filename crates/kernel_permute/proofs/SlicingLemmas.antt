-- Lemmas on a part that is taken out row by row.
use Rattle.std.proofs.Common.{◌≡◌, ℕ, ◌+◌, ◌-◌, ◌*◌, ◌/◌, ◌<◌, ◌≤◌, List, [], ◌∷◌, ◌++◌, length, get_or, take, drop, ap, sym, ◌∙◌, arith}
use Rattle.std.proofs.Math.Nat.{mul-le-mul_right}
use Rattle.std.proofs.lemmas.List.{get_or-drop, get_or-take, length-drop, length-take-le}
use Rattle.std.proofs.lemmas.Slice.{drop-put_mid, take-put_mid}
use borrow.Rule.Slice.PartMut.{put_mid}
use Rattle.kernel_permute.specs.declared.how.How.{How}
use Rattle.kernel_permute.specs.declared.part.Part.{Part}
use Rattle.kernel_permute.specs.How.{combined}
use Rattle.kernel_permute.specs.Parts.{dims_of, sizes, starts}
use Rattle.kernel_permute.specs.Positions.{IsPosition, each_number, place, positions, product}
use Rattle.kernel_permute.specs.Slicing.{IsPart, shifted, sliced}
use Rattle.kernel_permute.specs.Strided.{met}
use Rattle.kernel_permute.proofs.PartsLemmas.{FirstSplit}
use Rattle.kernel_permute.proofs.PositionsLemmas.{each_number-same, rows, rows_done, rows_turn, zipped-nil}

-- a part with no number stays so
pub sliced_none : (how : How) (dims at size from old : List ℕ) → length old ≡ 0 → old ≡ sliced how dims at size from old
sliced_none how dims at size from [] none = sym (zipped-nil (λ y x. combined how x (get_or from (place dims (shifted at y)) 0)) (positions size))
sliced_none how dims at size from (x ∷ xs) none = absurd (omega arith)

-- the number at y, once it has met the source's at `at + y`
abbrev pub taken : How → List ℕ → List ℕ → List ℕ → List ℕ → ℕ → ℕ
taken how dims at from y number = combined how number (get_or from (place dims (shifted at y)) 0)

-- a position in the part stands for one of the source's
pub shifted_below : (at size dims y : List ℕ) → IsPart at size dims → IsPosition size y → place dims (shifted at y) < product dims
shifted_below [] [] [] [] is inside = omega arith
shifted_below [] [] [] (y ∷ ys) is inside = absurd inside
shifted_below (a ∷ ats) (z ∷ zs) (d ∷ ds) [] is inside = absurd inside
shifted_below (a ∷ ats) (z ∷ zs) (d ∷ ds) (y ∷ ys) is inside =
    let rest : place ds (shifted ats ys) < product ds = shifted_below ats zs ds ys is.1 inside.1 in
    let below : a + y + 1 ≤ d = omega (arith, is.0, inside.0) in
    let upto : (a + y + 1) * product ds ≤ d * product ds = mul-le-mul_right (product ds) below in
    omega arith
shifted_below [] [] (d ∷ ds) y is inside = absurd is
shifted_below [] (z ∷ zs) ds y is inside = absurd is
shifted_below (a ∷ ats) [] ds y is inside = absurd is
shifted_below (a ∷ ats) (z ∷ zs) [] y is inside = absurd is

-- in row i of the source the same numbers are met as in the whole source
taken-row : (how : How) (c i w : ℕ) (dims at size from y : List ℕ) (x : ℕ) → IsPart at size dims → product dims ≡ w → IsPosition size y → taken how dims at (take w (drop (i * w) from)) y x ≡ taken how (c ∷ dims) (0 ∷ at) from (i ∷ y) x
taken-row how c i w dims at size from y x is wide inside =
    let p = place dims (shifted at y) in
    let within : p < w = rw wide at (shifted_below at size dims y is inside) in
    let here : i * w + p ≡ (0 + i) * product dims + p = ap (λ n. n * w + p) (let k : i ≡ 0 + i = omega arith in k) ∙ ap (λ n. (0 + i) * n + p) (sym wide) in
    ap (λ v. combined how x v) (get_or-take w (drop (i * w) from) p 0 within ∙ get_or-drop (i * w) from p 0 ∙ ap (λ k. get_or from k 0) here)

-- one turn of the loop over the rows
pub slice_turn : (how : How) (count i w m : ℕ) (dims at size from old part new all : List ℕ) → IsPart at size dims → product dims ≡ w → product size ≡ m → i < count → length old ≡ count * m → length part ≡ length (take ((i + 1) * m - i * m) (drop (i * m) old)) → part ≡ sliced how dims at size (take ((i + 1) * w - i * w) (drop (i * w) from)) (take ((i + 1) * m - i * m) (drop (i * m) old)) → new ≡ put_mid (i * m) ((i + 1) * m - i * m) old part → take (i * m) old ++ rows (taken how (count ∷ dims) (0 ∷ at) from) size i (count - i) (drop (i * m) old) ≡ all → take ((i + 1) * m) new ++ rows (taken how (count ∷ dims) (0 ∷ at) from) size (i + 1) (count - (i + 1)) (drop ((i + 1) * m) new) ≡ all
slice_turn how count i w m dims at size from old part new all within source piece below long same_length is written before =
    let whole : (i + 1) * m - i * m ≡ m = omega arith in
    let wide : (i + 1) * w - i * w ≡ w = omega arith in
    let upto : (i + 1) * m ≤ count * m = mul-le-mul_right m (let le : i + 1 ≤ count = omega arith in le) in
    let part_long : length part ≡ m = same_length ∙ length-take-le ((i + 1) * m - i * m) (drop (i * m) old) (omega (arith, length-drop (i * m) old)) ∙ whole in
    let here = taken how (count ∷ dims) (0 ∷ at) from in
    let part_is : part ≡ each_number (λ y. here (i ∷ y)) size (take m (drop (i * m) old)) = is ∙ ap (λ n. sliced how dims at size (take n (drop (i * w) from)) (take ((i + 1) * m - i * m) (drop (i * m) old))) wide ∙ ap (λ n. sliced how dims at size (take w (drop (i * w) from)) (take n (drop (i * m) old))) whole ∙ each_number-same (taken how dims at (take w (drop (i * w) from))) (λ y. here (i ∷ y)) size (take m (drop (i * m) old)) (λ y x inside. taken-row how count i w dims at size from y x within source inside) in
    let front : take ((i + 1) * m) new ≡ take (i * m) old ++ part = ap (take ((i + 1) * m)) written ∙ take-put_mid (i * m) ((i + 1) * m - i * m) old part ((i + 1) * m) (omega arith) (omega arith) in
    let back : drop ((i + 1) * m) new ≡ drop ((i + 1) * m) old = ap (drop ((i + 1) * m)) written ∙ drop-put_mid (i * m) ((i + 1) * m - i * m) old part ((i + 1) * m) (omega arith) (omega arith) (omega arith) in
    rows_turn here size m count i old new part all piece below part_is front back before

-- after the last row the part is out
pub slice_done : (how : How) (count i m : ℕ) (dims at size from old all : List ℕ) → count ≤ i → length old ≡ count * m → take (i * m) old ++ rows (taken how (count ∷ dims) (0 ∷ at) from) size i (count - i) (drop (i * m) old) ≡ all → old ≡ all
slice_done how count i m dims at size from old all over long before =
    let upto : count * m ≤ i * m = mul-le-mul_right m over in
    rows_done (taken how (count ∷ dims) (0 ∷ at) from) size (i * m) count i old all over (omega arith) before

-- the part of the rows that begin there is the part of the block
pub slice_is : (how : How) (a z d w : ℕ) (dims at size from old : List ℕ) → IsPart at size dims → product dims ≡ w → sliced how (z ∷ dims) (0 ∷ at) (z ∷ size) (take ((a + z) * w - a * w) (drop (a * w) from)) old ≡ sliced how (d ∷ dims) (a ∷ at) (z ∷ size) from old
slice_is how a z d w dims at size from old is wide =
    each_number-same (taken how (z ∷ dims) (0 ∷ at) (take ((a + z) * w - a * w) (drop (a * w) from))) (taken how (d ∷ dims) (a ∷ at) from) (z ∷ size) old same
  where
    same : (y : List ℕ) (x : ℕ) → IsPosition (z ∷ size) y → taken how (z ∷ dims) (0 ∷ at) (take ((a + z) * w - a * w) (drop (a * w) from)) y x ≡ taken how (d ∷ dims) (a ∷ at) from y x
    same [] x inside = absurd inside
    same (y ∷ ys) x inside =
        let p = place dims (shifted at ys) in
        let below : p < w = rw wide at (shifted_below at size dims ys is inside.1) in
        let row : y + 1 ≤ z = omega (arith, inside.0) in
        let upto : (y + 1) * w ≤ z * w = mul-le-mul_right w row in
        let reach : (a + z) * w - a * w ≡ z * w = omega arith in
        let begin : (0 + y) * product dims + p ≡ y * w + p = ap (λ n. (0 + y) * n + p) wide ∙ ap (λ n. n * w + p) (let k : 0 + y ≡ y = omega arith in k) in
        let apart : a * w + (y * w + p) ≡ (a + y) * w + p = omega arith in
        let within : y * w + p < (a + z) * w - a * w = omega arith in
        ap (λ v. combined how x v) (ap (λ k. get_or (take ((a + z) * w - a * w) (drop (a * w) from)) k 0) begin ∙ get_or-take ((a + z) * w - a * w) (drop (a * w) from) (y * w + p) 0 within ∙ get_or-drop (a * w) from (y * w + p) 0 ∙ ap (λ k. get_or from k 0) (apart ∙ ap (λ n. (a + y) * n + p) (sym wide)))

-- a row, taken out of the middle of the source
pub slice_row_is : (how : How) (a z d n : ℕ) (from old : List ℕ) → n ≡ z → each_number (met how (take (a + z - a) (drop a from)) 0 (1 ∷ [])) (n ∷ []) old ≡ sliced how (d ∷ []) (a ∷ []) (z ∷ []) from old
slice_row_is how a z d n from old full = ap (λ k. each_number (met how (take (a + z - a) (drop a from)) 0 (1 ∷ [])) (k ∷ []) old) full ∙ each_number-same (met how (take (a + z - a) (drop a from)) 0 (1 ∷ [])) (taken how (d ∷ []) (a ∷ []) from) (z ∷ []) old same
  where
    same : (y : List ℕ) (x : ℕ) → IsPosition (z ∷ []) y → met how (take (a + z - a) (drop a from)) 0 (1 ∷ []) y x ≡ taken how (d ∷ []) (a ∷ []) from y x
    same [] x inside = absurd inside
    same (y ∷ (u ∷ us)) x inside = absurd inside.1
    same (y ∷ []) x inside =
        let at : 0 + (y * 1 + 0) ≡ y = omega arith in
        let within : y < a + z - a = omega (arith, inside.0) in
        let begin : a + y ≡ (a + y) * 1 + 0 = omega arith in
        ap (λ v. combined how x v) (ap (λ k. get_or (take (a + z - a) (drop a from)) k 0) at ∙ get_or-take (a + z - a) (drop a from) y 0 within ∙ get_or-drop a from y 0 ∙ ap (λ k. get_or from k 0) begin)

-- the first dimension's part, taken out
pub slice_first : (how : How) (first : Part) (rest parts : List Part) (from to new : List ℕ) → parts ≡ first ∷ rest → FirstSplit first rest (length to) (length from) → new ≡ sliced how (first.size ∷ dims_of rest) (0 ∷ starts rest) (first.size ∷ sizes rest) (take ((first.at + first.size) * (length from / first.dim) - first.at * (length from / first.dim)) (drop (first.at * (length from / first.dim)) from)) to → new ≡ sliced how (dims_of parts) (starts parts) (sizes parts) from to
slice_first how first rest parts from to new split known is =
    is
    ∙ slice_is how first.at first.size first.dim (length from / first.dim) (dims_of rest) (starts rest) (sizes rest) from to known.part known.width
    ∙ ap (λ p. sliced how (dims_of p) (starts p) (sizes p) from to) (sym split)
