-- Lemmas on numbers read along strides.
use Rattle.std.proofs.Common.{◌≡◌, ℕ, suc, ◌+◌, ◌-◌, ◌*◌, ◌/◌, ◌<◌, ◌≤◌, List, [], ◌∷◌, ◌++◌, length, get_or, take, drop, set, sym, ◌∙◌, ap, refl, add_assoc, append_assoc, arith}
use Rattle.std.proofs.lemmas.List.{length-drop, length-take-le, take_more_set, drop-set-lt, drop_more}
use Rattle.std.proofs.Math.Nat.{mul-le-mul_right, mul-div_cancel_left}
use Rattle.std.proofs.lemmas.Slice.{take-put_mid, drop-put_mid}
use borrow.Rule.Slice.PartMut.{put_mid}
use Rattle.kernel_permute.specs.declared.axis.Axis.{Axis}
use Rattle.kernel_permute.specs.declared.how.How.{How}
use Rattle.kernel_permute.specs.How.{combined}
use Rattle.kernel_permute.specs.Positions.{product, along, each_number, positions}
use Rattle.kernel_permute.specs.Strided.{lengths, strides, met}
use Rattle.kernel_permute.proofs.ProductLemmas.{positive_left}
use Rattle.kernel_permute.proofs.PositionsLemmas.{rows, rows_turn, rows_done, zipped-same}

-- in a row that begins further along, the same numbers are met
met-row : (how : How) (from : List ℕ) (base s : ℕ) (ss : List ℕ) (y : ℕ) (ys : List ℕ) (x : ℕ) → met how from (base + y * s) ss ys x ≡ met how from base (s ∷ ss) (y ∷ ys) x
met-row how from base s ss y ys x = ap (λ p. combined how x (get_or from p 0)) (add_assoc base (y * s) (along ss ys))

-- one turn of the loop over the first axis, whose rows have w numbers each
pub read_turn : (how : How) (from : List ℕ) (base w i : ℕ) (first : Axis) (rest axes : List Axis) (old part new all : List ℕ) → axes ≡ first ∷ rest → product (lengths rest) ≡ w → i < first.len → length old ≡ first.len * w → length part ≡ length (take ((i + 1) * w - i * w) (drop (i * w) old)) → part ≡ each_number (met how from (base + i * first.stride) (strides rest)) (lengths rest) (take ((i + 1) * w - i * w) (drop (i * w) old)) → new ≡ put_mid (i * w) ((i + 1) * w - i * w) old part → take (i * w) old ++ rows (met how from base (strides axes)) (lengths rest) i (first.len - i) (drop (i * w) old) ≡ all → take ((i + 1) * w) new ++ rows (met how from base (strides axes)) (lengths rest) (i + 1) (first.len - (i + 1)) (drop ((i + 1) * w) new) ≡ all
read_turn how from base w i first rest axes old part new all split width below long same_length is written before =
    let ends : i * w + w ≡ (i + 1) * w = omega arith in
    let whole : (i + 1) * w - i * w ≡ w = omega arith in
    let upto : (i + 1) * w ≤ first.len * w = mul-le-mul_right w (let le : i + 1 ≤ first.len = omega arith in le) in
    let part_long : length part ≡ w = same_length ∙ length-take-le ((i + 1) * w - i * w) (drop (i * w) old) (omega (arith, length-drop (i * w) old)) ∙ whole in
    let met_here : (ys : List ℕ) (x : ℕ) → met how from (base + i * first.stride) (strides rest) ys x ≡ met how from base (strides axes) (i ∷ ys) x = λ ys x. rw split (met-row how from base first.stride (strides rest) i ys x) in
    let part_is : part ≡ each_number (λ ys. met how from base (strides axes) (i ∷ ys)) (lengths rest) (take w (drop (i * w) old)) = is ∙ ap (λ n. each_number (met how from (base + i * first.stride) (strides rest)) (lengths rest) (take n (drop (i * w) old))) whole ∙ zipped-same (met how from (base + i * first.stride) (strides rest)) (λ ys. met how from base (strides axes) (i ∷ ys)) met_here (positions (lengths rest)) (take w (drop (i * w) old)) in
    let front : take ((i + 1) * w) new ≡ take (i * w) old ++ part = ap (take ((i + 1) * w)) written ∙ take-put_mid (i * w) ((i + 1) * w - i * w) old part ((i + 1) * w) (omega arith) (omega arith) in
    let back : drop ((i + 1) * w) new ≡ drop ((i + 1) * w) old = ap (drop ((i + 1) * w)) written ∙ drop-put_mid (i * w) ((i + 1) * w - i * w) old part ((i + 1) * w) (omega arith) (omega arith) (omega arith) in
    rows_turn (met how from base (strides axes)) (lengths rest) w first.len i old new part all width below part_is front back before

-- one turn of the loop over a row
pub row_turn : (how : How) (from : List ℕ) (base stride len i v : ℕ) (old all : List ℕ) → i < len → length old ≡ len → v ≡ combined how (get_or old i 0) (get_or from (base + i * stride) 0) → take i old ++ rows (met how from base (stride ∷ [])) [] i (len - i) (drop i old) ≡ all → take (i + 1) (set old i v) ++ rows (met how from base (stride ∷ [])) [] (i + 1) (len - (i + 1)) (drop (i + 1) (set old i v)) ≡ all
row_turn how from base stride len i v old all below long is before =
    let left : len - i ≡ suc (len - (i + 1)) = omega arith in
    let inside : i < length old = omega arith in
    let next : i < i + 1 = omega arith in
    let at : base + (i * stride + 0) ≡ base + i * stride = omega arith in
    let step : rows (met how from base (stride ∷ [])) [] i (len - i) (drop i old) ≡ v ∷ rows (met how from base (stride ∷ [])) [] (i + 1) (len - (i + 1)) (drop (i + 1) old) = rw (left, drop_more old i 0 inside, at, ← is) refl in
    rw (take_more_set old i v inside, drop-set-lt (i + 1) old i v next, append_assoc, ← step) before

-- the numbers of one row, by the division that the code does
pub row_width : (first : Axis) (rest axes : List Axis) (n : ℕ) → axes ≡ first ∷ rest → n ≡ product (lengths axes) → 0 < n → product (lengths rest) ≡ n / first.len
row_width first rest axes n split size some =
    let whole : n ≡ first.len * product (lengths rest) = size ∙ ap (λ a. product (lengths a)) split in
    let wide : 0 < first.len = positive_left first.len (product (lengths rest)) (rw whole at some) in
    rw whole (sym (mul-div_cancel_left (product (lengths rest)) wide))

-- all rows together are the block
pub rows_fill : (first : Axis) (rest axes : List Axis) (n : ℕ) → axes ≡ first ∷ rest → n ≡ product (lengths axes) → 0 < n → n ≡ first.len * (n / first.len)
rows_fill first rest axes n split size some = size ∙ ap (λ a. product (lengths a)) split ∙ ap (λ w. first.len * w) (row_width first rest axes n split size some)

-- after the last row the block is done
pub read_done : (how : How) (from : List ℕ) (base w i : ℕ) (first : Axis) (rest axes : List Axis) (old all : List ℕ) → first.len ≤ i → length old ≡ first.len * w → take (i * w) old ++ rows (met how from base (strides axes)) (lengths rest) i (first.len - i) (drop (i * w) old) ≡ all → old ≡ all
read_done how from base w i first rest axes old all over long before =
    let upto : first.len * w ≤ i * w = mul-le-mul_right w over in
    rows_done (met how from base (strides axes)) (lengths rest) (i * w) first.len i old all over (omega arith) before
