-- Lemmas on a part that is put in row by row.
use Rattle.std.proofs.Common.{◌≡◌, ℕ, ◌+◌, ◌-◌, ◌*◌, ◌/◌, ◌<◌, ◌≤◌, Bool, true, false, cond, ◌&&◌, nat_le, nat_lt, List, [], ◌∷◌, ◌++◌, length, get_or, take, drop, ap, sym, ◌∙◌, refl, arith}
use Rattle.std.proofs.Math.Nat.{mul-le-mul_right}
use Rattle.std.proofs.lemmas.Bool.{ltb-true, leb-true, lt-ltb, le-leb, le-ltb, lt-leb, and_parts}
use Rattle.std.proofs.lemmas.List.{length-drop, length-take-le, get_or-take, get_or-drop}
use Rattle.kernel_permute.specs.declared.how.How.{How}
use Rattle.kernel_permute.specs.declared.part.Part.{Part}
use Rattle.kernel_permute.specs.How.{combined}
use Rattle.kernel_permute.specs.Inserting.{is_in_part, unshifted, put, inserted}
use Rattle.kernel_permute.specs.Parts.{starts, sizes, dims_of}
use Rattle.kernel_permute.specs.Positions.{IsPosition, product, place, positions, each_number}
use Rattle.kernel_permute.specs.Strided.{met}
use Rattle.kernel_permute.proofs.PartsLemmas.{FirstSplit}
use Rattle.std.proofs.lemmas.Slice.{take-put_mid, drop-put_mid}
use borrow.Rule.Slice.PartMut.{put_mid}
use Rattle.kernel_permute.proofs.PositionsLemmas.{zipped-same, rows-kept, rows-shifted, rows_turn, rows_done, rows, rows-append, each_number-kept, each_number-same}

-- a position in the part stands for one of the source's
pub place_within : (at size x : List ℕ) → is_in_part at size x ≡ true → place size (unshifted at x) < product size
place_within [] [] [] is = omega arith
place_within [] [] (x ∷ xs) is = absurd cc
place_within [] (z ∷ zs) xs is = absurd cc
place_within (a ∷ ats) [] xs is = absurd cc
place_within (a ∷ ats) (z ∷ zs) [] is = absurd cc
place_within (a ∷ ats) (z ∷ zs) (x ∷ xs) is =
    let parts = and_parts (nat_le a x && nat_lt x (a + z)) (is_in_part ats zs xs) is in
    let ends = and_parts (nat_le a x) (nat_lt x (a + z)) parts.0 in
    let from_a : a ≤ x = leb-true a x ends.0 in
    let below : x < a + z = ltb-true x (a + z) ends.1 in
    let inside : (x - a) + 1 ≤ z = omega arith in
    let rest : place zs (unshifted ats xs) < product zs = place_within ats zs xs parts.1 in
    let upto : ((x - a) + 1) * product zs ≤ z * product zs = mul-le-mul_right (product zs) inside in
    omega arith

-- in row i of the part the same numbers are met as in a part of the source's row i
put-row : (how : How) (z i m : ℕ) (size from at ys : List ℕ) (x : ℕ) → i < z → product size ≡ m → put how size (take m (drop (i * m) from)) at ys x ≡ put how (z ∷ size) from (0 ∷ at) (i ∷ ys) x
put-row how z i m size from at ys x below wide =
    let first : nat_le 0 i ≡ true = le-leb 0 i (omega arith) in
    let second : nat_lt i (0 + z) ≡ true = lt-ltb i (0 + z) (omega arith) in
    let none : i - 0 ≡ i = omega arith in
    rw (first, second, none, wide) (inner (is_in_part at size ys) refl)
  where
    inner : (b : Bool) → is_in_part at size ys ≡ b → cond b (combined how x (get_or (take m (drop (i * m) from)) (place size (unshifted at ys)) 0)) x ≡ cond b (combined how x (get_or from (i * m + place size (unshifted at ys)) 0)) x
    inner false is = refl
    inner true is =
        let within : place size (unshifted at ys) < m = (rw wide at (place_within at size ys is)) in
        ap (λ v. combined how x v) (get_or-take m (drop (i * m) from) (place size (unshifted at ys)) 0 within ∙ get_or-drop (i * m) from (place size (unshifted at ys)) 0)

put-shifted : (how : How) (a z i : ℕ) (size from at ys : List ℕ) (x : ℕ) → i < z → put how (z ∷ size) from (a ∷ at) ((a + i) ∷ ys) x ≡ put how (z ∷ size) from (0 ∷ at) (i ∷ ys) x
put-shifted how a z i size from at ys x below =
    let one : nat_le a (a + i) ≡ true = le-leb a (a + i) (omega arith) in
    let two : nat_lt (a + i) (a + z) ≡ true = lt-ltb (a + i) (a + z) (omega arith) in
    let three : nat_le 0 i ≡ true = le-leb 0 i (omega arith) in
    let four : nat_lt i (0 + z) ≡ true = lt-ltb i (0 + z) (omega arith) in
    let left : (a + i) - a ≡ i - 0 = omega arith in
    rw (one, two, three, four, left) refl

put-before : (how : How) (a z i : ℕ) (size from at ys : List ℕ) (x : ℕ) → i < a → put how (z ∷ size) from (a ∷ at) (i ∷ ys) x ≡ x
put-before how a z i size from at ys x before =
    let no : nat_le a i ≡ false = lt-leb a i before in
    rw no refl

put-after : (how : How) (a z i : ℕ) (size from at ys : List ℕ) (x : ℕ) → a + z ≤ i → put how (z ∷ size) from (a ∷ at) (i ∷ ys) x ≡ x
put-after how a z i size from at ys x after =
    let yes : nat_le a i ≡ true = le-leb a i (omega arith) in
    let no : nat_lt i (a + z) ≡ false = le-ltb i (a + z) after in
    rw (yes, no) refl

-- the rows of the part lie between rows that stay
pub insert_is : (how : How) (a z r w : ℕ) (size from at dims old inner new : List ℕ) → product dims ≡ w → length old ≡ (a + (z + r)) * w → inner ≡ inserted how (z ∷ size) from (z ∷ dims) (0 ∷ at) (take ((a + z) * w - a * w) (drop (a * w) old)) → new ≡ put_mid (a * w) ((a + z) * w - a * w) old inner → new ≡ inserted how (z ∷ size) from ((a + (z + r)) ∷ dims) (a ∷ at) old
insert_is how a z r w size from at dims old inner new e long is written =
    let k : (a + z) * w - a * w ≡ z * w = omega arith in
    let begin : 0 + a ≡ a = omega arith in
    let again : a + 0 ≡ a = omega arith in
    let f = put how (z ∷ size) from (a ∷ at) in
    let g = put how (z ∷ size) from (0 ∷ at) in
    let past = drop (a * w) old in
    let past_long : length past ≡ (z + r) * w = length-drop (a * w) old ∙ omega arith in
    let head_long : length (take (a * w) old) ≡ a * w = length-take-le (a * w) old (omega arith) in
    let tail_long : length (drop (z * w) past) ≡ r * w = length-drop (z * w) past ∙ omega arith in
    let head : rows f dims 0 a (take (a * w) old) ≡ take (a * w) old = rows-kept f dims w 0 a (take (a * w) old) e (λ i ys x low high. put-before how a z i size from at ys x (omega arith)) head_long in
    let tail : rows f dims (a + z) r (drop (z * w) past) ≡ drop (z * w) past = rows-kept f dims w (a + z) r (drop (z * w) past) e (λ i ys x low high. put-after how a z i size from at ys x low) tail_long in
    let middle : rows f dims (a + 0) z (take (z * w) past) ≡ rows g dims 0 z (take (z * w) past) = rows-shifted f g dims w a 0 z z (take (z * w) past) e (omega arith) (λ i ys x below. put-shifted how a z i size from at ys x below) in
    let inner_is : inner ≡ rows g dims 0 z (take (z * w) past) = is ∙ ap (λ n. rows g dims 0 z (take n past)) k in
    let part : rows f dims a z (take (z * w) past) ≡ inner = ap (λ s. rows f dims s z (take (z * w) past)) (sym again) ∙ middle ∙ sym inner_is in
    let second : rows f dims (0 + a) (z + r) past ≡ inner ++ drop (z * w) past = ap (λ s. rows f dims s (z + r) past) begin ∙ rows-append f dims w a z r past e ∙ ap (λ t. rows f dims a z (take (z * w) past) ++ t) tail ∙ ap (λ t. t ++ drop (z * w) past) part in
    let whole : rows f dims 0 (a + (z + r)) old ≡ take (a * w) old ++ (inner ++ drop (z * w) past) = rows-append f dims w 0 a (z + r) old e ∙ ap (λ t. rows f dims 0 a (take (a * w) old) ++ t) second ∙ ap (λ t. t ++ (inner ++ drop (z * w) past)) head in
    written ∙ ap (λ n. put_mid (a * w) n old inner) k ∙ sym whole

-- one turn of the loop over the rows
pub insert_turn : (how : How) (count i m w : ℕ) (size from at dims old part new all : List ℕ) → product size ≡ m → product dims ≡ w → i < count → length old ≡ count * w → length part ≡ length (take ((i + 1) * w - i * w) (drop (i * w) old)) → part ≡ inserted how size (take ((i + 1) * m - i * m) (drop (i * m) from)) dims at (take ((i + 1) * w - i * w) (drop (i * w) old)) → new ≡ put_mid (i * w) ((i + 1) * w - i * w) old part → take (i * w) old ++ rows (put how (count ∷ size) from (0 ∷ at)) dims i (count - i) (drop (i * w) old) ≡ all → take ((i + 1) * w) new ++ rows (put how (count ∷ size) from (0 ∷ at)) dims (i + 1) (count - (i + 1)) (drop ((i + 1) * w) new) ≡ all
insert_turn how count i m w size from at dims old part new all source width below long same_length is written before =
    let whole : (i + 1) * w - i * w ≡ w = omega arith in
    let piece : (i + 1) * m - i * m ≡ m = omega arith in
    let upto : (i + 1) * w ≤ count * w = mul-le-mul_right w (let le : i + 1 ≤ count = omega arith in le) in
    let part_long : length part ≡ w = same_length ∙ length-take-le ((i + 1) * w - i * w) (drop (i * w) old) (omega (arith, length-drop (i * w) old)) ∙ whole in
    let here = put how (count ∷ size) from (0 ∷ at) in
    let part_is : part ≡ each_number (λ ys. here (i ∷ ys)) dims (take w (drop (i * w) old)) = is ∙ ap (λ n. inserted how size (take n (drop (i * m) from)) dims at (take ((i + 1) * w - i * w) (drop (i * w) old))) piece ∙ ap (λ n. inserted how size (take m (drop (i * m) from)) dims at (take n (drop (i * w) old))) whole ∙ zipped-same (put how size (take m (drop (i * m) from)) at) (λ ys. here (i ∷ ys)) (λ ys x. put-row how count i m size from at ys x below source) (positions dims) (take w (drop (i * w) old)) in
    let front : take ((i + 1) * w) new ≡ take (i * w) old ++ part = ap (take ((i + 1) * w)) written ∙ take-put_mid (i * w) ((i + 1) * w - i * w) old part ((i + 1) * w) (omega arith) (omega arith) in
    let back : drop ((i + 1) * w) new ≡ drop ((i + 1) * w) old = ap (drop ((i + 1) * w)) written ∙ drop-put_mid (i * w) ((i + 1) * w - i * w) old part ((i + 1) * w) (omega arith) (omega arith) (omega arith) in
    rows_turn here dims w count i old new part all width below part_is front back before

-- a row that is put in whole
pub insert_row : (how : How) (n count : ℕ) (from old : List ℕ) → n ≡ count → each_number (met how from 0 (1 ∷ [])) (n ∷ []) old ≡ inserted how (count ∷ []) from (count ∷ []) (0 ∷ []) old
insert_row how n count from old e = ap (λ k. each_number (met how from 0 (1 ∷ [])) (k ∷ []) old) e ∙ each_number-same (met how from 0 (1 ∷ [])) (put how (count ∷ []) from (0 ∷ [])) (count ∷ []) old same
  where
    same : (y : List ℕ) (x : ℕ) → IsPosition (count ∷ []) y → met how from 0 (1 ∷ []) y x ≡ put how (count ∷ []) from (0 ∷ []) y x
    same [] x is = absurd is
    same (y ∷ (z ∷ zs)) x is = absurd is.1
    same (y ∷ []) x is =
        let low : nat_le 0 y ≡ true = le-leb 0 y (omega arith) in
        let high : nat_lt y (0 + count) ≡ true = lt-ltb y (0 + count) (omega arith) in
        let none : 0 + (y * 1 + 0) ≡ (y - 0) * 1 + 0 = omega arith in
        rw (low, high, none) refl

-- the first dimension's part, put in
pub insert_first : (how : How) (first : Part) (rest parts : List Part) (from to inner new : List ℕ) → parts ≡ first ∷ rest → FirstSplit first rest (length from) (length to) → inner ≡ inserted how (first.size ∷ sizes rest) from (first.size ∷ dims_of rest) (0 ∷ starts rest) (take ((first.at + first.size) * (length to / first.dim) - first.at * (length to / first.dim)) (drop (first.at * (length to / first.dim)) to)) → new ≡ put_mid (first.at * (length to / first.dim)) ((first.at + first.size) * (length to / first.dim) - first.at * (length to / first.dim)) to inner → new ≡ inserted how (sizes parts) from (dims_of parts) (starts parts) to
insert_first how first rest parts from to inner new split known is written =
    let within = known.within in
    let parted : first.dim ≡ first.at + (first.size + (first.dim - (first.at + first.size))) = omega arith in
    insert_is how first.at first.size (first.dim - (first.at + first.size)) (length to / first.dim) (sizes rest) from (starts rest) (dims_of rest) to inner new known.width (known.whole ∙ ap (λ d. d * (length to / first.dim)) parted) is written
    ∙ ap (λ d. inserted how (first.size ∷ sizes rest) from (d ∷ dims_of rest) (first.at ∷ starts rest) to) (sym parted)
    ∙ ap (λ p. inserted how (sizes p) from (dims_of p) (starts p) to) (sym split)

-- a row, with the source in its middle
pub insert_row_is : (how : How) (a z d n : ℕ) (from old inner new : List ℕ) → a + z ≤ d → length old ≡ d → n ≡ length (take (a + z - a) (drop a old)) → inner ≡ each_number (met how from 0 (1 ∷ [])) (n ∷ []) (take (a + z - a) (drop a old)) → new ≡ put_mid a (a + z - a) old inner → new ≡ inserted how (z ∷ []) from (d ∷ []) (a ∷ []) old
insert_row_is how a z d n from old inner new within long count is written =
    let r = d - (a + z) in
    let parted : d ≡ a + (z + r) = omega arith in
    let one : a ≡ a * 1 = omega arith in
    let k : a + z - a ≡ (a + z) * 1 - a * 1 = omega arith in
    let middle : take (a + z - a) (drop a old) ≡ take ((a + z) * 1 - a * 1) (drop (a * 1) old) = ap (λ m. take m (drop a old)) k ∙ ap (λ m. take ((a + z) * 1 - a * 1) (drop m old)) one in
    let full : n ≡ z = count ∙ length-take-le (a + z - a) (drop a old) (omega (arith, length-drop a old)) ∙ omega arith in
    let inner_is : inner ≡ inserted how (z ∷ []) from (z ∷ []) (0 ∷ []) (take ((a + z) * 1 - a * 1) (drop (a * 1) old)) = is ∙ insert_row how n z from (take (a + z - a) (drop a old)) full ∙ ap (inserted how (z ∷ []) from (z ∷ []) (0 ∷ [])) middle in
    let new_is : new ≡ put_mid (a * 1) ((a + z) * 1 - a * 1) old inner = written ∙ ap (λ m. put_mid a m old inner) k ∙ ap (λ m. put_mid m ((a + z) * 1 - a * 1) old inner) one in
    insert_is how a z r 1 [] from [] [] old inner new refl (long ∙ omega arith) inner_is new_is ∙ ap (λ m. inserted how (z ∷ []) from (m ∷ []) (a ∷ []) old) (sym parted)

-- after the last row the part is in
pub insert_done : (how : How) (count i w : ℕ) (size from at dims old all : List ℕ) → count ≤ i → length old ≡ count * w → take (i * w) old ++ rows (put how (count ∷ size) from (0 ∷ at)) dims i (count - i) (drop (i * w) old) ≡ all → old ≡ all
insert_done how count i w size from at dims old all over long before =
    let upto : count * w ≤ i * w = mul-le-mul_right w over in
    rows_done (put how (count ∷ size) from (0 ∷ at)) dims (i * w) count i old all over (omega arith) before

-- a part with no number changes nothing
pub inserted_none : (how : How) (size from dims at old : List ℕ) → product size ≡ 0 → length old ≡ product dims → old ≡ inserted how size from dims at old
inserted_none how size from dims at old none long = sym (each_number-kept (put how size from at) dims old (λ p x. outside p x (is_in_part at size p) refl) long)
  where
    outside : (p : List ℕ) (x : ℕ) (b : Bool) → is_in_part at size p ≡ b → cond b (combined how x (get_or from (place size (unshifted at p)) 0)) x ≡ x
    outside p x false is = refl
    outside p x true is = let within : place size (unshifted at p) < product size = place_within at size p is in absurd (omega arith)
