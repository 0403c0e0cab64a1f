-- Words of all slots in one list, and the rows that are cut from it.
use Rattle.std.proofs.Common.{◌≡◌, ℕ, zero, suc, ◌+◌, ◌<◌, ◌≤◌, List, [], ◌∷◌, ◌++◌, length, map, get_or, set, take, drop, refl, ap, sym, ◌∙◌, arith, length-append, length-drop, append_assoc}
use Rattle.std.specs.List.{concat}
use Rattle.std.proofs.lemmas.List.{take_at, drop_at, drop-drop, length-take-le, nil_from_length, take-append-drop, map-set, set-get_or, length-map, get_or-map}
use Rattle.block_pool.specs.Memory.{with_front}
use Rattle.block_pool.specs.Cut.{total, cut, begin_of, overlaid, written_back}

-- a write of what is there
pub set_present : {X : Type 0} (xs : List X) (i : ℕ) (d v : X) → get_or xs i d ≡ v → set xs i v ≡ xs
set_present xs i d v e = rw (← e) (set-get_or xs i d)

-- a front keeps the width
pub length-with_front : (old new : List ℕ) → length new ≤ length old → length (with_front old new) ≡ length old
length-with_front old new h = simp (length-append, length-drop) (omega arith)

-- as many rows as widths
pub length-cut : (widths words : List ℕ) → length (cut widths words) ≡ length widths
length-cut [] words = refl
length-cut (width ∷ widths) words = ap suc (length-cut widths (drop width words))

-- joined rows are cut as they were
cut-concat : (rows : List (List ℕ)) → cut (map length rows) (concat rows) ≡ rows
cut-concat [] = refl
cut-concat (row ∷ rows) =
    ap (λ r. r ∷ cut (map length rows) (drop (length row) (row ++ concat rows))) (take_at row (concat rows) (length row) refl)
    ∙ ap (λ r. row ∷ cut (map length rows) r) (drop_at row (concat rows) (length row) refl)
    ∙ ap (λ r. row ∷ r) (cut-concat rows)

-- cut words are joined as they were
pub concat-cut : (widths words : List ℕ) → length words ≡ total widths → concat (cut widths words) ≡ words
concat-cut [] words whole = sym (nil_from_length words whole)
concat-cut (width ∷ widths) words whole =
    ap (λ r. take width words ++ r) (concat-cut widths (drop width words) (length-drop width words ∙ omega (arith, whole))) ∙ take-append-drop width words

-- each row is as wide as asked
pub lengths-cut : (widths words : List ℕ) → length words ≡ total widths → map length (cut widths words) ≡ widths
lengths-cut [] words whole = refl
lengths-cut (width ∷ widths) words whole =
    ap (λ n. n ∷ map length (cut widths (drop width words))) (length-take-le width words (omega (arith, whole)))
    ∙ ap (λ r. width ∷ r) (lengths-cut widths (drop width words) (length-drop width words ∙ omega (arith, whole)))

-- where a row begins
pub begin-cut : (widths words : List ℕ) (slot : ℕ) → length words ≡ total widths → begin_of (cut widths words) slot ≡ total (take slot widths)
begin-cut widths words zero whole = refl
begin-cut [] words (suc slot) whole = refl
begin-cut (width ∷ widths) words (suc slot) whole =
    length-append (take width words) (concat (take slot (cut widths (drop width words))))
    ∙ ap (λ n. n + begin_of (cut widths (drop width words)) slot) (length-take-le width words (omega (arith, whole)))
    ∙ ap (λ n. width + n) (begin-cut widths (drop width words) slot (length-drop width words ∙ omega (arith, whole)))

-- a row stands in the list from there on
pub row-cut : (widths words : List ℕ) (slot : ℕ) → slot < length widths → get_or (cut widths words) slot [] ≡ take (get_or widths slot 0) (drop (total (take slot widths)) words)
row-cut [] words slot within = absurd (omega arith)
row-cut (width ∷ widths) words zero within = refl
row-cut (width ∷ widths) words (suc slot) within =
    row-cut widths (drop width words) slot (omega arith) ∙ ap (take (get_or widths slot 0)) (drop-drop (total (take slot widths)) width words)

-- so wide is it
pub width-cut : (widths words : List ℕ) (slot : ℕ) → length words ≡ total widths → slot < length widths → length (get_or (cut widths words) slot []) ≡ get_or widths slot 0
width-cut widths words slot whole within =
    sym (get_or-map length (cut widths words) slot [] 0 (omega (arith, length-cut widths words))) ∙ ap (λ ws. get_or ws slot 0) (lengths-cut widths words whole)

-- a row ends before a later one begins
pub total_apart : (widths : List ℕ) (i j : ℕ) → i < j → j < length widths → total (take i widths) + get_or widths i 0 ≤ total (take j widths)
total_apart [] i j before within = absurd (omega arith)
total_apart (width ∷ widths) zero zero before within = absurd (omega arith)
total_apart (width ∷ widths) (suc i) zero before within = absurd (omega arith)
total_apart (width ∷ widths) zero (suc j) before within = omega arith
total_apart (width ∷ widths) (suc i) (suc j) before within = omega (arith, total_apart widths i j (omega arith) (omega arith))

-- and within the list
pub total_within : (widths : List ℕ) (i : ℕ) → i < length widths → total (take i widths) + get_or widths i 0 ≤ total widths
total_within [] i within = absurd (omega arith)
total_within (width ∷ widths) zero within = omega arith
total_within (width ∷ widths) (suc i) within = omega (arith, total_within widths i (omega arith))

-- all rows have as many words as the list
length-concat : (rows : List (List ℕ)) → length (concat rows) ≡ total (map length rows)
length-concat [] = refl
length-concat (row ∷ rows) = length-append row (concat rows) ∙ ap (λ n. length row + n) (length-concat rows)

-- a front of two lists
take_past : (xs ys zs : List ℕ) → take (length (xs ++ ys)) (xs ++ zs) ≡ xs ++ take (length ys) zs
take_past [] ys zs = refl
take_past (x ∷ xs) ys zs = ap (λ r. x ∷ r) (take_past xs ys zs)

-- what stands behind it
drop_past : (xs ys zs : List ℕ) → drop (length (xs ++ ys)) (xs ++ zs) ≡ drop (length ys) zs
drop_past [] ys zs = refl
drop_past (x ∷ xs) ys zs = drop_past xs ys zs

-- other words in one row
concat-set : (rows : List (List ℕ)) (slot : ℕ) (ws : List ℕ) → slot < length rows
    → concat (set rows slot ws) ≡ take (begin_of rows slot) (concat rows) ++ (ws ++ drop (length (get_or rows slot [])) (drop (begin_of rows slot) (concat rows)))
concat-set [] slot ws within = absurd (omega arith)
concat-set (row ∷ rows) zero ws within = ap (λ r. ws ++ r) (sym (drop_at row (concat rows) (length row) refl))
concat-set (row ∷ rows) (suc slot) ws within =
    let front = take_past row (concat (take slot rows)) (concat rows) in
    let back = drop_past row (concat (take slot rows)) (concat rows) in
    rw (front, back) (simp append_assoc (ap (λ r. row ++ r) (concat-set rows slot ws (omega arith))))

-- other words of the same count leave the widths
lengths-set : (rows : List (List ℕ)) (slot : ℕ) (ws : List ℕ) → slot < length rows → length ws ≡ length (get_or rows slot []) → map length (set rows slot ws) ≡ map length rows
lengths-set rows slot ws within same =
    map-set length rows slot ws ∙ set_present (map length rows) slot 0 (length ws) (get_or-map length rows slot [] 0 within ∙ sym same)

-- as many rows as before, whatever was lent
pub length-written_back : (rows : List (List ℕ)) (slot : ℕ) (ws : List ℕ) → length (written_back rows slot ws) ≡ length rows
length-written_back rows slot ws = length-cut (map length rows) (overlaid (concat rows) (begin_of rows slot) ws) ∙ length-map rows length

-- as many words as a row has are its new words
pub written_back_is : (rows : List (List ℕ)) (slot : ℕ) (ws : List ℕ) → slot < length rows → length ws ≡ length (get_or rows slot []) → written_back rows slot ws ≡ set rows slot ws
written_back_is rows slot ws within same =
    let flat : List ℕ = concat rows in
    let begin : ℕ = begin_of rows slot in
    let lengths : map length (set rows slot ws) ≡ map length rows = lengths-set rows slot ws within same in
    let over : List ℕ = take begin flat ++ (ws ++ drop (length ws) (drop begin flat)) in
    let joined : concat (set rows slot ws) ≡ over = concat-set rows slot ws within ∙ ap (λ n. take begin flat ++ (ws ++ drop n (drop begin flat))) (sym same) in
    let many : length over ≡ length flat = ap length (sym joined) ∙ (length-concat (set rows slot ws) ∙ (ap total lengths ∙ sym (length-concat rows))) in
    let whole : overlaid flat begin ws ≡ over = take_at over (drop (length over) flat) (length flat) many in
    ap (cut (map length rows)) (whole ∙ sym joined) ∙ (ap (λ ns. cut ns (concat (set rows slot ws))) (sym lengths) ∙ cut-concat (set rows slot ws))

-- the words of a row were written over in the list
pub cut-overlaid : (widths words : List ℕ) (slot : ℕ) (ws : List ℕ) → length words ≡ total widths
    → cut widths (overlaid words (total (take slot widths)) ws) ≡ written_back (cut widths words) slot ws
cut-overlaid widths words slot ws whole = sym (rw (lengths-cut widths words whole, concat-cut widths words whole, begin-cut widths words slot whole) refl)

-- words of the list with others of the same count at a row's place
pub cut_written : (widths words : List ℕ) (slot : ℕ) (ws : List ℕ) → length words ≡ total widths → slot < length widths → length ws ≡ get_or widths slot 0
    → cut widths (take (total (take slot widths)) words ++ (ws ++ drop (length ws) (drop (total (take slot widths)) words))) ≡ set (cut widths words) slot ws
cut_written widths words slot ws whole within same =
    let rows : List (List ℕ) = cut widths words in
    let low : slot < length rows = omega (arith, length-cut widths words) in
    let wide : length ws ≡ length (get_or rows slot []) = same ∙ sym (width-cut widths words slot whole within) in
    let lengths : map length (set rows slot ws) ≡ widths = lengths-set rows slot ws low wide ∙ lengths-cut widths words whole in
    let joined : concat (set rows slot ws) ≡ take (total (take slot widths)) words ++ (ws ++ drop (length ws) (drop (total (take slot widths)) words)) =
    concat-set rows slot ws low ∙ rw (concat-cut widths words whole, begin-cut widths words slot whole, ← wide) refl in
    ap (cut widths) (sym joined) ∙ (ap (λ ns. cut ns (concat (set rows slot ws))) (sym lengths) ∙ cut-concat (set rows slot ws))
