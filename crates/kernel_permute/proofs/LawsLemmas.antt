-- The laws of permuted, sliced and inserted blocks.
use Rattle.std.proofs.Common.{◌≡◌, ℕ, zero, suc, ◌+◌, ◌-◌, ◌*◌, ◌<◌, ◌≤◌, true, cond, nat_eq, nat_le, nat_lt, List, [], ◌∷◌, length, get_or, map, ap, sym, ◌∙◌, refl, arith}
use Rattle.std.specs.List.{AllByRecursion, IsDistinct}
use Rattle.std.proofs.lemmas.Bool.{le-leb, lt-ltb}
use Rattle.std.proofs.lemmas.List.{length-map}
use Rattle.std.proofs.lemmas.List.Elements.{recursion_from_All}
use Rattle.kernel_permute.specs.How.{combined}
use Rattle.kernel_permute.specs.Inserting.{is_in_part, put, unshifted}
use Rattle.kernel_permute.specs.Laws.{InsertsEachPosition, InsertsNoOther, KeepsLength, PermutesEachPosition, SlicesEachPosition}
use Rattle.kernel_permute.specs.Permuting.{picked, unpicked}
use Rattle.kernel_permute.specs.Positions.{IsPosition, along, place, strides_of}
use Rattle.kernel_permute.specs.Slicing.{IsPart, shifted}
use Rattle.kernel_permute.proofs.OrderLemmas.{AllBelow, along-picked, total, total-picked}
use Rattle.kernel_permute.proofs.PositionLaws.{each_number-at, length-each_number}
use Rattle.kernel_permute.proofs.ProductLemmas.{length-strides_of}

-- what is left of c in each place
abbrev complements : ℕ → List ℕ → List ℕ
complements c xs = map (λ x. c - x) xs

all_under : (c : ℕ) (xs : List ℕ) → total xs ≤ c → AllByRecursion (λ x. x ≤ c) xs
all_under c [] most = tt
all_under c (x ∷ xs) most = ((let here : x ≤ c = omega arith in here), all_under c xs (omega arith))

total-complements : (c : ℕ) (xs : List ℕ) → AllByRecursion (λ x. x ≤ c) xs → total (complements c xs) + total xs ≡ length xs * c
total-complements c [] under = omega arith
total-complements c (x ∷ xs) under =
    let rest : total (complements c xs) + total xs ≡ length xs * c = total-complements c xs under.1 in
    let here : x ≤ c = under.0 in
    let more : suc (length xs) * c ≡ c + length xs * c = omega arith in
    rw more (omega arith)

get_or-complements : (c : ℕ) (xs : List ℕ) (k : ℕ) → k < length xs → get_or (complements c xs) k 0 ≡ c - get_or xs k 0
get_or-complements c [] k below = absurd (omega arith)
get_or-complements c (x ∷ xs) zero below = refl
get_or-complements c (x ∷ xs) (suc k) below = get_or-complements c xs k (omega arith)

picked-complements : (c : ℕ) (ks xs : List ℕ) → AllBelow (length xs) ks → picked ks (complements c xs) ≡ complements c (picked ks xs)
picked-complements c [] xs below = refl
picked-complements c (k ∷ ks) xs below = ap (λ r. get_or (complements c xs) k 0 ∷ r) (picked-complements c ks xs below.1) ∙ ap (λ v. v ∷ complements c (picked ks xs)) (get_or-complements c xs k below.0)

get_or-under : (c : ℕ) (xs : List ℕ) (k : ℕ) → k < length xs → AllByRecursion (λ x. x ≤ c) xs → get_or xs k 0 ≤ c
get_or-under c [] k below under = absurd (omega arith)
get_or-under c (x ∷ xs) zero below under = under.0
get_or-under c (x ∷ xs) (suc k) below under = get_or-under c xs k (omega arith) under.1

picked_under : (c : ℕ) (ks xs : List ℕ) → AllBelow (length xs) ks → AllByRecursion (λ x. x ≤ c) xs → AllByRecursion (λ x. x ≤ c) (picked ks xs)
picked_under c [] xs below under = tt
picked_under c (k ∷ ks) xs below under = (get_or-under c xs k below.0 under, picked_under c ks xs below.1 under)

-- members that are picked in an order add up to as much as all
pub total-picked_all : (order xs : List ℕ) → AllBelow (length xs) order → IsDistinct nat_eq order → length order ≡ length xs → total (picked order xs) ≡ total xs
total-picked_all order xs below once long =
    let c = total xs in
    let under : AllByRecursion (λ x. x ≤ c) xs = all_under c xs (omega arith) in
    let same : length (complements c xs) ≡ length xs = length-map xs (λ x. c - x) in
    let below_too : AllBelow (length (complements c xs)) order = rw same below in
    let most : total (picked order xs) ≤ total xs = total-picked order xs below once in
    let other : total (picked order (complements c xs)) ≤ total (complements c xs) = total-picked order (complements c xs) below_too once in
    let turned : total (picked order (complements c xs)) ≡ total (complements c (picked order xs)) = ap total (picked-complements c order xs below) in
    let all : total (complements c xs) + total xs ≡ length xs * c = total-complements c xs under in
    let some : total (complements c (picked order xs)) + total (picked order xs) ≡ length (picked order xs) * c = total-complements c (picked order xs) (picked_under c order xs below under) in
    let count : length (picked order xs) * c ≡ length xs * c = ap (λ n. n * c) (length-map order (λ k. get_or xs k 0) ∙ long) in
    omega arith

-- how far each member leads along its stride
abbrev leads : List ℕ → List ℕ → List ℕ
leads [] xs = []
leads (s ∷ ss) [] = []
leads (s ∷ ss) (x ∷ xs) = x * s ∷ leads ss xs

total-leads : (ss xs : List ℕ) → total (leads ss xs) ≡ along ss xs
total-leads [] xs = refl
total-leads (s ∷ ss) [] = refl
total-leads (s ∷ ss) (x ∷ xs) = ap (λ r. x * s + r) (total-leads ss xs)

length-leads : (ss xs : List ℕ) → length xs ≡ length ss → length (leads ss xs) ≡ length ss
length-leads [] xs long = refl
length-leads (s ∷ ss) [] long = absurd (omega arith)
length-leads (s ∷ ss) (x ∷ xs) long = ap (λ n. suc n) (length-leads ss xs (omega arith))

get_or-leads : (ss xs : List ℕ) (k : ℕ) → length xs ≡ length ss → k < length ss → get_or (leads ss xs) k 0 ≡ get_or xs k 0 * get_or ss k 0
get_or-leads [] xs k long below = absurd (omega arith)
get_or-leads (s ∷ ss) [] k long below = absurd (omega arith)
get_or-leads (s ∷ ss) (x ∷ xs) zero long below = refl
get_or-leads (s ∷ ss) (x ∷ xs) (suc k) long below = get_or-leads ss xs k (omega arith) (omega arith)

picked-leads : (ss xs ks : List ℕ) → length xs ≡ length ss → AllBelow (length ss) ks → total (picked ks (leads ss xs)) ≡ along (picked ks ss) (picked ks xs)
picked-leads ss xs [] long below = refl
picked-leads ss xs (k ∷ ks) long below =
    let rest : total (picked ks (leads ss xs)) ≡ along (picked ks ss) (picked ks xs) = picked-leads ss xs ks long below.1 in
    let here : get_or (leads ss xs) k 0 ≡ get_or xs k 0 * get_or ss k 0 = get_or-leads ss xs k long below.0 in
    omega arith

length-position : (ds ys : List ℕ) → IsPosition ds ys → length ys ≡ length ds
length-position [] [] is = refl
length-position [] (y ∷ ys) is = absurd is
length-position (d ∷ ds) [] is = absurd is
length-position (d ∷ ds) (y ∷ ys) is = ap (λ n. suc n) (length-position ds ys is.1)

position-at : (ds xs : List ℕ) (k : ℕ) → IsPosition ds xs → k < length ds → get_or xs k 0 < get_or ds k 0
position-at [] xs k is below = absurd (omega arith)
position-at (d ∷ ds) [] k is below = absurd is
position-at (d ∷ ds) (x ∷ xs) zero is below = is.0
position-at (d ∷ ds) (x ∷ xs) (suc k) is below = position-at ds xs k is.1 (omega arith)

picked-position : (ks ds xs : List ℕ) → IsPosition ds xs → AllBelow (length ds) ks → IsPosition (picked ks ds) (picked ks xs)
picked-position [] ds xs is below = tt
picked-position (k ∷ ks) ds xs is below = (position-at ds xs k is below.0, picked-position ks ds xs is below.1)

pub permutes_each_position : PermutesEachPosition
permutes_each_position how dims order from old x is long size inside =
    let below : AllBelow (length order) order = recursion_from_All (λ k. k < length order) order is.within in
    let ss = strides_of dims in
    let wide : length ss ≡ length order = length-strides_of dims ∙ sym long in
    let x_long : length x ≡ length ss = length-position dims x inside ∙ sym (length-strides_of dims) in
    let in_dims : AllBelow (length dims) order = rw long at below in
    let in_ss : AllBelow (length ss) order = rw wide below in
    let in_leads : AllBelow (length (leads ss x)) order = rw (length-leads ss x x_long) in_ss in
    let same : place dims (unpicked (length order) order (picked order x)) ≡ place dims x =
    sym (along-picked (length order) ss order (picked order x) wide below is.once) ∙ sym (picked-leads ss x order x_long in_ss)
    ∙ total-picked_all order (leads ss x) in_leads is.once (sym wide ∙ sym (length-leads ss x x_long)) ∙ total-leads ss x in
    each_number-at (λ y number. combined how number (get_or from (place dims (unpicked (length order) order y)) 0)) (picked order dims) old (picked order x) size (picked-position order dims x inside in_dims)
    ∙ ap (λ p. combined how (get_or old (place (picked order dims) (picked order x)) 0) (get_or from p 0)) same

pub slices_each_position : SlicesEachPosition
slices_each_position how dims at size from old y long inside = each_number-at (λ p number. combined how number (get_or from (place dims (shifted at p)) 0)) size old y long inside

shifted-position : (at size dims y : List ℕ) → IsPart at size dims → IsPosition size y → IsPosition dims (shifted at y)
shifted-position [] [] [] y part inside = tt
shifted-position (a ∷ ats) (z ∷ zs) (d ∷ ds) (y ∷ ys) part inside = ((let low : y < z = inside.0 in let high : a + z ≤ d = part.0 in let here : a + y < d = omega arith in here), shifted-position ats zs ds ys part.1 inside.1)
shifted-position (a ∷ ats) (z ∷ zs) (d ∷ ds) [] part inside = absurd inside
shifted-position [] [] (d ∷ ds) y part inside = absurd part
shifted-position [] (z ∷ zs) ds y part inside = absurd part
shifted-position (a ∷ ats) [] ds y part inside = absurd part
shifted-position (a ∷ ats) (z ∷ zs) [] y part inside = absurd part

shifted-in_part : (at size dims y : List ℕ) → IsPart at size dims → IsPosition size y → is_in_part at size (shifted at y) ≡ true
shifted-in_part [] [] [] y part inside = refl
shifted-in_part (a ∷ ats) (z ∷ zs) (d ∷ ds) (y ∷ ys) part inside =
    let below : y < z = inside.0 in
    let low : nat_le a (a + y) ≡ true = le-leb a (a + y) (omega arith) in
    let high : nat_lt (a + y) (a + z) ≡ true = lt-ltb (a + y) (a + z) (omega arith) in
    rw (low, high) (shifted-in_part ats zs ds ys part.1 inside.1)
shifted-in_part (a ∷ ats) (z ∷ zs) (d ∷ ds) [] part inside = absurd inside
shifted-in_part [] [] (d ∷ ds) y part inside = absurd part
shifted-in_part [] (z ∷ zs) ds y part inside = absurd part
shifted-in_part (a ∷ ats) [] ds y part inside = absurd part
shifted-in_part (a ∷ ats) (z ∷ zs) [] y part inside = absurd part

unshifted-shifted : (at size dims y : List ℕ) → IsPart at size dims → IsPosition size y → unshifted at (shifted at y) ≡ y
unshifted-shifted [] [] [] [] part inside = refl
unshifted-shifted [] [] [] (y ∷ ys) part inside = absurd inside
unshifted-shifted (a ∷ ats) (z ∷ zs) (d ∷ ds) (y ∷ ys) part inside =
    let back : (a + y) - a ≡ y = omega arith in
    rw (back, unshifted-shifted ats zs ds ys part.1 inside.1) refl
unshifted-shifted (a ∷ ats) (z ∷ zs) (d ∷ ds) [] part inside = absurd inside
unshifted-shifted [] [] (d ∷ ds) y part inside = absurd part
unshifted-shifted [] (z ∷ zs) ds y part inside = absurd part
unshifted-shifted (a ∷ ats) [] ds y part inside = absurd part
unshifted-shifted (a ∷ ats) (z ∷ zs) [] y part inside = absurd part

pub inserts_each_position : InsertsEachPosition
inserts_each_position how size from dims at old y part long inside =
    let x = shifted at y in
    let yes : is_in_part at size x ≡ true = shifted-in_part at size dims y part inside in
    let back : unshifted at x ≡ y = unshifted-shifted at size dims y part inside in
    let old_number = get_or old (place dims x) 0 in
    each_number-at (put how size from at) dims old x long (shifted-position at size dims y part inside)
    ∙ ap (λ b. cond b (combined how old_number (get_or from (place size (unshifted at x)) 0)) old_number) yes
    ∙ ap (λ p. combined how old_number (get_or from (place size p) 0)) back

pub inserts_no_other : InsertsNoOther
inserts_no_other how size from dims at old x long inside outside =
    let old_number = get_or old (place dims x) 0 in
    each_number-at (put how size from at) dims old x long inside
    ∙ ap (λ b. cond b (combined how old_number (get_or from (place size (unshifted at x)) 0)) old_number) outside

pub keeps_length : KeepsLength
keeps_length f dims old long = length-each_number f dims old long
