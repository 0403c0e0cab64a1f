-- Lemmas on positions, which come row by row.
use Rattle.std.proofs.Common.{◌≡◌, ℕ, zero, suc, ◌+◌, ◌-◌, ◌*◌, ◌<◌, ◌≤◌, List, [], ◌∷◌, ◌++◌, length, take, drop, map, sym, ◌∙◌, ap, refl, append_assoc, append-nil, arith, length-append, length-drop}
use Rattle.std.specs.List.{AllByRecursion, flat_map, range_with_len}
use Rattle.std.proofs.lemmas.List.{nil_from_length, length-map, drop-drop, take_all, take-append-drop, length-take-le}
use Rattle.kernel_permute.specs.Positions.{IsPosition, product, positions, zipped, each_number}

-- the positions of n rows, from one on
abbrev pub rows_from : List ℕ → ℕ → ℕ → List (List ℕ)
rows_from ds start n = flat_map (λ y. map (λ ys. y ∷ ys) (positions ds)) (range_with_len start n)

-- f of the positions of n rows, from one on, and the numbers there
abbrev pub rows : (List ℕ → ℕ → ℕ) → List ℕ → ℕ → ℕ → List ℕ → List ℕ
rows f ds start n xs = zipped f (rows_from ds start n) xs

pub zipped-nil : (f : List ℕ → ℕ → ℕ) (ps : List (List ℕ)) → zipped f ps [] ≡ []
zipped-nil f [] = refl
zipped-nil f (p ∷ ps) = refl

pub zipped-append : (f : List ℕ → ℕ → ℕ) (ps qs : List (List ℕ)) (xs : List ℕ) → zipped f (ps ++ qs) xs ≡ zipped f ps (take (length ps) xs) ++ zipped f qs (drop (length ps) xs)
zipped-append f [] qs xs = refl
zipped-append f (p ∷ ps) qs [] = sym (zipped-nil f qs)
zipped-append f (p ∷ ps) qs (x ∷ xs) = ap (λ r. f p x ∷ r) (zipped-append f ps qs xs)

pub zipped-map : (f : List ℕ → ℕ → ℕ) (g : List ℕ → List ℕ) (ps : List (List ℕ)) (xs : List ℕ) → zipped f (map g ps) xs ≡ zipped (λ p. f (g p)) ps xs
zipped-map f g [] xs = refl
zipped-map f g (p ∷ ps) [] = refl
zipped-map f g (p ∷ ps) (x ∷ xs) = ap (λ r. f (g p) x ∷ r) (zipped-map f g ps xs)

-- two functions that agree everywhere make the same block
pub zipped-same : (f g : List ℕ → ℕ → ℕ) → ((p : List ℕ) (x : ℕ) → f p x ≡ g p x) → (ps : List (List ℕ)) (xs : List ℕ) → zipped f ps xs ≡ zipped g ps xs
zipped-same f g same [] xs = refl
zipped-same f g same (p ∷ ps) [] = refl
zipped-same f g same (p ∷ ps) (x ∷ xs) = ap (λ r. f p x ∷ r) (zipped-same f g same ps xs) ∙ ap (λ v. v ∷ zipped g ps xs) (same p x)

pub length-zipped : (f : List ℕ → ℕ → ℕ) (ps : List (List ℕ)) (xs : List ℕ) → length ps ≡ length xs → length (zipped f ps xs) ≡ length xs
length-zipped f [] [] e = refl
length-zipped f [] (x ∷ xs) e = e
length-zipped f (p ∷ ps) [] e = refl
length-zipped f (p ∷ ps) (x ∷ xs) e = let h : length (zipped f ps xs) ≡ length xs = length-zipped f ps xs (omega arith) in omega arith

length-rows_from : (ds : List ℕ) (m start n : ℕ) → length (positions ds) ≡ m → length (rows_from ds start n) ≡ n * m
length-rows_from ds m start zero e = omega arith
length-rows_from ds m start (suc n) e =
    let rest : length (rows_from ds (start + 1) n) ≡ n * m = length-rows_from ds m (start + 1) n e in
    simp (length-append, length-map) (omega arith)

pub length-positions : (ds : List ℕ) → length (positions ds) ≡ product ds
length-positions [] = refl
length-positions (d ∷ ds) = length-rows_from ds (product ds) 0 d (length-positions ds)

-- the first of several rows, and the others
pub rows-suc : (f : List ℕ → ℕ → ℕ) (ds : List ℕ) (w start n : ℕ) (xs : List ℕ) → product ds ≡ w → rows f ds start (suc n) xs ≡ each_number (λ ys. f (start ∷ ys)) ds (take w xs) ++ rows f ds (start + 1) n (drop w xs)
rows-suc f ds w start n xs e =
    let one : length (map (λ ys. start ∷ ys) (positions ds)) ≡ w = length-map (positions ds) (λ ys. start ∷ ys) ∙ length-positions ds ∙ e in
    zipped-append f (map (λ ys. start ∷ ys) (positions ds)) (rows_from ds (start + 1) n) xs
    ∙ rw one (ap (λ r. r ++ rows f ds (start + 1) n (drop w xs)) (zipped-map f (λ ys. start ∷ ys) (positions ds) (take w xs)))

-- one turn of a loop over rows, each of w numbers
pub rows_turn : (f : List ℕ → ℕ → ℕ) (ds : List ℕ) (w len i : ℕ) (old new part all : List ℕ) → product ds ≡ w → i < len → part ≡ each_number (λ ys. f (i ∷ ys)) ds (take w (drop (i * w) old)) → take ((i + 1) * w) new ≡ take (i * w) old ++ part → drop ((i + 1) * w) new ≡ drop ((i + 1) * w) old → take (i * w) old ++ rows f ds i (len - i) (drop (i * w) old) ≡ all → take ((i + 1) * w) new ++ rows f ds (i + 1) (len - (i + 1)) (drop ((i + 1) * w) new) ≡ all
rows_turn f ds w len i old new part all e below is front back before =
    let left : len - i ≡ suc (len - (i + 1)) = omega arith in
    let past : i * w + w ≡ (i + 1) * w = omega arith in
    let step : rows f ds i (len - i) (drop (i * w) old) ≡ part ++ rows f ds (i + 1) (len - (i + 1)) (drop ((i + 1) * w) old) = rw left (rows-suc f ds w i (len - (i + 1)) (drop (i * w) old) e ∙ rw (is, ← past, drop-drop w (i * w) old) refl) in
    rw (front, back, append_assoc, ← step) before

-- after the last row nothing is left
pub rows_done : (f : List ℕ → ℕ → ℕ) (ds : List ℕ) (n len i : ℕ) (xs all : List ℕ) → len ≤ i → length xs ≤ n → take n xs ++ rows f ds i (len - i) (drop n xs) ≡ all → xs ≡ all
rows_done f ds n len i xs all over long before =
    let none : len - i ≡ 0 = omega arith in
    let whole : take n xs ≡ xs = take_all n xs long in
    sym (append-nil xs) ∙ (rw (none, whole) at before)

all-append : (P : List ℕ → Type 0) (ps qs : List (List ℕ)) → AllByRecursion P ps → AllByRecursion P qs → AllByRecursion P (ps ++ qs)
all-append P [] qs these those = those
all-append P (p ∷ ps) qs these those = (these.0, all-append P ps qs these.1 those)

all-row : (d y : ℕ) (ds : List ℕ) (ps : List (List ℕ)) → y < d → AllByRecursion (IsPosition ds) ps → AllByRecursion (IsPosition (d ∷ ds)) (map (λ ys. y ∷ ys) ps)
all-row d y ds [] below these = tt
all-row d y ds (p ∷ ps) below these = ((below, these.0), all-row d y ds ps below these.1)

all-rows : (d : ℕ) (ds : List ℕ) (start n : ℕ) → start + n ≤ d → AllByRecursion (IsPosition ds) (positions ds) → AllByRecursion (IsPosition (d ∷ ds)) (rows_from ds start n)
all-rows d ds start zero within these = tt
all-rows d ds start (suc n) within these =
    all-append (IsPosition (d ∷ ds)) (map (λ ys. start ∷ ys) (positions ds)) (rows_from ds (start + 1) n)
    (all-row d start ds (positions ds) (omega arith) these)
    (all-rows d ds (start + 1) n (omega arith) these)

-- the positions of a block lie in it
pub all-positions : (ds : List ℕ) → AllByRecursion (IsPosition ds) (positions ds)
all-positions [] = (tt, tt)
all-positions (d ∷ ds) = all-rows d ds 0 d (omega arith) (all-positions ds)

zipped-same_where : (P : List ℕ → Type 0) (f g : List ℕ → ℕ → ℕ) → ((p : List ℕ) (x : ℕ) → P p → f p x ≡ g p x) → (ps : List (List ℕ)) (xs : List ℕ) → AllByRecursion P ps → zipped f ps xs ≡ zipped g ps xs
zipped-same_where P f g same [] xs these = refl
zipped-same_where P f g same (p ∷ ps) [] these = refl
zipped-same_where P f g same (p ∷ ps) (x ∷ xs) these = ap (λ r. f p x ∷ r) (zipped-same_where P f g same ps xs these.1) ∙ ap (λ v. v ∷ zipped g ps xs) (same p x these.0)

-- two functions that agree at the positions of a block make the same block
pub each_number-same : (f g : List ℕ → ℕ → ℕ) (ds xs : List ℕ) → ((p : List ℕ) (x : ℕ) → IsPosition ds p → f p x ≡ g p x) → each_number f ds xs ≡ each_number g ds xs
each_number-same f g ds xs same = zipped-same_where (IsPosition ds) f g same (positions ds) xs (all-positions ds)

-- a block whose numbers all stay
pub each_number-kept : (f : List ℕ → ℕ → ℕ) (ds xs : List ℕ) → ((p : List ℕ) (x : ℕ) → f p x ≡ x) → length xs ≡ product ds → each_number f ds xs ≡ xs
each_number-kept f ds xs kept long = zipped-kept f (positions ds) xs kept (length-positions ds ∙ sym long)
  where
    zipped-kept : (f : List ℕ → ℕ → ℕ) (ps : List (List ℕ)) (xs : List ℕ) → ((p : List ℕ) (x : ℕ) → f p x ≡ x) → length ps ≡ length xs → zipped f ps xs ≡ xs
    zipped-kept f [] [] kept long = refl
    zipped-kept f [] (x ∷ xs) kept long = absurd (omega arith)
    zipped-kept f (p ∷ ps) [] kept long = absurd (omega arith)
    zipped-kept f (p ∷ ps) (x ∷ xs) kept long = ap (λ r. f p x ∷ r) (zipped-kept f ps xs kept (omega arith)) ∙ ap (λ v. v ∷ xs) (kept p x)

rows_from-append : (ds : List ℕ) (start n m : ℕ) → rows_from ds start (n + m) ≡ rows_from ds start n ++ rows_from ds (start + n) m
rows_from-append ds start zero m =
    let none : zero + m ≡ m = omega arith in
    let same : start + zero ≡ start = omega arith in
    rw (none, same) refl
rows_from-append ds start (suc n) m =
    let one : suc n + m ≡ suc (n + m) = omega arith in
    let next : start + suc n ≡ start + 1 + n = omega arith in
    rw (one, next, rows_from-append ds (start + 1) n m) (sym (append_assoc (map (λ ys. start ∷ ys) (positions ds)) (rows_from ds (start + 1) n) (rows_from ds (start + 1 + n) m)))

-- the first n rows, and the others
pub rows-append : (f : List ℕ → ℕ → ℕ) (ds : List ℕ) (w start n m : ℕ) (xs : List ℕ) → product ds ≡ w → rows f ds start (n + m) xs ≡ rows f ds start n (take (n * w) xs) ++ rows f ds (start + n) m (drop (n * w) xs)
rows-append f ds w start n m xs e =
    let long : length (rows_from ds start n) ≡ n * w = length-rows_from ds w start n (length-positions ds ∙ e) in
    ap (λ ps. zipped f ps xs) (rows_from-append ds start n m) ∙ zipped-append f (rows_from ds start n) (rows_from ds (start + n) m) xs ∙ ap (λ k. zipped f (rows_from ds start n) (take k xs) ++ zipped f (rows_from ds (start + n) m) (drop k xs)) long

-- rows whose numbers all stay
pub rows-kept : (f : List ℕ → ℕ → ℕ) (ds : List ℕ) (w start n : ℕ) (xs : List ℕ) → product ds ≡ w → ((i : ℕ) (ys : List ℕ) (x : ℕ) → start ≤ i → i < start + n → f (i ∷ ys) x ≡ x) → length xs ≡ n * w → rows f ds start n xs ≡ xs
rows-kept f ds w start zero xs e kept long = sym (nil_from_length xs (omega arith))
rows-kept f ds w start (suc n) xs e kept long =
    let within : w ≤ length xs = omega arith in
    let here : each_number (λ ys. f (start ∷ ys)) ds (take w xs) ≡ take w xs = each_number-kept (λ ys. f (start ∷ ys)) ds (take w xs) (λ ys x. kept start ys x (omega arith) (omega arith)) (length-take-le w xs within ∙ sym e) in
    let rest : rows f ds (start + 1) n (drop w xs) ≡ drop w xs = rows-kept f ds w (start + 1) n (drop w xs) e (λ i ys x low high. kept i ys x (omega arith) (omega arith)) (length-drop w xs ∙ omega arith) in
    rows-suc f ds w start n xs e ∙ rw (here, rest) (take-append-drop w xs)

-- the same rows, numbered from another one
pub rows-shifted : (f g : List ℕ → ℕ → ℕ) (ds : List ℕ) (w a start n z : ℕ) (xs : List ℕ) → product ds ≡ w → start + n ≤ z → ((i : ℕ) (ys : List ℕ) (x : ℕ) → i < z → f ((a + i) ∷ ys) x ≡ g (i ∷ ys) x) → rows f ds (a + start) n xs ≡ rows g ds start n xs
rows-shifted f g ds w a start zero z xs e within same = refl
rows-shifted f g ds w a start (suc n) z xs e within same =
    let here : each_number (λ ys. f ((a + start) ∷ ys)) ds (take w xs) ≡ each_number (λ ys. g (start ∷ ys)) ds (take w xs) = zipped-same (λ ys. f ((a + start) ∷ ys)) (λ ys. g (start ∷ ys)) (λ ys x. same start ys x (omega arith)) (positions ds) (take w xs) in
    let next : a + start + 1 ≡ a + (start + 1) = omega arith in
    let rest : rows f ds (a + start + 1) n (drop w xs) ≡ rows g ds (start + 1) n (drop w xs) = ap (λ s. rows f ds s n (drop w xs)) next ∙ rows-shifted f g ds w a (start + 1) n z (drop w xs) e (omega arith) same in
    rows-suc f ds w (a + start) n xs e ∙ rw (here, rest) (sym (rows-suc g ds w start n xs e))
