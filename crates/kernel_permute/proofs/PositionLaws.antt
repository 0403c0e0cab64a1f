-- The number at a position of a block in which each number has become something of its position and itself.
use Rattle.std.proofs.Common.{◌≡◌, ℕ, zero, suc, ◌+◌, ◌*◌, ◌<◌, ◌≤◌, List, [], ◌∷◌, ◌++◌, length, get_or, take, drop, ap, sym, ◌∙◌, refl, arith}
use Rattle.std.proofs.Math.Nat.{mul-le-mul_right}
use Rattle.std.proofs.lemmas.List.{drop-drop, get_or-append-add, get_or-drop, get_or-take, get_or_append_left, length-drop, length-take-le}
use Rattle.kernel_permute.specs.Positions.{IsPosition, each_number, place, positions, product}
use Rattle.kernel_permute.proofs.PositionsLemmas.{length-positions, length-zipped, rows, rows-suc}

pub length-each_number : (f : List ℕ → ℕ → ℕ) (ds xs : List ℕ) → length xs ≡ product ds → length (each_number f ds xs) ≡ length xs
length-each_number f ds xs long = length-zipped f (positions ds) xs (length-positions ds ∙ sym long)

-- a position's place lies in the block
pub place_below : (ds ys : List ℕ) → IsPosition ds ys → place ds ys < product ds
place_below [] [] is = omega arith
place_below [] (y ∷ ys) is = absurd is
place_below (d ∷ ds) [] is = absurd is
place_below (d ∷ ds) (y ∷ ys) is =
    let rest : place ds ys < product ds = place_below ds ys is.1 in
    let upto : (y + 1) * product ds ≤ d * product ds = mul-le-mul_right (product ds) (let le : y + 1 ≤ d = omega (arith, is.0) in le) in
    omega arith

-- the numbers of row y
rows-at : (f : List ℕ → ℕ → ℕ) (ds : List ℕ) (w start n y p : ℕ) (xs : List ℕ) → product ds ≡ w → y < n → p < w → length xs ≡ n * w → get_or (rows f ds start n xs) (y * w + p) 0 ≡ get_or (each_number (λ ys. f ((start + y) ∷ ys)) ds (take w (drop (y * w) xs))) p 0
rows-at f ds w start zero y p xs e below inside long = absurd (omega arith)
rows-at f ds w start (suc n) zero p xs e below inside long =
    let front = each_number (λ ys. f (start ∷ ys)) ds (take w xs) in
    let within : w ≤ length xs = omega arith in
    let front_long : length front ≡ w = length-each_number (λ ys. f (start ∷ ys)) ds (take w xs) (length-take-le w xs within ∙ sym e) ∙ length-take-le w xs within in
    let at : zero * w + p ≡ p = omega arith in
    let none : zero * w ≡ zero = omega arith in
    let same : start + zero ≡ start = omega arith in
    rw (at, none, same) (ap (λ r. get_or r p 0) (rows-suc f ds w start n xs e) ∙ get_or_append_left front (rows f ds (start + 1) n (drop w xs)) 0 p (omega arith))
rows-at f ds w start (suc n) (suc y) p xs e below inside long =
    let front = each_number (λ ys. f (start ∷ ys)) ds (take w xs) in
    let within : w ≤ length xs = omega arith in
    let front_long : length front ≡ w = length-each_number (λ ys. f (start ∷ ys)) ds (take w xs) (length-take-le w xs within ∙ sym e) ∙ length-take-le w xs within in
    let at : suc y * w + p ≡ length front + (y * w + p) = omega arith in
    let same : start + 1 + y ≡ start + suc y = omega arith in
    let past : drop (y * w) (drop w xs) ≡ drop (suc y * w) xs = drop-drop (y * w) w xs ∙ ap (λ k. drop k xs) (let k : w + y * w ≡ suc y * w = omega arith in k) in
    let rest_long : length (drop w xs) ≡ n * w = length-drop w xs ∙ omega arith in
    ap (λ r. get_or r (suc y * w + p) 0) (rows-suc f ds w start n xs e)
    ∙ ap (λ k. get_or (front ++ rows f ds (start + 1) n (drop w xs)) k 0) at
    ∙ get_or-append-add front (rows f ds (start + 1) n (drop w xs)) (y * w + p) 0
    ∙ rows-at f ds w (start + 1) n y p (drop w xs) e (omega arith) inside rest_long
    ∙ ap (λ k. get_or (each_number (λ ys. f (k ∷ ys)) ds (take w (drop (y * w) (drop w xs)))) p 0) same
    ∙ ap (λ r. get_or (each_number (λ ys. f ((start + suc y) ∷ ys)) ds (take w r)) p 0) past

pub each_number-at : (f : List ℕ → ℕ → ℕ) (ds xs ys : List ℕ) → length xs ≡ product ds → IsPosition ds ys → get_or (each_number f ds xs) (place ds ys) 0 ≡ f ys (get_or xs (place ds ys) 0)
each_number-at f [] [] [] long is = absurd (omega arith)
each_number-at f [] (x ∷ xs) [] long is = refl
each_number-at f [] xs (y ∷ ys) long is = absurd is
each_number-at f (d ∷ ds) xs [] long is = absurd is
each_number-at f (d ∷ ds) xs (y ∷ ys) long is =
    let w = product ds in
    let inside : place ds ys < w = place_below ds ys is.1 in
    let upto : (y + 1) * w ≤ d * w = mul-le-mul_right w (let le : y + 1 ≤ d = omega (arith, is.0) in le) in
    let row = take w (drop (y * w) xs) in
    let row_long : length row ≡ w = length-take-le w (drop (y * w) xs) (omega (arith, length-drop (y * w) xs)) in
    let start : 0 + y ≡ y = omega arith in
    rows-at f ds w 0 d y (place ds ys) xs refl is.0 inside long
    ∙ ap (λ k. get_or (each_number (λ zs. f (k ∷ zs)) ds row) (place ds ys) 0) start
    ∙ each_number-at (λ zs. f (y ∷ zs)) ds row ys row_long is.1
    ∙ ap (f (y ∷ ys)) (get_or-take w (drop (y * w) xs) (place ds ys) 0 inside ∙ get_or-drop (y * w) xs (place ds ys) 0)
