-- Arrays that are filled from the front.
use Rattle.std.proofs.Common.{◌≡◌, ℕ, zero, suc, ◌+◌, ◌-◌, ◌<◌, ◌≤◌, List, [], ◌∷◌, ◌++◌, get_or, set, map, take, length, true, refl, sym, ap, ◌∙◌, arith}
use Rattle.std.proofs.lemmas.List.{map-append, take_all, take_more, take_more_set}
use Rattle.exec_names.specs.declared.extent.Extent as code
use Rattle.sial_meaning.specs.Sight.{lengths}
use Rattle.std.proofs.lemmas.Bool.{and_parts}
use Rattle.exec_names.specs.Naming.{extent_of}
use Rattle.exec_sides.specs.Parts.{lie_in, lies_in, starts_in}
use Rattle.exec_sides.specs.Seen.{extents_of}

-- one more entry
pub filled_more : {X : Type 0} (f : X → ℕ) (xs : List X) (ys : List ℕ) (k : ℕ) (d : X) → k < length xs → k < length ys → take k ys ≡ map f (take k xs) → take (k + 1) (set ys k (f (get_or xs k d))) ≡ map f (take (k + 1) xs)
filled_more f xs ys k d in-xs in-ys before =
    take_more_set ys k (f (get_or xs k d)) in-ys
    ∙ (ap (λ zs. zs ++ f (get_or xs k d) ∷ []) before
    ∙ sym (ap (map f) (take_more xs k d in-xs) ∙ map-append f (take k xs) (get_or xs k d ∷ [])))

-- all entries
pub filled_all : {X : Type 0} (f : X → ℕ) (xs : List X) (ys : List ℕ) (k : ℕ) → length xs ≤ k → k ≤ length xs → take k ys ≡ map f (take k xs) → take (length xs) ys ≡ map f xs
filled_all f xs ys k low high before =
    let all : k ≡ length xs = omega (arith, low, high) in
    ap (λ n. take n ys) (sym all) ∙ (before ∙ ap (map f) (take_all k xs low))

-- lengths as the definitions have them
pub lengths_are : (xs : List code.Extent) → map (λ (e : code.Extent). e.len) xs ≡ lengths (extents_of xs)
lengths_are [] = refl
lengths_are (x ∷ xs) = ap (λ ns. x.len ∷ ns) (lengths_are xs)

-- what lies in another at each place does so at this one
pub lies-at : (ps ws : List code.Extent) (k : ℕ) (d e : code.Extent) → lie_in (extents_of ps) (extents_of ws) ≡ true → k < length ps → lies_in (extent_of (get_or ps k d)) (extent_of (get_or ws k e)) ≡ true
lies-at [] ws k d e lie below = absurd (omega (arith, below))
lies-at (p ∷ ps) [] k d e lie below = absurd cc
lies-at (p ∷ ps) (w ∷ ws) zero d e lie below = (and_parts (lies_in (extent_of p) (extent_of w)) (lie_in (extents_of ps) (extents_of ws)) lie).0
lies-at (p ∷ ps) (w ∷ ws) (suc k) d e lie below =
    lies-at ps ws k d e (and_parts (lies_in (extent_of p) (extent_of w)) (lie_in (extents_of ps) (extents_of ws)) lie).1 (omega (arith, below))

-- one more start
pub starts_more : (ps ws : List code.Extent) (k : ℕ) (d e : code.Extent) → k < length ps → k < length ws
    → starts_in (extents_of (take (k + 1) ps)) (extents_of (take (k + 1) ws)) ≡ starts_in (extents_of (take k ps)) (extents_of (take k ws)) ++ ((get_or ps k d).start - (get_or ws k e).start) ∷ []
starts_more [] ws k d e in-ps in-ws = absurd (omega (arith, in-ps))
starts_more (p ∷ ps) [] k d e in-ps in-ws = absurd (omega (arith, in-ws))
starts_more (p ∷ ps) (w ∷ ws) zero d e in-ps in-ws = refl
starts_more (p ∷ ps) (w ∷ ws) (suc k) d e in-ps in-ws =
    let next : suc k + 1 ≡ suc (k + 1) = omega arith in
    ap (λ n. starts_in (extents_of (take n (p ∷ ps))) (extents_of (take n (w ∷ ws)))) next ∙ ap (λ ns. (p.start - w.start) ∷ ns) (starts_more ps ws k d e (omega (arith, in-ps)) (omega (arith, in-ws)))

-- the same, by the extents that were read
pub starts_read : (ps ws : List code.Extent) (k : ℕ) (x y : code.Extent) → k < length ps → k < length ws → x ≡ get_or ps k x → y ≡ get_or ws k y
    → starts_in (extents_of (take (k + 1) ps)) (extents_of (take (k + 1) ws)) ≡ starts_in (extents_of (take k ps)) (extents_of (take k ws)) ++ (x.start - y.start) ∷ []
starts_read ps ws k x y in-ps in-ws first second =
    starts_more ps ws k x y in-ps in-ws
    ∙ (ap (λ (e : code.Extent). starts_in (extents_of (take k ps)) (extents_of (take k ws)) ++ (e.start - (get_or ws k y).start) ∷ []) (sym first)
    ∙ ap (λ (e : code.Extent). starts_in (extents_of (take k ps)) (extents_of (take k ws)) ++ (x.start - e.start) ∷ []) (sym second))

-- one that was read lies in the other
pub lies-read : (ps ws : List code.Extent) (k : ℕ) (x y : code.Extent) → lie_in (extents_of ps) (extents_of ws) ≡ true → k < length ps → x ≡ get_or ps k x → y ≡ get_or ws k y → lies_in (extent_of x) (extent_of y) ≡ true
lies-read ps ws k x y lie below first second =
    ap (λ (e : code.Extent). lies_in (extent_of e) (extent_of y)) first ∙ (ap (λ (e : code.Extent). lies_in (extent_of (get_or ps k x)) (extent_of e)) second ∙ lies-at ps ws k x y lie below)
