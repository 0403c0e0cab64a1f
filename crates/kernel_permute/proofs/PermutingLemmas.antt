-- Lemmas on a source that is read along strides in another order.
use Rattle.std.proofs.Common.{◌≡◌, ℕ, zero, suc, ◌+◌, ◌-◌, ◌*◌, ◌<◌, ◌≤◌, List, [], ◌∷◌, length, take, get_or, map, ap, sym, ◌∙◌, refl, arith, zero-add}
use Rattle.std.proofs.lemmas.List.{take_all}
use Rattle.std.proofs.lemmas.List.Elements.{recursion_from_All}
use Rattle.kernel_permute.specs.declared.axis.Axis.{Axis}
use Rattle.kernel_permute.specs.declared.how.How.{How}
use Rattle.kernel_permute.specs.How.{combined}
use Rattle.kernel_permute.specs.Permuting.{IsOrder, picked, unpicked, permuted}
use Rattle.kernel_permute.specs.Positions.{product, strides_of, along, place, positions, each_number}
use Rattle.kernel_permute.specs.Strided.{lengths, strides, reach, met}
use Rattle.kernel_permute.proofs.ProductLemmas.{positive_right, length-strides_of}
use Rattle.kernel_permute.proofs.PositionsLemmas.{zipped-same, zipped-nil}
use Rattle.kernel_permute.proofs.OrderLemmas.{total, AllBelow, total-picked, along-picked}

-- the axes of a block with these dimensions and strides, in the order
abbrev pub axes_of : List ℕ → List ℕ → List ℕ → List Axis
axes_of dims ss order = map (λ k. record { len = get_or dims k 0; stride = get_or ss k 0 }) order

pub lengths-axes_of : (dims ss order : List ℕ) → lengths (axes_of dims ss order) ≡ picked order dims
lengths-axes_of dims ss [] = refl
lengths-axes_of dims ss (k ∷ order) = ap (λ r. get_or dims k 0 ∷ r) (lengths-axes_of dims ss order)

pub strides-axes_of : (dims ss order : List ℕ) → strides (axes_of dims ss order) ≡ picked order ss
strides-axes_of dims ss [] = refl
strides-axes_of dims ss (k ∷ order) = ap (λ r. get_or ss k 0 ∷ r) (strides-axes_of dims ss order)

-- how far the last position of each dimension lies
abbrev pub reaches : List ℕ → List ℕ → List ℕ
reaches [] ss = []
reaches (d ∷ ds) [] = []
reaches (d ∷ ds) (s ∷ ss) = (d - 1) * s ∷ reaches ds ss

length-reaches : (ds ss : List ℕ) → length ss ≡ length ds → length (reaches ds ss) ≡ length ds
length-reaches [] ss long = refl
length-reaches (d ∷ ds) [] long = absurd (omega arith)
length-reaches (d ∷ ds) (s ∷ ss) long = let rest : length (reaches ds ss) ≡ length ds = length-reaches ds ss (omega arith) in omega arith

get_or-reaches : (ds ss : List ℕ) (k : ℕ) → length ss ≡ length ds → k < length ds → get_or (reaches ds ss) k 0 ≡ (get_or ds k 0 - 1) * get_or ss k 0
get_or-reaches [] ss k long below = absurd (omega arith)
get_or-reaches (d ∷ ds) [] k long below = absurd (omega arith)
get_or-reaches (d ∷ ds) (s ∷ ss) zero long below = refl
get_or-reaches (d ∷ ds) (s ∷ ss) (suc k) long below = get_or-reaches ds ss k (omega arith) (omega arith)

reach-axes_of : (dims ss order : List ℕ) → length ss ≡ length dims → AllBelow (length dims) order → reach (axes_of dims ss order) ≡ total (picked order (reaches dims ss))
reach-axes_of dims ss [] long below = refl
reach-axes_of dims ss (k ∷ order) long below =
    let rest : reach (axes_of dims ss order) ≡ total (picked order (reaches dims ss)) = reach-axes_of dims ss order long below.1 in
    let here : get_or (reaches dims ss) k 0 ≡ (get_or dims k 0 - 1) * get_or ss k 0 = get_or-reaches dims ss k long below.0 in
    omega arith

-- the last position of a block is its last place
total-reaches : (ds : List ℕ) → 0 < product ds → total (reaches ds (strides_of ds)) + 1 ≡ product ds
total-reaches [] some = refl
total-reaches (zero ∷ ds) some = absurd (omega arith)
total-reaches (suc d ∷ ds) some =
    let rest : total (reaches ds (strides_of ds)) + 1 ≡ product ds = total-reaches ds (positive_right (suc d) (product ds) some) in
    let less : suc d - 1 ≡ d = omega arith in
    rw less (omega arith)

-- no position of the target reads past the source
pub reach_within : (dims order : List ℕ) → IsOrder order → length order ≡ length dims → 0 < product dims → reach (axes_of dims (strides_of dims) order) < product dims
reach_within dims order is long some =
    let below : AllBelow (length order) order = recursion_from_All (λ k. k < length order) order is.within in
    let in_dims : AllBelow (length dims) order = rw long at below in
    let fit : length (strides_of dims) ≡ length dims = length-strides_of dims in
    let in_reaches : AllBelow (length (reaches dims (strides_of dims))) order = rw (length-reaches dims (strides_of dims) fit) in_dims in
    let most : total (picked order (reaches dims (strides_of dims))) ≤ total (reaches dims (strides_of dims)) = total-picked order (reaches dims (strides_of dims)) in_reaches is.once in
    let sum : reach (axes_of dims (strides_of dims) order) ≡ total (picked order (reaches dims (strides_of dims))) = reach-axes_of dims (strides_of dims) order fit in_dims in
    let last : total (reaches dims (strides_of dims)) + 1 ≡ product dims = total-reaches dims some in
    omega arith

-- what is read along the picked strides is the permuted block
pub permuted_is : (how : How) (dims order from old : List ℕ) (axes : List Axis) → IsOrder order → length order ≡ length dims → axes ≡ axes_of dims (strides_of dims) order → each_number (met how from 0 (strides axes)) (lengths axes) old ≡ permuted how dims order from old
permuted_is how dims order from old axes is long made =
    let below : AllBelow (length order) order = recursion_from_All (λ k. k < length order) order is.within in
    let fit : length (strides_of dims) ≡ length order = length-strides_of dims ∙ sym long in
    let same : (y : List ℕ) (x : ℕ) → met how from 0 (picked order (strides_of dims)) y x ≡ combined how x (get_or from (place dims (unpicked (length order) order y)) 0) = λ y x. ap (λ p. combined how x (get_or from p 0)) (zero-add (along (picked order (strides_of dims)) y) ∙ along-picked (length order) (strides_of dims) order y fit below is.once) in
    rw (made, lengths-axes_of dims (strides_of dims) order, strides-axes_of dims (strides_of dims) order)
    (zipped-same (met how from 0 (picked order (strides_of dims))) (λ y x. combined how x (get_or from (place dims (unpicked (length order) order y)) 0)) same (positions (picked order dims)) old)

-- the axes that the loop has set, once it is through
pub axes_done : (axes : List Axis) (dims ss order : List ℕ) (k : ℕ) → length order ≤ k → length axes ≡ length order → take k axes ≡ axes_of dims ss (take k order) → axes ≡ axes_of dims ss order
axes_done axes dims ss order k over long done =
    let whole : take k axes ≡ axes = take_all k axes (omega arith) in
    let all : take k order ≡ order = take_all k order over in
    sym whole ∙ done ∙ ap (axes_of dims ss) all

-- a block with no number stays so
pub permuted_none : (how : How) (dims order from old : List ℕ) → length old ≡ 0 → old ≡ permuted how dims order from old
permuted_none how dims order from [] none = sym (zipped-nil (λ y x. combined how x (get_or from (place dims (unpicked (length order) order y)) 0)) (positions (picked order dims)))
permuted_none how dims order from (x ∷ xs) none = absurd (omega arith)
