-- The blocks that slots match, in their turns: as many as counted, and each of the array's.
use Rattle.std.proofs.Common.{◌≡◌, ℕ, zero, suc, ◌+◌, ◌*◌, ◌/◌, ◌%◌, ◌<◌, List, [], ◌∷◌, map, take, length, slice_index_or, Some, refl, sym, ap, ◌∙◌, subst, arith}
use Rattle.std.specs.Prelude.{flat_map, slice_get}
use Rattle.std.proofs.Math.Nat.{div-lt_iff_lt-mul, mod-lt}
use Rattle.std.proofs.lemmas.Nat.{div-add-mod'}
use Rattle.std.proofs.lemmas.List.{get_or-map, length-append, length-map, length-take-le}
use Rattle.std.proofs.lemmas.List.Concat.{get_or-flat_map}
use Rattle.std.proofs.lemmas.Option.{slice_get-get_or}
use Rattle.sial_syntax.specs.declared.array.ArrayDecl.{ArrayDecl}
use Rattle.sial_syntax.specs.declared.operand.Slot.{Slot}
use Rattle.sial_syntax.specs.declared.operand.Slot.TheVariants.{At, All}
use Rattle.sial_syntax.specs.Boxes.{IsTupleOf, place_of}
use Rattle.sial_syntax.specs.Spaces.{Spaces, box_of, count_of}
use Rattle.sial_syntax.proofs.BoxLemmas.{numbers-length, numbers-read}
use Rattle.index_spaces.specs.Placed.{Placed, array_among}
use Rattle.sial_meaning.specs.LocalStep.{matched, matched_by, matched_tuples}
use Rattle.sial_meaning.specs.Own.{Own}
use Rattle.sial_meaning.specs.Setting.{Setting, dims_of}
use Rattle.exec_names.specs.Matching.{AreOf, AreSlots, matches, slot_count, slot_first, tuple_in_turn}
use Rattle.exec_names.proofs.NamedLemmas.{among-is}

-- rows of one length after one another
rows-long : {X Y : Type 0} (f : X → List Y) (xs : List X) (m : ℕ) → ((x : X) → length (f x) ≡ m) → length (flat_map f xs) ≡ length xs * m
rows-long f [] m long = omega arith
rows-long f (x ∷ xs) m long =
    let rest = rows-long f xs m long in
    let here = long x in
    let more : suc (length xs) * m ≡ m + length xs * m = omega arith in
    length-append (f x) (flat_map f xs) ∙ (ap (λ n. n + length (flat_map f xs)) here ∙ (ap (λ n. m + n) rest ∙ sym more))

-- what stands at a place of them
rows-at : {X Y : Type 0} (f : X → List Y) (xs : List X) (m turn : ℕ) (e : X) (d : Y) → ((x : X) → length (f x) ≡ m) → 0 < m → turn < length xs * m
    → slice_index_or (flat_map f xs) turn d ≡ slice_index_or (f (slice_index_or xs (turn / m) e)) (turn % m) d
rows-at f xs m turn e d long some below =
    let row : turn / m < length xs = (div-lt_iff_lt-mul some).1 below in
    let in-row : turn % m < m = mod-lt turn some in
    let front : length (flat_map f (take (turn / m) xs)) ≡ turn / m * m =
    rows-long f (take (turn / m) xs) m long ∙ ap (λ n. n * m) (length-take-le (turn / m) xs (omega (arith, row))) in
    let whole : length (flat_map f (take (turn / m) xs)) + turn % m ≡ turn = ap (λ n. n + turn % m) front ∙ div-add-mod' turn m in
    ap (λ n. slice_index_or (flat_map f xs) n d) (sym whole)
    ∙ get_or-flat_map f xs (turn / m) (turn % m) e d row (subst (λ n. turn % m < n) (sym (long (slice_index_or xs (turn / m) e))) in-row)

-- as many tuples as blocks are matched
slot-long : (g : Setting) (own : Own) (dim : ℕ) (slot : Slot) → length (matched_by g own dim slot) ≡ slot_count g.spaces dim slot
slot-long g own dim (At index) = refl
slot-long g own dim All = numbers-length 0 (count_of g.spaces dim)

tuples-long : (g : Setting) (own : Own) (dims : List ℕ) (slots : List Slot) → length (matched_tuples g own dims slots) ≡ matches g.spaces dims slots
tuples-long g own [] slots = refl
tuples-long g own (d ∷ ds) [] = refl
tuples-long g own (d ∷ ds) (x ∷ xs) =
    let inner = matched_tuples g own ds xs in
    rows-long (λ (k : ℕ). map (λ (t : List ℕ). k ∷ t) inner) (matched_by g own d x) (matches g.spaces ds xs) (λ k. length-map inner (λ (t : List ℕ). k ∷ t) ∙ tuples-long g own ds xs)
    ∙ ap (λ n. n * matches g.spaces ds xs) (slot-long g own d x)

-- a product that isn't 0 has no part that is
some-parts : (n m turn : ℕ) → turn < n * m → (0 < n) × (0 < m)
some-parts zero m turn below = absurd (omega (arith, below))
some-parts (suc n) zero turn below = let none : suc n * 0 ≡ 0 = omega arith in absurd (omega (arith, none, below))
some-parts (suc n) (suc m) turn below = (omega arith, omega arith)

-- the number of a slot in its turn
slot-at : (g : Setting) (own : Own) (dim : ℕ) (slot : Slot) (k : ℕ) → k < slot_count g.spaces dim slot → slice_index_or (matched_by g own dim slot) k 0 ≡ slot_first g.spaces own.values dim slot + k
slot-at g own dim (At index) zero below = omega arith
slot-at g own dim (At index) (suc k) below = absurd (omega (arith, below))
slot-at g own dim All k below = numbers-read 0 (count_of g.spaces dim) k 0 below

-- the tuple in a turn
tuple-at : (g : Setting) (own : Own) (dims : List ℕ) (slots : List Slot) (turn : ℕ) → turn < matches g.spaces dims slots
    → slice_index_or (matched_tuples g own dims slots) turn [] ≡ tuple_in_turn g.spaces own.values dims slots turn
tuple-at g own [] slots zero below = refl
tuple-at g own [] slots (suc turn) below = absurd (omega (arith, below))
tuple-at g own (d ∷ ds) [] turn below = absurd (omega (arith, below))
tuple-at g own (d ∷ ds) (x ∷ xs) turn below =
    let m = matches g.spaces ds xs in
    let inner = matched_tuples g own ds xs in
    let some = some-parts (slot_count g.spaces d x) m turn below in
    let long = tuples-long g own ds xs in
    let in-row : turn % m < m = mod-lt turn some.1 in
    let count = slot-long g own d x in
    let k = slice_index_or (matched_by g own d x) (turn / m) 0 in
    rows-at (λ (k : ℕ). map (λ (t : List ℕ). k ∷ t) inner) (matched_by g own d x) m turn 0 [] (λ k. length-map inner (λ (t : List ℕ). k ∷ t) ∙ long) some.1 (subst (λ n. turn < n * m) (sym count) below)
    ∙ (get_or-map (λ (t : List ℕ). k ∷ t) inner (turn % m) [] [] (subst (λ n. turn % m < n) (sym long) in-row)
    ∙ (ap (λ (q : ℕ). q ∷ slice_index_or inner (turn % m) []) (slot-at g own d x (turn / m) ((div-lt_iff_lt-mul some.1).1 below))
    ∙ ap (λ (t : List ℕ). (slot_first g.spaces own.values d x + turn / m) ∷ t) (tuple-at g own ds xs (turn % m) in-row)))

-- what the first dimension and its slot give in a turn
pub record FirstInTurn (spaces : Spaces) (values : List ℕ) (d : ℕ) (ds : List ℕ) (x : Slot) (xs : List Slot) (turn : ℕ) : Type 0 where
  pub counted : 0 < slot_count spaces d x
  pub behind : 0 < matches spaces ds xs
  pub member : (slot_first spaces values d x + turn / matches spaces ds xs) < count_of spaces d
  pub rest : turn % matches spaces ds xs < matches spaces ds xs
  pub slots : AreSlots spaces values ds xs

pub first-in-turn : (spaces : Spaces) (values : List ℕ) (d : ℕ) (ds : List ℕ) (x : Slot) (xs : List Slot) (turn : ℕ) → AreSlots spaces values (d ∷ ds) (x ∷ xs) → turn < matches spaces (d ∷ ds) (x ∷ xs)
    → FirstInTurn spaces values d ds x xs turn
first-in-turn spaces values d ds (At index) xs turn are below =
    let some = some-parts 1 (matches spaces ds xs) turn below in
    let none : turn / matches spaces ds xs < 1 = (div-lt_iff_lt-mul some.1).1 below in
    let low = are.0.0 in
    let high = are.0.1 in
    record { counted = some.0; behind = some.1; member = omega (arith, none, low, high); rest = mod-lt turn some.1; slots = are.1 }
first-in-turn spaces values d ds All xs turn are below =
    let some = some-parts (count_of spaces d) (matches spaces ds xs) turn below in
    let member : turn / matches spaces ds xs < count_of spaces d = (div-lt_iff_lt-mul some.1).1 below in
    record { counted = some.0; behind = some.1; member = omega (arith, member); rest = mod-lt turn some.1; slots = are }

-- it is a tuple of the box
pub tuple-is : (spaces : Spaces) (values dims : List ℕ) (slots : List Slot) (turn : ℕ) → AreSlots spaces values dims slots → turn < matches spaces dims slots → IsTupleOf (box_of spaces dims) (tuple_in_turn spaces values dims slots turn)
tuple-is spaces values [] [] turn are below = tt
tuple-is spaces values [] (x ∷ xs) turn are below = absurd are
tuple-is spaces values (d ∷ ds) [] turn are below = absurd are
tuple-is spaces values (d ∷ ds) (x ∷ xs) turn are below =
    let first = first-in-turn spaces values d ds x xs turn are below in
    (first.member, tuple-is spaces values ds xs (turn % matches spaces ds xs) first.slots first.rest)

-- the dimensions of an array among those of a setting
dims-are : (g : Setting) (own : Own) (placed : Placed) (values : List ℕ) (array : ℕ) → AreOf g own placed values → (array_among placed.arrays array).dims ≡ dims_of g array
dims-are g own placed values array are = ap (λ (xs : List ArrayDecl). (array_among xs array).dims) are.arrays ∙ ap (λ (a : ArrayDecl). a.dims) (among-is g array)

-- as many blocks are matched as counted
pub matched_long : (g : Setting) (own : Own) (placed : Placed) (values : List ℕ) (array : ℕ) (slots : List Slot) → AreOf g own placed values
    → matches placed.spaces (array_among placed.arrays array).dims slots ≡ length (matched g own array slots)
matched_long g own placed values array slots are =
    ap (λ (s : Spaces). matches s (array_among placed.arrays array).dims slots) are.spaces
    ∙ (ap (λ ds. matches g.spaces ds slots) (dims-are g own placed values array are)
    ∙ (sym (tuples-long g own (dims_of g array) slots)
    ∙ sym (length-map (matched_tuples g own (dims_of g array) slots) (place_of (box_of g.spaces (dims_of g array))))))

-- and each in its turn
pub matched_at : (g : Setting) (own : Own) (placed : Placed) (values : List ℕ) (array : ℕ) (slots : List Slot) (turn : ℕ) → AreOf g own placed values
    → turn < matches placed.spaces (array_among placed.arrays array).dims slots
    → slice_get (matched g own array slots) turn
    ≡ Some (place_of (box_of placed.spaces (array_among placed.arrays array).dims) (tuple_in_turn placed.spaces values (array_among placed.arrays array).dims slots turn))
matched_at g own placed values array slots turn are below =
    let dims = dims_of g array in
    let box = box_of g.spaces dims in
    let tuples = matched_tuples g own dims slots in
    let long = matched_long g own placed values array slots are in
    let within : turn < length (matched g own array slots) = subst (λ n. turn < n) long below in
    let few : turn < length tuples = subst (λ n. turn < n) (length-map tuples (place_of box)) within in
    let counted : turn < matches g.spaces dims slots = subst (λ n. turn < n) (tuples-long g own dims slots) few in
    slice_get-get_or (matched g own array slots) turn 0 within
    ∙ ap Some (get_or-map (place_of box) tuples turn [] 0 few
    ∙ (ap (place_of box) (tuple-at g own dims slots turn counted)
    ∙ (ap (λ vs. place_of box (tuple_in_turn g.spaces vs dims slots turn)) are.values
    ∙ (ap (λ ds. place_of (box_of g.spaces ds) (tuple_in_turn g.spaces values ds slots turn)) (sym (dims-are g own placed values array are))
    ∙ ap (λ (s : Spaces). place_of (box_of s (array_among placed.arrays array).dims) (tuple_in_turn s values (array_among placed.arrays array).dims slots turn)) (sym are.spaces)))))
