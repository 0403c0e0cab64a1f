-- What sums, differences, products and scalings of blocks read back.
use Rattle.std.proofs.Common.{◌≡◌, ℕ, zero, suc, ◌+◌, ◌*◌, ◌%◌, ◌^◌, ◌<◌, List, [], ◌∷◌, ◌++◌, map, zip, filter, length, Bool, true, false, if◌then◌else◌, Option, Some, refl, sym, ap, ◌∙◌, subst, arith}
use Rattle.std.specs.Prelude.{sum_by, unwrap_or}
use Rattle.std.proofs.lemmas.List.{length-map}
use Rattle.std.proofs.lemmas.List.Sums.{sum_by-cons}
use Rattle.sial_syntax.proofs.BoxLemmas.{tuples-are, tuple-within}
use Rattle.sial_syntax.specs.declared.operand.Bin.{Bin}
use Rattle.sial_syntax.specs.declared.operand.Bin.TheVariants.{Plus, Minus, Times, Outer}
use Rattle.sial_syntax.specs.declared.operand.Op.{Op}
use Rattle.sial_syntax.specs.Agreeing.{contains, all_in, has_twice}
use Rattle.sial_syntax.specs.Boxes.{numbers_from, volume, tuples, tuple_at, IsTupleOf}
use Rattle.sial_syntax.specs.Spaces.{Spaces, Extent, extent}
use Rattle.sial_meaning.specs.JoinLaws.{shared_indices, word_under, contracted, SumsByName, DifferencesByName, OuterProductsByName, ScalingsByName, FillsEverywhere, ContractionsByName, ContractionsToNumbers, JoinsByName}
use Rattle.sial_meaning.specs.LocalStep.{whole_positions}
use Rattle.sial_meaning.specs.Number.{plus, minus, times, combined}
use Rattle.sial_meaning.specs.ReadBackLaws.{named_block, places_in, after_assignment, under}
use Rattle.sial_meaning.specs.Right.{Term, Plain, Shown, Alone, Joined, both, term_at, joined_at, shared_dims, dim_lengths, product_at, side_at, met}
use Rattle.sial_meaning.specs.Sight.{Sight, Places, places_at, lengths, word_at, element}
use Rattle.sial_meaning.proofs.AssignmentsReadBack.Positions.{places-zip, whole-long}
use Rattle.sial_meaning.proofs.AssignmentsReadBack.Elements.{each-element-is-met, element-is, named-positions, named-lie, named-offsets}

-- the element of a block at places with names, where each of its indices is named
element-under : (spaces : Spaces) (values names tuple from words : List ℕ) → has_twice names ≡ false → IsTupleOf (lengths (map (extent spaces values) names)) tuple → all_in from names ≡ true
    → element spaces (zip names (whole_positions (map (extent spaces values) names) tuple)) (named_block spaces values from words) ≡ Some (word_under names tuple (named_block spaces values from words))
element-under spaces values names tuple from words once are in-names =
    let source = named_block spaces values from words in
    let ps = map (λ i. (extent spaces values i).start + under names tuple i) from in
    element-is
    spaces
    (zip names (whole_positions (map (extent spaces values) names) tuple))
    source
    ps
    (named-positions spaces values names tuple from once are from in-names)
    (named-lie spaces values names tuple are from in-names)
    ∙ ap (λ q. Some (word_at source q)) (named-offsets spaces values names tuple from)

-- the same at the places of a tuple of the target
element-in : (spaces : Spaces) (values to tuple old from words : List ℕ) → has_twice to ≡ false → IsTupleOf (lengths (map (extent spaces values) to)) tuple → all_in from to ≡ true
    → element spaces (places_in (named_block spaces values to old) tuple) (named_block spaces values from words) ≡ Some (word_under to tuple (named_block spaces values from words))
element-in spaces values to tuple old from words once are in-to =
    ap (λ places. element spaces places (named_block spaces values from words)) (places-zip to (map (extent spaces values) to) tuple)
    ∙ element-under spaces values to tuple from words once are in-to

-- two numbers that are there
both-some : (f : ℕ → ℕ → ℕ) (x y : Option ℕ) (a b : ℕ) → x ≡ Some a → y ≡ Some b → both f x y ≡ Some (f a b)
both-some f x y a b e h = ap (λ z. both f z y) e ∙ ap (both f (Some a)) h

-- an element after an assignment whose right side has this number
met-some : (spaces : Spaces) (op : Op) (values to old tuple : List ℕ) (side : _) (n : ℕ) → IsTupleOf (lengths (map (extent spaces values) to)) tuple → side_at spaces (places_in (named_block spaces values to old) tuple) side ≡ Some n
    → word_at (after_assignment spaces op (named_block spaces values to old) side) tuple ≡ combined op (word_at (named_block spaces values to old) tuple) n
met-some spaces op values to old tuple side n are is =
    each-element-is-met spaces op (named_block spaces values to old) side tuple are ∙ ap (met op (word_at (named_block spaces values to old) tuple)) is

-- two blocks joined element by element
joins-by-name : (bin : Bin) (f : ℕ → ℕ → ℕ) → ((spaces : Spaces) (places : Places) (a b : Term) → joined_at spaces places a bin b ≡ both f (term_at spaces places a) (term_at spaces places b)) → JoinsByName bin f
joins-by-name bin f joins spaces op values to a b old left right tuple once in-a in-b are =
    let first : Sight = named_block spaces values a left in
    let second : Sight = named_block spaces values b right in
    met-some spaces op values to old tuple (Joined (Shown first) bin (Shown second)) (f (word_under to tuple first) (word_under to tuple second)) are
    (joins spaces (places_in (named_block spaces values to old) tuple) (Shown first) (Shown second)
    ∙ both-some f _ _ _ _ (element-in spaces values to tuple old a left once are in-a) (element-in spaces values to tuple old b right once are in-b))

-- sums, differences and outer products
pub sums-by-name : SumsByName
sums-by-name = joins-by-name Plus plus (λ spaces places a b. refl)

-- differences, element by element by name
pub differences-by-name : DifferencesByName
differences-by-name = joins-by-name Minus minus (λ spaces places a b. refl)

-- outer products, element by element by name
pub outer-products-by-name : OuterProductsByName
outer-products-by-name = joins-by-name Outer times (λ spaces places a b. refl)

-- scalings
pub scalings-by-name : ScalingsByName
scalings-by-name spaces op n values to from old words tuple once in-to are = (
  met-some spaces op values to old tuple (Joined (Plain n) Times (Shown (named_block spaces values from words))) _ are
      (both-some times (Some n) _ n _ refl (element-in spaces values to tuple old from words once are in-to)),
  met-some spaces op values to old tuple (Joined (Shown (named_block spaces values from words)) Times (Plain n)) _ are
      (both-some times _ (Some n) _ n (element-in spaces values to tuple old from words once are in-to) refl),
)

-- fills
pub fills-everywhere : FillsEverywhere
fills-everywhere spaces op n values to old tuple are = met-some spaces op values to old tuple (Alone (Plain n)) n are refl

-- what two lists side by side keep of the first's test
filter-zip : (p : ℕ → Bool) (f : ℕ → Extent) (xs : List ℕ) → filter (λ (d : ℕ × Extent). p d.0) (zip xs (map f xs)) ≡ zip (filter p xs) (map f (filter p xs))
filter-zip p f [] = refl
filter-zip p f (x ∷ xs) = by_test (p x) refl (filter-zip p f xs)
  where
    by_test : (b : Bool) → p x ≡ b → filter (λ (d : ℕ × Extent). p d.0) (zip xs (map f xs)) ≡ zip (filter p xs) (map f (filter p xs)) → filter (λ (d : ℕ × Extent). p d.0) (zip (x ∷ xs) (map f (x ∷ xs))) ≡ zip (filter p (x ∷ xs)) (map f (filter p (x ∷ xs)))
    by_test true e rest =
        ap (λ b. if b then (x, f x) ∷ filter (λ (d : ℕ × Extent). p d.0) (zip xs (map f xs)) else filter (λ (d : ℕ × Extent). p d.0) (zip xs (map f xs))) e
        ∙ (ap (λ ds. (x, f x) ∷ ds) rest ∙ sym (ap (λ b. zip (if b then x ∷ filter p xs else filter p xs) (map f (if b then x ∷ filter p xs else filter p xs))) e))
    by_test false e rest =
        ap (λ b. if b then (x, f x) ∷ filter (λ (d : ℕ × Extent). p d.0) (zip xs (map f xs)) else filter (λ (d : ℕ × Extent). p d.0) (zip xs (map f xs))) e
        ∙ (rest ∙ sym (ap (λ b. zip (if b then x ∷ filter p xs else filter p xs) (map f (if b then x ∷ filter p xs else filter p xs))) e))

-- lengths of indices side by side with what they lie on
lengths-zip : (f : ℕ → Extent) (xs : List ℕ) → dim_lengths (zip xs (map f xs)) ≡ lengths (map f xs)
lengths-zip f [] = refl
lengths-zip f (x ∷ xs) = ap (λ ns. (f x).len ∷ ns) (lengths-zip f xs)

-- indices side by side with positions, and others
zip-append : (xs ys : List ℕ) (ps qs : List ℕ) → length xs ≡ length ps → zip xs ps ++ zip ys qs ≡ zip (xs ++ ys) (ps ++ qs)
zip-append [] ys [] qs e = refl
zip-append [] ys (p ∷ ps) qs e = absurd (omega (arith, e))
zip-append (x ∷ xs) ys [] qs e = absurd (omega (arith, e))
zip-append (x ∷ xs) ys (p ∷ ps) qs e = ap (λ zs. (x, p) ∷ zs) (zip-append xs ys ps qs (omega (arith, e)))

-- whole positions of some extents and others
whole-append : (es fs : List Extent) (tuple t : List ℕ) → IsTupleOf (lengths es) tuple → whole_positions (es ++ fs) (tuple ++ t) ≡ whole_positions es tuple ++ whole_positions fs t
whole-append [] fs [] t are = refl
whole-append [] fs (k ∷ ks) t are = absurd are
whole-append (e ∷ es) fs [] t are = absurd are
whole-append (e ∷ es) fs (k ∷ ks) t are = ap (λ ps. (e.start + k) ∷ ps) (whole-append es fs ks t are.1)

-- a tuple of some lengths and one of others
tuple-append : (ms ns tuple t : List ℕ) → IsTupleOf ms tuple → IsTupleOf ns t → IsTupleOf (ms ++ ns) (tuple ++ t)
tuple-append [] ns [] t a b = b
tuple-append [] ns (k ∷ ks) t a b = absurd a
tuple-append (m ∷ ms) ns [] t a b = absurd a
tuple-append (m ∷ ms) ns (k ∷ ks) t a b = (a.0, tuple-append ms ns ks t a.1 b)

-- something made of some and of others
map-append : {X Y : Type 0} (f : X → Y) (xs ys : List X) → map f (xs ++ ys) ≡ map f xs ++ map f ys
map-append f [] ys = refl
map-append f (x ∷ xs) ys = ap (λ zs. f x ∷ zs) (map-append f xs ys)

-- sums that are alike at each tuple of a box
sum-alike : (f h : List ℕ → ℕ) (dims : List ℕ) → ((t : List ℕ) → IsTupleOf dims t → f t ≡ h t) → sum_by f (tuples dims) ≡ sum_by h (tuples dims)
sum-alike f h dims alike =
    ap (sum_by f) (tuples-are dims) ∙ (by_numbers (volume dims) 0 (λ k low. omega (arith, low)) ∙ sym (ap (sum_by h) (tuples-are dims)))
  where
    by_numbers : (n first : ℕ) → ((k : ℕ) → k < first + n → k < volume dims) → sum_by f (map (tuple_at dims) (numbers_from first n)) ≡ sum_by h (map (tuple_at dims) (numbers_from first n))
    by_numbers zero first below = refl
    by_numbers (suc n) first below =
        let one : f (tuple_at dims first) ≡ h (tuple_at dims first) = alike (tuple_at dims first) (tuple-within dims first (below first (omega arith))) in
        let rest = by_numbers n (first + 1) (λ k low. below k (omega (arith, low))) in
        let left = sum_by-cons f (tuple_at dims first) (map (tuple_at dims) (numbers_from (first + 1) n)) in
        let right = sum_by-cons h (tuple_at dims first) (map (tuple_at dims) (numbers_from (first + 1) n)) in
        omega (arith, one, rest, left, right)

module _ (spaces : Spaces) (values to a b left right : List ℕ) (once : has_twice (to ++ shared_indices a b) ≡ false) (in-a : all_in a (to ++ shared_indices a b) ≡ true) (in-b : all_in b (to ++ shared_indices a b) ≡ true) (tuple : List ℕ) (are : IsTupleOf (lengths (map (extent spaces values) to)) tuple) where
  -- what some indices lie on
  abbrev on : List ℕ → List Extent
  on indices = map (extent spaces values) indices

  -- the indices that are summed over
  abbrev common : List ℕ
  common = shared_indices a b

  -- the two blocks
  abbrev first-block : Sight
  first-block = named_block spaces values a left

  abbrev second-block : Sight
  second-block = named_block spaces values b right

  -- the places of a tuple with those of the indices summed over
  places-joined : (t : List ℕ) → IsTupleOf (lengths (on common)) t → places_at (zip to (on to)) tuple ++ places_at (shared_dims first-block second-block) t ≡ zip (to ++ common) (whole_positions (on (to ++ common)) (tuple ++ t))
  places-joined t is =
      let long : length to ≡ length (whole_positions (on to) tuple) = sym (whole-long (on to) tuple are ∙ length-map to (extent spaces values)) in
      ap (λ ps. ps ++ places_at (shared_dims first-block second-block) t) (places-zip to (on to) tuple)
      ∙ (ap (λ ds. zip to (whole_positions (on to) tuple) ++ places_at ds t) (filter-zip (contains b) (extent spaces values) a)
      ∙ (ap (λ ps. zip to (whole_positions (on to) tuple) ++ ps) (places-zip common (on common) t)
      ∙ (zip-append to common (whole_positions (on to) tuple) (whole_positions (on common) t) long
      ∙ ap (zip (to ++ common)) (sym (ap (λ es. whole_positions es (tuple ++ t)) (map-append (extent spaces values) to common) ∙ whole-append (on to) (on common) tuple t are)))))

  -- the joined tuple is one of the joined lengths
  tuple-joined : (t : List ℕ) → IsTupleOf (lengths (on common)) t → IsTupleOf (lengths (on (to ++ common))) (tuple ++ t)
  tuple-joined t is =
      subst
      (λ (ns : List ℕ). IsTupleOf ns (tuple ++ t))
      (sym (ap lengths (map-append (extent spaces values) to common) ∙ map-append (λ (e : Extent). e.len) (on to) (on common)))
      (tuple-append (lengths (on to)) (lengths (on common)) tuple t are is)

  -- the element of a block there
  element-joined : (from words t : List ℕ) → IsTupleOf (lengths (on common)) t → all_in from (to ++ common) ≡ true
      → element spaces (places_at (zip to (on to)) tuple ++ places_at (shared_dims first-block second-block) t) (named_block spaces values from words) ≡ Some (word_under (to ++ common) (tuple ++ t) (named_block spaces values from words))
  element-joined from words t is in-names =
      ap (λ places. element spaces places (named_block spaces values from words)) (places-joined t is)
      ∙ element-under spaces values (to ++ common) (tuple ++ t) from words once (tuple-joined t is) in-names

  -- the product at the places of a tuple
  pub product-is : product_at spaces (places_at (zip to (on to)) tuple) first-block second-block ≡ contracted spaces values to tuple first-block second-block
  product-is =
      let places : Places = places_at (zip to (on to)) tuple in
      let f : List ℕ → ℕ = λ t. unwrap_or (both (λ x y. x * y) (element spaces (places ++ places_at (shared_dims first-block second-block) t) first-block) (element spaces (places ++ places_at (shared_dims first-block second-block) t) second-block)) 0 in
      let h : List ℕ → ℕ = λ t. word_under (to ++ common) (tuple ++ t) first-block * word_under (to ++ common) (tuple ++ t) second-block in
      let dims : dim_lengths (shared_dims first-block second-block) ≡ lengths (on common) = ap dim_lengths (filter-zip (contains b) (extent spaces values) a) ∙ lengths-zip (extent spaces values) common in
      ap (λ ns. sum_by f (tuples ns) % 2 ^ 64) dims
      ∙ ap
      (λ n. n % 2 ^ 64)
      (sum-alike f h (lengths (on common)) (λ t is.
      ap (λ x. unwrap_or x 0) (both-some (λ x y. x * y) _ _ _ _ (element-joined a left t is in-a) (element-joined b right t is in-b))))

-- contractions
pub contractions-by-name : ContractionsByName
contractions-by-name spaces op values to a b old left right tuple once in-a in-b are =
    met-some spaces op values to old tuple (Joined (Shown (named_block spaces values a left)) Times (Shown (named_block spaces values b right))) _ are
    (ap Some (product-is spaces values to a b left right once in-a in-b tuple are))

-- contractions to a number
pub contractions-to-numbers : ContractionsToNumbers
contractions-to-numbers spaces values a b left right once in-a in-b = product-is spaces values [] a b left right once in-a in-b [] tt
