-- With `=`, and a right side that names all of the target, nothing is left of the old numbers.
use Rattle.std.proofs.Common.{◌≡◌, ℕ, ◌^◌, ◌<◌, inl, inr, Bool, true, false, ◌==◌, ◌&&◌, ◌||◌, not, eqb-true, List, [], ◌∷◌, map, length, slice_index_or, refl, sym, ap, ◌∙◌, subst, arith}
use Rattle.std.specs.List.{list_any}
use Rattle.std.proofs.lemmas.Bool.{eq-eqb}
use Rattle.std.proofs.lemmas.List.{get_or-map, length-map}
use Rattle.std.proofs.lemmas.Simd.{map-map}
use Rattle.kernel_permute.specs.declared.how.How.TheVariants as how
use Rattle.sial_syntax.specs.declared.operand.Bin.TheVariants.{Plus, Minus, Times, Outer}
use Rattle.sial_syntax.specs.declared.operand.Op.{Op}
use Rattle.sial_syntax.specs.declared.operand.Op.TheVariants.{Set}
use Rattle.sial_syntax.specs.Agreeing.{all_in, contains, has_twice, same_set}
use Rattle.sial_syntax.specs.Boxes.{IsTupleOf, numbers_from, place_of, tuple_at, tuples, volume}
use Rattle.sial_syntax.specs.Spaces.{Spaces}
use Rattle.sial_syntax.proofs.BoxLemmas.{numbers-length, numbers-read, place-within, tuple-of-place, tuples-are, tuples-counted}
use Rattle.sial_meaning.specs.JoinLaws.{word_under}
use Rattle.sial_meaning.specs.LocalStep.{whole_positions}
use Rattle.sial_meaning.specs.Number.{times}
use Rattle.sial_meaning.specs.ReadBackLaws.{NoPartOfPart, cuts_each, places_in, word_of}
use Rattle.sial_meaning.specs.Right.{Alone, Joined, Plain, Shown, Side, assigned, is_insertion, is_part, met, side_at}
use Rattle.sial_meaning.specs.Sight.{Sight, cuts, lengths, word_at}
use Rattle.sial_meaning.proofs.AcceptedInOtherWords.Pairs.{both-hold, first-holds, holds-so, never, second-holds}
use Rattle.sial_meaning.proofs.AssignmentsReadBack.Elements.{as-many-elements, each-element-is-met}
use Rattle.sial_meaning.proofs.AssignmentsReadBack.Places.{Beside, beside-in, beside-once, beside-some, beside-turned, either-holds, or-left, or-right}
use Rattle.sial_meaning.proofs.AssignmentsReadBack.Positions.{cuts-long}
use Rattle.sial_meaning.proofs.StepsReachTheFold.Rules.{neither}
use Rattle.exec_sides.specs.Contracting.{summed}
use Rattle.exec_sides.specs.Fits.{Fits, IsNamed}
use Rattle.exec_sides.specs.Forgetting.{OldNumbersAreForgotten, with_words}
use Rattle.exec_sides.specs.Joined.{joined}
use Rattle.exec_sides.specs.Met.{Met}
use Rattle.exec_sides.specs.Named.{number_at}
use Rattle.exec_sides.specs.Parts.{MetInPart, lie_in}
use Rattle.exec_sides.proofs.Allowed.{cut-allowed, named-in, number-assigned, part-assigned}
use Rattle.exec_sides.proofs.Linking.{copy-assigned}
use Rattle.exec_sides.proofs.Paired.{left-assigned, outer-assigned, right-assigned, sum-assigned, times-assigned}
use Rattle.exec_sides.proofs.PartBlocks.{part-lies}
use Rattle.exec_sides.proofs.Tuples.{same-blocks}

-- the number at a tuple of a block that was made tuple by tuple
map-at : (dims : List ℕ) (f : List ℕ → ℕ) (tuple : List ℕ) → IsTupleOf dims tuple → number_at dims (map f (tuples dims)) tuple ≡ f tuple
map-at dims f tuple are =
    let v = volume dims in
    let p = place_of dims tuple in
    let within : p < v = place-within dims tuple are in
    let long = numbers-length 0 v in
    let inside : p < length (numbers_from 0 v) = omega (arith, within, long) in
    ap (λ (xs : List (List ℕ)). slice_index_or (map f xs) p 0) (tuples-are dims)
    ∙ (ap (λ (xs : List ℕ). slice_index_or xs p 0) (map-map f (tuple_at dims) (numbers_from 0 v))
    ∙ (get_or-map (λ (r : ℕ). f (tuple_at dims r)) (numbers_from 0 v) p 0 0 inside
    ∙ (ap (λ (r : ℕ). f (tuple_at dims r)) (numbers-read 0 v p 0 within ∙ omega arith) ∙ ap f (tuple-of-place dims tuple are))))

-- so long it is
made-long : (dims : List ℕ) (f : List ℕ → ℕ) → length (map f (tuples dims)) ≡ volume dims
made-long dims f = length-map (tuples dims) f ∙ tuples-counted dims

-- numbers as an assignment sees them, one for each position
abbrev evened : Sight → List ℕ → List ℕ
evened to others = map (λ t. word_at (with_words others to) t) (tuples (lengths to.extents))

-- an assignment sees no more of them
seen-even : (spaces : Spaces) (op : Op) (to : Sight) (side : Side) (others : List ℕ) → assigned spaces op (with_words others to) side ≡ assigned spaces op (with_words (evened to others) to) side
seen-even spaces op to side others =
    same-blocks (lengths to.extents) (assigned spaces op (with_words others to) side) (assigned spaces op (with_words (evened to others) to) side)
    (as-many-elements spaces op (with_words others to) side) (as-many-elements spaces op (with_words (evened to others) to) side)
    (λ tuple are.
    each-element-is-met spaces op (with_words others to) side tuple are
    ∙ (ap (λ w. met op w (side_at spaces (places_in to tuple) side)) (sym (map-at (lengths to.extents) (λ t. word_at (with_words others to) t) tuple are))
    ∙ sym (each-element-is-met spaces op (with_words (evened to others) to) side tuple are)))

-- a value for each tuple that meets whatever stood there
same-by-value : (spaces : Spaces) (to : Sight) (side : Side) (value : List ℕ → ℕ) (others : List ℕ) → length to.words ≡ volume (lengths to.extents) → length others ≡ volume (lengths to.extents)
    → ((new : List ℕ) → Met how.Set (lengths to.extents) value to.words new → new ≡ assigned spaces Set to side)
    → ((new : List ℕ) → Met how.Set (lengths to.extents) value others new → new ≡ assigned spaces Set (with_words others to) side)
    → assigned spaces Set (with_words others to) side ≡ assigned spaces Set to side
same-by-value spaces to side value others long longer first second =
    let dims = lengths to.extents in
    let new = map value (tuples dims) in
    sym (second new (record { each = λ tuple are. map-at dims value tuple are; len = made-long dims value ∙ sym longer }))
    ∙ first new (record { each = λ tuple are. map-at dims value tuple are; len = made-long dims value ∙ sym long })

-- what stands beside something in a block that cuts another is it, or cuts it
beside-cuts : (spaces : Spaces) (parts wholes : List ℕ) (x w : ℕ) → cuts_each spaces parts wholes ≡ true → Beside parts wholes x w → ((x == w) || cuts spaces x w) ≡ true
unfolding Beside
beside-cuts spaces [] ws x w cut at = absurd at
beside-cuts spaces (p ∷ ps) [] x w cut at = absurd at
beside-cuts spaces (p ∷ ps) (q ∷ qs) x w cut (inl e) =
    ap (λ a. (a == w) || cuts spaces a w) (sym e.0) ∙ (ap (λ b. (p == b) || cuts spaces p b) (sym e.1) ∙ first-holds ((p == q) || cuts spaces p q) (cuts_each spaces ps qs) cut)
beside-cuts spaces (p ∷ ps) (q ∷ qs) x w cut (inr at) = beside-cuts spaces ps qs x w (second-holds ((p == q) || cuts spaces p q) (cuts_each spaces ps qs) cut) at

-- lists that have the same at each place
lists-same : (xs ys : List ℕ) → length xs ≡ length ys → ((x y : ℕ) → Beside xs ys x y → x ≡ y) → xs ≡ ys
unfolding Beside
lists-same [] [] long same = refl
lists-same [] (y ∷ ys) long same = absurd (omega (arith, long))
lists-same (x ∷ xs) [] long same = absurd (omega (arith, long))
lists-same (x ∷ xs) (y ∷ ys) long same = ap (λ a. a ∷ xs) (same x y (inl (refl, refl))) ∙ ap (λ as'. y ∷ as') (lists-same xs ys (omega (arith, long)) (λ a b at. same a b (inr at)))

-- a test that holds of one of some, and one that holds of none
any-here : (test : ℕ → Bool) (xs : List ℕ) (x : ℕ) → contains xs x ≡ true → test x ≡ true → list_any test xs ≡ true
any-here test [] x in-xs is = absurd (never in-xs)
any-here test (y ∷ ys) x in-xs is =
    elim (either-holds (y == x) (contains ys x) in-xs) as (λ q. list_any test (y ∷ ys) ≡ true) [
      | inl here ↦ or-left (test y) (list_any test ys) (ap test (eqb-true y x here) ∙ is)
      | inr later ↦ or-right (test y) (list_any test ys) (any-here test ys x later is)
    ]

none-here : (test : ℕ → Bool) (xs : List ℕ) (x : ℕ) → contains xs x ≡ true → list_any test xs ≡ false → test x ≡ false
none-here test [] x in-xs none = absurd (never in-xs)
none-here test (y ∷ ys) x in-xs none =
    let parts = neither (test y) (list_any test ys) none in
    elim (either-holds (y == x) (contains ys x) in-xs) as (λ q. test x ≡ false) [
      | inl here ↦ ap test (sym (eqb-true y x here)) ∙ parts.0
      | inr later ↦ none-here test ys x later parts.1
    ]

-- the second of two tests that don't hold together
other-fails : (a b : Bool) → (a && b) ≡ false → b ≡ true → a ≡ false
other-fails true b none is = absurd (never (sym none ∙ is))
other-fails false b none is = refl

-- a block that cuts the target, and no index of which stands for a part of one, is the target
module _ (spaces : Spaces) (from to : List ℕ) (flat : NoPartOfPart spaces) (once : has_twice from ≡ false) (cut : cuts_each spaces from to ≡ true) (whole : list_any (is_part spaces to) from ≡ false) where
  beside-same : (x w : ℕ) → Beside from to x w → x ≡ w
  beside-same x w at =
      elim (either-holds (x == w) (cuts spaces x w) (beside-cuts spaces from to x w cut at)) as (λ q. x ≡ w) [
        | inl same ↦ eqb-true x w same
        | inr cuts-it ↦
            let in-from = beside-in from to x w at in
            let in-to : contains to w ≡ true = beside-in to from w x (beside-turned from to x w at) in
            let any : list_any (cuts spaces x) to ≡ true = any-here (cuts spaces x) to w in-to cuts-it in
            let named : contains to x ≡ true = holds-so (contains to x) (other-fails (not (contains to x)) (list_any (cuts spaces x) to) (none-here (is_part spaces to) from x in-from whole) any) in
            let other = beside-some to from x (sym (cuts-long spaces from to cut)) named in
            let there : Beside from to other.0 x = beside-turned to from x other.0 other.1 in
            elim (either-holds (other.0 == x) (cuts spaces other.0 x) (beside-cuts spaces from to other.0 x cut there)) as (λ q. x ≡ w) [
              | inl same ↦ beside-once from to x x w once (subst (λ y. Beside from to y x) (eqb-true other.0 x same) there) at
              | inr cuts-this ↦ absurd (flat other.0 x w cuts-this cuts-it)
            ]
      ]

  whole-same : from ≡ to
  whole-same = lists-same from to (cuts-long spaces from to cut) beside-same

-- indices that all stand among others
all-in-by : (xs ys : List ℕ) → ((i : ℕ) → contains xs i ≡ true → contains ys i ≡ true) → all_in xs ys ≡ true
all-in-by [] ys among = refl
all-in-by (x ∷ xs) ys among =
    both-hold (contains ys x) (all_in xs ys) (among x (or-left (x == x) (contains xs x) (eq-eqb x x refl))) (all-in-by xs ys (λ i is. among i (or-right (x == i) (contains xs i) is)))

same-itself : (xs : List ℕ) → same_set xs xs ≡ true
same-itself xs = both-hold (all_in xs xs) (all_in xs xs) (all-in-by xs xs (λ i is. is)) (all-in-by xs xs (λ i is. is))

module _ (spaces : Spaces) (values : List ℕ) (to : Sight) (others : List ℕ) (longer : length others ≡ volume (lengths to.extents)) where
  -- the target with other numbers fits as well
  named-other : IsNamed spaces values to → IsNamed spaces values (with_words others to)
  named-other named = record {
    once = named.once;
    some = named.some;
    most = named.most;
    extents = named.extents;
    words = longer;
    few = subst (λ n. n < 2 ^ 32) (named.words ∙ sym longer) named.few;
  }

  fits-other : (side : Side) → Fits spaces values Set to side → Fits spaces values Set (with_words others to) side
  fits-other side fits = record { target = named-other fits.target; side = fits.side; agrees = fits.agrees; flat = fits.flat }

  -- a copy
  copy-same : (block : Sight) → Fits spaces values Set to (Alone (Shown block)) → same_set to.at block.at ≡ true → assigned spaces Set (with_words others to) (Alone (Shown block)) ≡ assigned spaces Set to (Alone (Shown block))
  copy-same block fits same =
      same-by-value spaces to (Alone (Shown block)) (λ t. word_under to.at t block) others fits.target.words longer
      (λ new met. copy-assigned spaces values how.Set to block new fits.target fits.side same met)
      (λ new met. copy-assigned spaces values how.Set (with_words others to) block new (named-other fits.target) fits.side same met)

  -- a slice
  slice-same : (block : Sight) → Fits spaces values Set to (Alone (Shown block)) → cuts_each spaces to.at block.at ≡ true → assigned spaces Set (with_words others to) (Alone (Shown block)) ≡ assigned spaces Set to (Alone (Shown block))
  slice-same block fits cut =
      let each = or-left (cuts_each spaces to.at block.at) (cuts_each spaces block.at to.at) cut in
      same-by-value spaces to (Alone (Shown block)) (λ t. word_of block (whole_positions to.extents t)) others fits.target.words longer
      (λ new met. part-assigned spaces values how.Set to block new fits.flat fits.target fits.side each (part-of to.words new met fits.target.words))
      (λ new met. part-assigned spaces values how.Set (with_words others to) block new fits.flat (named-other fits.target) fits.side each (part-of others new met longer))
    where
      part-of : (words new : List ℕ) → Met how.Set (lengths to.extents) (λ t. word_of block (whole_positions to.extents t)) words new → length words ≡ volume (lengths to.extents) → MetInPart how.Set (with_words words to) block new
      part-of words new met long = record {
        inside = λ tuple are lie. met.each tuple are;
        outside = λ tuple are lie. absurd (never (sym lie ∙ part-lies to.extents block.extents tuple (within tuple are) are));
        len = met.len;
      }
        where
          within : (tuple : List ℕ) → IsTupleOf (lengths to.extents) tuple → lie_in to.extents block.extents ≡ true
          within tuple are =
              let below = place-within (lengths to.extents) tuple are in
              let has = fits.target.words in
              named-in spaces values to block fits.flat fits.target fits.side cut (omega (arith, below, has))

  -- a block alone
  block-same : (block : Sight) (q : Bool) → Fits spaces values Set to (Alone (Shown block)) → is_insertion spaces to.at (Alone (Shown block)) ≡ false → same_set to.at block.at ≡ q
      → assigned spaces Set (with_words others to) (Alone (Shown block)) ≡ assigned spaces Set to (Alone (Shown block))
  block-same block true fits whole same = copy-same block fits same
  block-same block false fits whole same =
      elim (either-holds (cuts_each spaces to.at block.at) (cuts_each spaces block.at to.at) (cut-allowed spaces how.Set to.at block fits.agrees same)) as
      (λ r. assigned spaces Set (with_words others to) (Alone (Shown block)) ≡ assigned spaces Set to (Alone (Shown block))) [
        | inl slice ↦ slice-same block fits slice
        | inr insertion ↦
            let is : block.at ≡ to.at = whole-same spaces block.at to.at fits.flat fits.side.once insertion whole in
            absurd (never (sym same ∙ (ap (same_set to.at) is ∙ same-itself to.at)))
      ]

  -- each form of right side
  side-same : (side : Side) → Fits spaces values Set to side → is_insertion spaces to.at side ≡ false → assigned spaces Set (with_words others to) side ≡ assigned spaces Set to side
  side-same (Alone (Plain n)) fits whole =
      same-by-value spaces to (Alone (Plain n)) (λ t. n) others fits.target.words longer
      (λ new met. number-assigned spaces how.Set to n (Alone (Plain n)) new refl fits.target.words met)
      (λ new met. number-assigned spaces how.Set (with_words others to) n (Alone (Plain n)) new refl longer met)
  side-same (Alone (Shown block)) fits whole = block-same block (same_set to.at block.at) fits whole refl
  side-same (Joined (Shown a) Plus (Shown b)) fits whole =
      same-by-value spaces to (Joined (Shown a) Plus (Shown b)) (λ t. joined false (word_under to.at t a) (word_under to.at t b)) others fits.target.words longer
      (λ new met. sum-assigned spaces values how.Set to a b false Plus new refl fits met)
      (λ new met. sum-assigned spaces values how.Set (with_words others to) a b false Plus new refl (fits-other (Joined (Shown a) Plus (Shown b)) fits) met)
  side-same (Joined (Shown a) Minus (Shown b)) fits whole =
      same-by-value spaces to (Joined (Shown a) Minus (Shown b)) (λ t. joined true (word_under to.at t a) (word_under to.at t b)) others fits.target.words longer
      (λ new met. sum-assigned spaces values how.Set to a b true Minus new refl fits met)
      (λ new met. sum-assigned spaces values how.Set (with_words others to) a b true Minus new refl (fits-other (Joined (Shown a) Minus (Shown b)) fits) met)
  side-same (Joined (Shown a) Times (Shown b)) fits whole =
      same-by-value spaces to (Joined (Shown a) Times (Shown b)) (λ t. summed to.at t a b) others fits.target.words longer
      (λ new met. times-assigned spaces values how.Set to a b Times new refl fits met)
      (λ new met. times-assigned spaces values how.Set (with_words others to) a b Times new refl (fits-other (Joined (Shown a) Times (Shown b)) fits) met)
  side-same (Joined (Shown a) Outer (Shown b)) fits whole =
      same-by-value spaces to (Joined (Shown a) Outer (Shown b)) (λ t. summed to.at t a b) others fits.target.words longer
      (λ new met. outer-assigned spaces values how.Set to a b Outer new refl fits met)
      (λ new met. outer-assigned spaces values how.Set (with_words others to) a b Outer new refl (fits-other (Joined (Shown a) Outer (Shown b)) fits) met)
  side-same (Joined (Shown a) bin (Plain n)) fits whole =
      same-by-value spaces to (Joined (Shown a) bin (Plain n)) (λ t. times (word_under to.at t a) n) others fits.target.words longer
      (λ new met. left-assigned spaces values how.Set to a n bin (Shown a) (Plain n) new refl refl fits met)
      (λ new met. left-assigned spaces values how.Set (with_words others to) a n bin (Shown a) (Plain n) new refl refl (fits-other (Joined (Shown a) bin (Plain n)) fits) met)
  side-same (Joined (Plain n) bin (Shown b)) fits whole =
      same-by-value spaces to (Joined (Plain n) bin (Shown b)) (λ t. times (word_under to.at t b) n) others fits.target.words longer
      (λ new met. right-assigned spaces values how.Set to b n bin (Plain n) (Shown b) new refl refl fits met)
      (λ new met. right-assigned spaces values how.Set (with_words others to) b n bin (Plain n) (Shown b) new refl refl (fits-other (Joined (Plain n) bin (Shown b)) fits) met)
  side-same (Joined (Plain n) Plus (Plain m)) fits whole = absurd (never fits.agrees)
  side-same (Joined (Plain n) Minus (Plain m)) fits whole = absurd (never fits.agrees)
  side-same (Joined (Plain n) Times (Plain m)) fits whole = absurd (never fits.agrees)
  side-same (Joined (Plain n) Outer (Plain m)) fits whole = absurd (never fits.agrees)

pub old_forgotten : OldNumbersAreForgotten
old_forgotten spaces values to side others fits whole =
    seen-even spaces Set to side others
    ∙ side-same spaces values to (evened to others) (made-long (lengths to.extents) (λ t. word_at (with_words others to) t)) side fits whole
