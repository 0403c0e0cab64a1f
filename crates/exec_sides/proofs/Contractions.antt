-- A contraction by names is one along axes.
use Rattle.std.proofs.Common.{◌≡◌, ℕ, ◌+◌, ◌*◌, ◌%◌, ◌^◌, ◌<◌, ◌≤◌, inl, inr, Bool, true, false, ◌||◌, not, List, [], ◌∷◌, ◌++◌, map, filter, length, refl, sym, ap, ◌∙◌, subst, arith}
use Rattle.std.specs.Prelude.{slice_index, sum_by}
use Rattle.std.proofs.lemmas.List.{length-map}
use Rattle.std.proofs.lemmas.List.Sums.{sum_by-append, sum_by-cons}
use Rattle.kernel_contract.specs.Contraction as kernel
use Rattle.kernel_contract.specs.declared.axis.Axis.{Axis}
use Rattle.kernel_contract.specs.Positions.{IsPosition, offset_a, offset_b, offset_to}
use Rattle.kernel_permute.specs.How.{combined}
use Rattle.kernel_permute.specs.declared.how.How.{How}
use Rattle.sial_syntax.specs.Agreeing.{contains, all_in, has_twice}
use Rattle.sial_syntax.specs.Boxes.{volume, place_of, tuples, tuple_at, IsTupleOf}
use Rattle.sial_syntax.proofs.BoxLemmas.{place-within, tuple-of-place}
use Rattle.sial_meaning.specs.JoinLaws.{shared_indices, word_under}
use Rattle.sial_meaning.specs.ReadBackLaws.{under}
use Rattle.sial_meaning.specs.Sight.{Sight, lengths}
use Rattle.sial_meaning.proofs.AcceptedInOtherWords.Pairs.{never, first-holds, second-holds, not-so}
use Rattle.sial_meaning.proofs.AssignmentsReadBack.Places.{either-holds, or-left, or-right}
use Rattle.exec_sides.specs.Contracting.{IsContraction, axis_of, stride_in, summed}
use Rattle.exec_sides.specs.Met.{Met}
use Rattle.exec_sides.specs.Named.{IsLaid, length_under}
use Rattle.exec_sides.proofs.Blocks.{lengths-are, lengths-long}
use Rattle.exec_sides.proofs.Names.{all-at, all-made, ones, same-images, same-sum, tuple-image, under-all, under-below, under-image}
use Rattle.exec_sides.proofs.StrideSums.{absent, axis-long, axis-position, axis-tuple, either-list, images-agree, joined-once, kept, kept-from, kept-once, offset-sum, place-sum, sum-alike, sum-split, sum-tuples, under-first, under-second}
use Rattle.exec_sides.proofs.Tuples.{tuple-long}

-- positions of the first of two lists, read by name, are those
pair-first : (xs ys ps qs : List ℕ) → has_twice xs ≡ false → length ps ≡ length xs → map (under (xs ++ ys) (ps ++ qs)) xs ≡ ps
pair-first xs ys ps qs once long = same-images (under (xs ++ ys) (ps ++ qs)) (under xs ps) xs (λ i in-xs. under-first xs ys ps qs i long in-xs) ∙ under-all xs ps once long

-- so are those of the second
pair-second : (xs ys ps qs : List ℕ) → has_twice ys ≡ false → length ps ≡ length xs → length qs ≡ length ys → ((i : ℕ) → contains ys i ≡ true → contains xs i ≡ false) → map (under (xs ++ ys) (ps ++ qs)) ys ≡ qs
pair-second xs ys ps qs once long longer apart =
    same-images (under (xs ++ ys) (ps ++ qs)) (under ys qs) ys (λ i in-ys. under-second xs ys ps qs i long (apart i in-ys)) ∙ under-all ys qs once longer

-- a number of a position is below the length of its index
named-below : (len : ℕ → ℕ) (is position : List ℕ) (i : ℕ) → IsTupleOf (map len is) position → contains is i ≡ true → under is position i < len i
named-below len is position i are in-is = subst (λ n. under is position i < n) (under-image len is i in-is) (under-below is (map len is) position i (length-map is len) are in-is)

-- tuples at one place are one
same-place : (dims s t : List ℕ) → IsTupleOf dims s → IsTupleOf dims t → place_of dims s ≡ place_of dims t → s ≡ t
same-place dims s t first second same = sym (tuple-of-place dims s first) ∙ (ap (tuple_at dims) same ∙ tuple-of-place dims t second)

-- numbers for the indices of a block, each below its length, have a place in it
laid-tuple : (block : Sight) → IsLaid block → (v : ℕ → ℕ) → ((i : ℕ) → contains block.at i ≡ true → v i < length_under block i) → IsTupleOf (lengths block.extents) (map v block.at)
laid-tuple block laid v below = subst (λ (dims : List ℕ). IsTupleOf dims (map v block.at)) (sym (lengths-are block laid)) (tuple-image v (length_under block) block.at below)

laid-within : (block : Sight) → IsLaid block → (v : ℕ → ℕ) → ((i : ℕ) → contains block.at i ≡ true → v i < length_under block i) → place_of (lengths block.extents) (map v block.at) < length block.words
laid-within block laid v below =
    let within : place_of (lengths block.extents) (map v block.at) < volume (lengths block.extents) = place-within (lengths block.extents) (map v block.at) (laid-tuple block laid v below) in
    let long = laid.words in
    omega (arith, within, long)

module _ (to left right : Sight) (fits : IsContraction to left right) where
  -- the indices of the first block alone, of the second alone, and of both
  abbrev rows : List ℕ
  rows = filter (λ i. not (contains right.at i)) left.at

  abbrev columns : List ℕ
  columns = filter (λ i. not (contains left.at i)) right.at

  abbrev common : List ℕ
  common = shared_indices left.at right.at

  -- axes as long as in the first, and as in the second
  abbrev by-left : ℕ → Axis
  by-left = axis_of left to left right

  abbrev by-right : ℕ → Axis
  by-right = axis_of right to left right

  -- members of these lists
  row-from : (i : ℕ) → contains rows i ≡ true → (contains left.at i ≡ true) × (contains right.at i ≡ false)
  row-from i is = let both = kept-from (λ i. not (contains right.at i)) left.at i is in (both.0, not-so (contains right.at i) both.1)

  column-from : (i : ℕ) → contains columns i ≡ true → (contains right.at i ≡ true) × (contains left.at i ≡ false)
  column-from i is = let both = kept-from (λ i. not (contains left.at i)) right.at i is in (both.0, not-so (contains left.at i) both.1)

  common-from : (i : ℕ) → contains common i ≡ true → (contains left.at i ≡ true) × (contains right.at i ≡ true)
  common-from i is = kept-from (contains right.at) left.at i is

  row-made : (i : ℕ) → contains left.at i ≡ true → contains right.at i ≡ false → contains rows i ≡ true
  row-made i in-left absent = kept (λ i. not (contains right.at i)) left.at i in-left (ap not absent)

  column-made : (i : ℕ) → contains right.at i ≡ true → contains left.at i ≡ false → contains columns i ≡ true
  column-made i in-right absent = kept (λ i. not (contains left.at i)) right.at i in-right (ap not absent)

  common-made : (i : ℕ) → contains left.at i ≡ true → contains right.at i ≡ true → contains common i ≡ true
  common-made i in-left in-right = kept (contains right.at) left.at i in-left in-right

  -- none stands twice
  rows-once : has_twice rows ≡ false
  rows-once = kept-once (λ i. not (contains right.at i)) left.at fits.first.once

  columns-once : has_twice columns ≡ false
  columns-once = kept-once (λ i. not (contains left.at i)) right.at fits.second.once

  common-once : has_twice common ≡ false
  common-once = kept-once (contains right.at) left.at fits.first.once

  -- and the lists share nothing
  not-true : (b : Bool) → b ≡ false → b ≡ true → ⊥
  not-true b f t = never (sym f ∙ t)

  common-no-row : (i : ℕ) → contains common i ≡ true → contains rows i ≡ false
  common-no-row i is = absent rows i (λ q. not-true (contains right.at i) (row-from i q).1 (common-from i is).1)

  common-no-column : (i : ℕ) → contains common i ≡ true → contains columns i ≡ false
  common-no-column i is = absent columns i (λ q. not-true (contains left.at i) (column-from i q).1 (common-from i is).0)

  column-no-row : (i : ℕ) → contains columns i ≡ true → contains rows i ≡ false
  column-no-row i is = absent rows i (λ q. not-true (contains left.at i) (column-from i is).1 (row-from i q).0)

  row-no-column : (i : ℕ) → contains rows i ≡ true → contains columns i ≡ false
  row-no-column i is = absent columns i (λ q. not-true (contains right.at i) (row-from i is).1 (column-from i q).0)

  -- the target's indices are the rows and the columns
  target-either : (i : ℕ) → contains to.at i ≡ true → contains (rows ++ columns) i ≡ true
  target-either i in-to = all-at to.at (rows ++ columns) (first-holds (all_in to.at (rows ++ columns)) (all_in (rows ++ columns) to.at) fits.alone) i in-to

  either-target : (i : ℕ) → contains (rows ++ columns) i ≡ true → contains to.at i ≡ true
  either-target i is = all-at (rows ++ columns) to.at (second-holds (all_in to.at (rows ++ columns)) (all_in (rows ++ columns) to.at) fits.alone) i is

  row-target : (i : ℕ) → contains rows i ≡ true → contains to.at i ≡ true
  row-target i is = either-target i (either-list rows columns i ∙ or-left (contains rows i) (contains columns i) is)

  column-target : (i : ℕ) → contains columns i ≡ true → contains to.at i ≡ true
  column-target i is = either-target i (either-list rows columns i ∙ or-right (contains rows i) (contains columns i) is)

  common-no-target : (i : ℕ) → contains common i ≡ true → contains to.at i ≡ false
  common-no-target i is =
      absent to.at i (λ q.
      elim (either-holds (contains rows i) (contains columns i) (sym (either-list rows columns i) ∙ target-either i q)) as (λ x. ⊥) [
        | inl row ↦ not-true (contains rows i) (common-no-row i is) row
        | inr column ↦ not-true (contains columns i) (common-no-column i is) column
      ])

  target-once : has_twice (rows ++ columns) ≡ false
  target-once = joined-once rows columns rows-once columns-once row-no-column

  -- no index stands twice in the target and among those of both, and each of the blocks' stands there
  pub joined-apart : has_twice (to.at ++ common) ≡ false
  joined-apart = joined-once to.at common fits.target.once common-once (λ i in-to. absent common i (λ q. not-true (contains to.at i) (common-no-target i q) in-to))

  pub all-named : (all_in left.at (to.at ++ common) ≡ true) × (all_in right.at (to.at ++ common) ≡ true)
  all-named = (
    all-made left.at (to.at ++ common) (λ i in-left. either-list to.at common i ∙ elim (contains right.at i) as (λ b. contains right.at i ≡ b → (contains to.at i || contains common i) ≡ true) [
      | true ↦ λ e. or-right (contains to.at i) (contains common i) (common-made i in-left e)
      | false ↦ λ e. or-left (contains to.at i) (contains common i) (row-target i (row-made i in-left e))
    ] refl),
    all-made right.at (to.at ++ common) (λ i in-right. either-list to.at common i ∙ elim (contains left.at i) as (λ b. contains left.at i ≡ b → (contains to.at i || contains common i) ≡ true) [
      | true ↦ λ e. or-right (contains to.at i) (contains common i) (common-made i e in-right)
      | false ↦ λ e. or-left (contains to.at i) (contains common i) (column-target i (column-made i in-right e))
    ] refl),
  )

  -- how many there are
  pub left-count : length (map by-left rows) + length (map by-left common) ≡ length left.at
  left-count =
      let split = sum-split (contains right.at) (λ i. 1) left.at in
      let a = ones left.at in
      let b = ones common in
      let c = ones rows in
      let d = length-map rows by-left in
      let e = length-map common by-left in
      omega (arith, split, a, b, c, d, e)

  pub right-count : length (map by-right columns) + length (map by-left common) ≡ length right.at
  right-count =
      let split = sum-split (contains left.at) (λ i. 1) right.at in
      let same : sum_by (λ i. 1) common ≡ sum_by (λ i. 1) (filter (contains left.at) right.at) = common-sum (λ i. 1) in
      let a = ones right.at in
      let b = ones common in
      let c = ones columns in
      let d = length-map columns by-right in
      let e = length-map common by-left in
      omega (arith, split, same, a, b, c, d, e)
    where
      common-sum : (f : ℕ → ℕ) → sum_by f common ≡ sum_by f (filter (contains left.at) right.at)
      common-sum f =
          same-sum f common (filter (contains left.at) right.at) common-once (kept-once (contains left.at) right.at fits.second.once)
          (λ i is. let both = common-from i is in kept (contains left.at) right.at i both.1 both.0)
          (λ i is. let both = kept-from (contains left.at) right.at i is in common-made i both.1 both.0)

  pub target-count : length (map by-left rows) + length (map by-right columns) ≡ length to.at
  target-count =
      let whole = same-sum (λ i. 1) (rows ++ columns) to.at target-once fits.target.once either-target target-either in
      let parts = sum_by-append (λ (i : ℕ). 1) rows columns in
      let a = ones to.at in
      let b = ones rows in
      let c = ones columns in
      let d = length-map rows by-left in
      let e = length-map columns by-right in
      omega (arith, whole, parts, a, b, c, d, e)

  -- offsets of named numbers in the three blocks
  left-place : (v : ℕ → ℕ) → offset_a (map by-left rows) (map v rows) + offset_a (map by-left common) (map v common) ≡ place_of (lengths left.extents) (map v left.at)
  left-place v =
      let f : ℕ → ℕ = λ i. v i * stride_in left i in
      let a : offset_a (map by-left rows) (map v rows) ≡ sum_by f rows = offset-sum (λ x. x.a) by-left v rows in
      let b : offset_a (map by-left common) (map v common) ≡ sum_by f common = offset-sum (λ x. x.a) by-left v common in
      let split : sum_by f left.at ≡ sum_by f common + sum_by f rows = sum-split (contains right.at) f left.at in
      let whole : place_of (lengths left.extents) (map v left.at) ≡ sum_by f left.at = place-sum v left.at (lengths left.extents) fits.first.once (lengths-long left fits.first) in
      omega (arith, a, b, split, whole)

  right-place : (v : ℕ → ℕ) → offset_b (map by-right columns) (map v columns) + offset_b (map by-left common) (map v common) ≡ place_of (lengths right.extents) (map v right.at)
  right-place v =
      let f : ℕ → ℕ = λ i. v i * stride_in right i in
      let a : offset_b (map by-right columns) (map v columns) ≡ sum_by f columns = offset-sum (λ x. x.b) by-right v columns in
      let b : offset_b (map by-left common) (map v common) ≡ sum_by f common = offset-sum (λ x. x.b) by-left v common in
      let split : sum_by f right.at ≡ sum_by f (filter (contains left.at) right.at) + sum_by f columns = sum-split (contains left.at) f right.at in
      let same : sum_by f common ≡ sum_by f (filter (contains left.at) right.at) =
      same-sum f common (filter (contains left.at) right.at) common-once (kept-once (contains left.at) right.at fits.second.once)
      (λ i is. let both = common-from i is in kept (contains left.at) right.at i both.1 both.0)
      (λ i is. let both = kept-from (contains left.at) right.at i is in common-made i both.1 both.0) in
      let whole : place_of (lengths right.extents) (map v right.at) ≡ sum_by f right.at = place-sum v right.at (lengths right.extents) fits.second.once (lengths-long right fits.second) in
      omega (arith, a, b, split, same, whole)

  target-place : (v : ℕ → ℕ) → offset_to (map by-left rows) (map v rows) + offset_to (map by-right columns) (map v columns) ≡ place_of (lengths to.extents) (map v to.at)
  target-place v =
      let f : ℕ → ℕ = λ i. v i * stride_in to i in
      let a : offset_to (map by-left rows) (map v rows) ≡ sum_by f rows = offset-sum (λ x. x.to) by-left v rows in
      let b : offset_to (map by-right columns) (map v columns) ≡ sum_by f columns = offset-sum (λ x. x.to) by-right v columns in
      let parts : sum_by f (rows ++ columns) ≡ sum_by f rows + sum_by f columns = sum_by-append f rows columns in
      let same : sum_by f (rows ++ columns) ≡ sum_by f to.at = same-sum f (rows ++ columns) to.at target-once fits.target.once either-target target-either in
      let whole : place_of (lengths to.extents) (map v to.at) ≡ sum_by f to.at = place-sum v to.at (lengths to.extents) fits.target.once (lengths-long to fits.target) in
      omega (arith, a, b, parts, same, whole)

  -- numbers for rows and columns, and for the indices of both
  row-below : (f : List ℕ) (i : ℕ) → IsPosition (map by-left rows) f → contains rows i ≡ true → under rows f i < length_under left i
  row-below f i are is = named-below (length_under left) rows f i (axis-tuple by-left rows f are) is

  column-below : (g : List ℕ) (i : ℕ) → IsPosition (map by-right columns) g → contains columns i ≡ true → under columns g i < length_under right i
  column-below g i are is = named-below (length_under right) columns g i (axis-tuple by-right columns g are) is

  common-below : (s : List ℕ) (i : ℕ) → IsPosition (map by-left common) s → contains common i ≡ true → under common s i < length_under left i
  common-below s i are is = named-below (length_under left) common s i (axis-tuple by-left common s are) is

  rows-long : (f : List ℕ) → IsPosition (map by-left rows) f → length f ≡ length rows
  rows-long f are = axis-long (map by-left rows) f are ∙ length-map rows by-left

  columns-long : (g : List ℕ) → IsPosition (map by-right columns) g → length g ≡ length columns
  columns-long g are = axis-long (map by-right columns) g are ∙ length-map columns by-right

  common-long : (s : List ℕ) → IsPosition (map by-left common) s → length s ≡ length common
  common-long s are = axis-long (map by-left common) s are ∙ length-map common by-left

  -- the numbers of a target's position are below its lengths
  target-below : (f g : List ℕ) → IsPosition (map by-left rows) f → IsPosition (map by-right columns) g → (i : ℕ) → contains to.at i ≡ true → under (rows ++ columns) (f ++ g) i < length_under to i
  target-below f g rows-are columns-are i in-to =
      elim (either-holds (contains rows i) (contains columns i) (sym (either-list rows columns i) ∙ target-either i in-to)) as (λ x. under (rows ++ columns) (f ++ g) i < length_under to i) [
        | inl row ↦
            subst (λ n. n < length_under to i) (sym (under-first rows columns f g i (rows-long f rows-are) row))
            (subst (λ n. under rows f i < n) (sym (fits.left_free i in-to (row-from i row).0)) (row-below f i rows-are row))
        | inr column ↦
            subst (λ n. n < length_under to i) (sym (under-second rows columns f g i (rows-long f rows-are) (column-no-row i column)))
            (subst (λ n. under columns g i < n) (sym (fits.right_free i in-to (column-from i column).0)) (column-below g i columns-are column))
      ]

  -- where a target's position lies
  target-at : (f g : List ℕ) → IsPosition (map by-left rows) f → IsPosition (map by-right columns) g
      → kernel.target (map by-left rows) (map by-right columns) f g ≡ place_of (lengths to.extents) (map (under (rows ++ columns) (f ++ g)) to.at)
  target-at f g rows-are columns-are =
      let v = under (rows ++ columns) (f ++ g) in
      let first : map v rows ≡ f = pair-first rows columns f g rows-once (rows-long f rows-are) in
      let second : map v columns ≡ g = pair-second rows columns f g columns-once (rows-long f rows-are) (columns-long g columns-are) column-no-row in
      ap (λ x. offset_to (map by-left rows) x + offset_to (map by-right columns) g) (sym first)
      ∙ (ap (λ x. offset_to (map by-left rows) (map v rows) + offset_to (map by-right columns) x) (sym second) ∙ target-place v)

  -- all positions lie in the blocks, and those of the target differ
  pub contraction-fits : (n : ℕ) → length to.words ≡ n → kernel.Fits (length left.words) (length right.words) n (map by-left rows) (map by-right columns) (map by-left common)
  contraction-fits n long = record {
    in_a = λ f g s rows-are columns-are common-are.
        let v = under (rows ++ common) (f ++ s) in
        let first : map v rows ≡ f = pair-first rows common f s rows-once (rows-long f rows-are) in
        let second : map v common ≡ s = pair-second rows common f s common-once (rows-long f rows-are) (common-long s common-are) common-no-row in
        let at : offset_a (map by-left rows) f + offset_a (map by-left common) s ≡ place_of (lengths left.extents) (map v left.at) =
        ap (λ x. offset_a (map by-left rows) x + offset_a (map by-left common) s) (sym first)
        ∙ (ap (λ x. offset_a (map by-left rows) (map v rows) + offset_a (map by-left common) x) (sym second) ∙ left-place v) in
        subst (λ x. x < length left.words) (sym at)
        (laid-within left fits.first v (λ i in-left.
        elim (contains right.at i) as (λ b. contains right.at i ≡ b → v i < length_under left i) [
          | true ↦ λ e.
              let is = common-made i in-left e in
              subst (λ x. x < length_under left i) (sym (under-second rows common f s i (rows-long f rows-are) (common-no-row i is))) (common-below s i common-are is)
          | false ↦ λ e.
              let is = row-made i in-left e in
              subst (λ x. x < length_under left i) (sym (under-first rows common f s i (rows-long f rows-are) is)) (row-below f i rows-are is)
        ] refl));
    in_b = λ f g s rows-are columns-are common-are.
        let v = under (columns ++ common) (g ++ s) in
        let first : map v columns ≡ g = pair-first columns common g s columns-once (columns-long g columns-are) in
        let second : map v common ≡ s = pair-second columns common g s common-once (columns-long g columns-are) (common-long s common-are) common-no-column in
        let at : offset_b (map by-right columns) g + offset_b (map by-left common) s ≡ place_of (lengths right.extents) (map v right.at) =
        ap (λ x. offset_b (map by-right columns) x + offset_b (map by-left common) s) (sym first)
        ∙ (ap (λ x. offset_b (map by-right columns) (map v columns) + offset_b (map by-left common) x) (sym second) ∙ right-place v) in
        subst (λ x. x < length right.words) (sym at)
        (laid-within right fits.second v (λ i in-right.
        elim (contains left.at i) as (λ b. contains left.at i ≡ b → v i < length_under right i) [
          | true ↦ λ e.
              let is = common-made i e in-right in
              subst (λ x. x < length_under right i) (sym (under-second columns common g s i (columns-long g columns-are) (common-no-column i is)))
              (subst (λ x. under common s i < x) (fits.alike i e in-right) (common-below s i common-are is))
          | false ↦ λ e.
              let is = column-made i in-right e in
              subst (λ x. x < length_under right i) (sym (under-first columns common g s i (columns-long g columns-are) is)) (column-below g i columns-are is)
        ] refl));
    in_to = λ f g rows-are columns-are.
        subst (λ x. x < n) (sym (target-at f g rows-are columns-are))
        (subst (λ x. place_of (lengths to.extents) (map (under (rows ++ columns) (f ++ g)) to.at) < x) long
        (laid-within to fits.target (under (rows ++ columns) (f ++ g)) (target-below f g rows-are columns-are)));
    differ = λ f g h k rows-f columns-g rows-h columns-k same.
        let v = under (rows ++ columns) (f ++ g) in
        let w = under (rows ++ columns) (h ++ k) in
        let placed : place_of (lengths to.extents) (map v to.at) ≡ place_of (lengths to.extents) (map w to.at) = sym (target-at f g rows-f columns-g) ∙ (same ∙ target-at h k rows-h columns-k) in
        let images : map v to.at ≡ map w to.at =
        same-place (lengths to.extents) (map v to.at) (map w to.at)
        (laid-tuple to fits.target v (target-below f g rows-f columns-g))
        (laid-tuple to fits.target w (target-below h k rows-h columns-k))
        placed in
        let rows-agree : map v rows ≡ map w rows = same-images v w rows (λ i is. images-agree v w to.at images i (row-target i is)) in
        let columns-agree : map v columns ≡ map w columns = same-images v w columns (λ i is. images-agree v w to.at images i (column-target i is)) in (
          sym (pair-first rows columns f g rows-once (rows-long f rows-f)) ∙ (rows-agree ∙ pair-first rows columns h k rows-once (rows-long h rows-h)),
          sym (pair-second rows columns f g columns-once (rows-long f rows-f) (columns-long g columns-g) column-no-row)
              ∙ (columns-agree ∙ pair-second rows columns h k columns-once (rows-long h rows-h) (columns-long k columns-k) column-no-row),
        );
  }

  -- each number of the target has met its sum
  pub contraction-meets : (how : How) (old new : List ℕ) → kernel.Contracted left.words right.words old new (map by-left rows) (map by-right columns) (map by-left common) how
      → Met how (lengths to.extents) (λ t. summed to.at t left right) old new
  contraction-meets how old new done = record {
    each = λ tuple are.
        let u = under to.at tuple in
        let f = map u rows in
        let g = map u columns in
        let long : length tuple ≡ length to.at = tuple-long (lengths to.extents) tuple are ∙ lengths-long to fits.target in
        let below : (i : ℕ) → contains to.at i ≡ true → u i < length_under to i = λ i in-to. under-below to.at (lengths to.extents) tuple i (lengths-long to fits.target) are in-to in
        let rows-are : IsPosition (map by-left rows) f = axis-position by-left u rows (λ i is. subst (λ n. u i < n) (fits.left_free i (row-target i is) (row-from i is).0) (below i (row-target i is))) in
        let columns-are : IsPosition (map by-right columns) g = axis-position by-right u columns (λ i is. subst (λ n. u i < n) (fits.right_free i (column-target i is) (column-from i is).0) (below i (column-target i is))) in
        let at : kernel.target (map by-left rows) (map by-right columns) f g ≡ place_of (lengths to.extents) tuple = target-place u ∙ ap (place_of (lengths to.extents)) (under-all to.at tuple fits.target.once long) in
        let term = kernel.product_at left.words right.words (map by-left rows) (map by-right columns) (map by-left common) f g in
        let named : List ℕ → ℕ = λ s. word_under (to.at ++ common) (tuple ++ s) left * word_under (to.at ++ common) (tuple ++ s) right in
        let terms : (s : List ℕ) → IsTupleOf (map (length_under left) common) s → term s ≡ named s =
        (λ s s-are.
        let v = under (to.at ++ common) (tuple ++ s) in
        let s-long : length s ≡ length common = tuple-long (map (length_under left) common) s s-are ∙ length-map common (length_under left) in
        let of-rows : f ≡ map v rows = same-images u v rows (λ i is. sym (under-first to.at common tuple s i long (row-target i is))) in
        let of-columns : g ≡ map v columns = same-images u v columns (λ i is. sym (under-first to.at common tuple s i long (column-target i is))) in
        let of-common : s ≡ map v common = sym (pair-second to.at common tuple s common-once long s-long common-no-target) in
        let in-left : offset_a (map by-left rows) f + offset_a (map by-left common) s ≡ place_of (lengths left.extents) (map v left.at) =
        ap (λ x. offset_a (map by-left rows) x + offset_a (map by-left common) s) of-rows
        ∙ (ap (λ x. offset_a (map by-left rows) (map v rows) + offset_a (map by-left common) x) of-common ∙ left-place v) in
        let in-right : offset_b (map by-right columns) g + offset_b (map by-left common) s ≡ place_of (lengths right.extents) (map v right.at) =
        ap (λ x. offset_b (map by-right columns) x + offset_b (map by-left common) s) of-columns
        ∙ (ap (λ x. offset_b (map by-right columns) (map v columns) + offset_b (map by-left common) x) of-common ∙ right-place v) in
        ap (λ p. slice_index left.words p * slice_index right.words (offset_b (map by-right columns) g + offset_b (map by-left common) s)) in-left
        ∙ ap (λ p. slice_index left.words (place_of (lengths left.extents) (map v left.at)) * slice_index right.words p) in-right) in
        let value : kernel.value left.words right.words (map by-left rows) (map by-right columns) (map by-left common) f g ≡ summed to.at tuple left right =
        ap (λ n. n % 2 ^ 64) (sum-tuples by-left common term ∙ sum-alike term named (map (length_under left) common) terms) in
        ap (slice_index new) (sym at)
        ∙ (done.named f g rows-are columns-are
        ∙ (ap (λ p. combined how (slice_index old p) (kernel.value left.words right.words (map by-left rows) (map by-right columns) (map by-left common) f g)) at
        ∙ ap (combined how (slice_index old (place_of (lengths to.extents) tuple))) value));
    len = done.len;
  }

  -- lists of these axes are few enough, fit, and give the sums
  pub listed-few : (a b s : List Axis) → a ≡ map by-left rows → b ≡ map by-right columns → s ≡ map by-left common → (length a + length s ≤ 6) × (length b + length s ≤ 6) × (length a + length b ≤ 6)
  listed-few a b s a-is b-is s-is =
      let one = left-count in
      let two = right-count in
      let three = target-count in
      let first = fits.first.most in
      let second = fits.second.most in
      let third = fits.target.most in
      let la = ap length a-is in
      let lb = ap length b-is in
      let ls = ap length s-is in
      (omega (arith, one, first, la, ls), omega (arith, two, second, lb, ls), omega (arith, three, third, la, lb))

  pub listed-fits : (a b s : List Axis) (n : ℕ) → a ≡ map by-left rows → b ≡ map by-right columns → s ≡ map by-left common → length to.words ≡ n → kernel.Fits (length left.words) (length right.words) n a b s
  listed-fits a b s n a-is b-is s-is long =
      subst (λ (x : List Axis). kernel.Fits (length left.words) (length right.words) n x b s) (sym a-is)
      (subst (λ (x : List Axis). kernel.Fits (length left.words) (length right.words) n (map by-left rows) x s) (sym b-is)
      (subst (λ (x : List Axis). kernel.Fits (length left.words) (length right.words) n (map by-left rows) (map by-right columns) x) (sym s-is) (contraction-fits n long)))

  pub listed-meets : (how : How) (old new : List ℕ) (a b s : List Axis) → a ≡ map by-left rows → b ≡ map by-right columns → s ≡ map by-left common → kernel.Contracted left.words right.words old new a b s how
      → Met how (lengths to.extents) (λ t. summed to.at t left right) old new
  listed-meets how old new a b s a-is b-is s-is done =
      contraction-meets how old new
      (subst (λ (x : List Axis). kernel.Contracted left.words right.words old new x (map by-right columns) (map by-left common) how) a-is
      (subst (λ (x : List Axis). kernel.Contracted left.words right.words old new a x (map by-left common) how) b-is
      (subst (λ (x : List Axis). kernel.Contracted left.words right.words old new a b x how) s-is done)))

  -- where all products are 0 the sums are
  contraction-of-nothing : (how : How) (old new : List ℕ) → ((names tuple : List ℕ) → word_under names tuple left * word_under names tuple right ≡ 0) → Met how (lengths to.extents) (λ t. 0) old new
      → Met how (lengths to.extents) (λ t. summed to.at t left right) old new
  contraction-of-nothing how old new none met = record {
    each = λ tuple are. met.each tuple are ∙ ap (combined how (slice_index old (place_of (lengths to.extents) tuple))) (sym (zero-sum (λ s. word_under (to.at ++ common) (tuple ++ s) left * word_under (to.at ++ common) (tuple ++ s) right) (tuples (map (length_under left) common)) (λ s. none (to.at ++ common) (tuple ++ s))));
    len = met.len;
  }
    where
      all-zero : (term : List ℕ → ℕ) (ts : List (List ℕ)) → ((s : List ℕ) → term s ≡ 0) → sum_by term ts ≡ 0
      all-zero term [] none = refl
      all-zero term (t ∷ ts) none = let rest = all-zero term ts none in let first = none t in let whole = sum_by-cons term t ts in omega (arith, rest, first, whole)

      zero-sum : (term : List ℕ → ℕ) (ts : List (List ℕ)) → ((s : List ℕ) → term s ≡ 0) → sum_by term ts % 2 ^ 64 ≡ 0
      zero-sum term ts none = ap (λ n. n % 2 ^ 64) (all-zero term ts none)

  -- as they are where the first block has no numbers
  pub first-of-nothing : (how : How) (old new : List ℕ) → ◌≡◌ {A = List ℕ} left.words [] → Met how (lengths to.extents) (λ t. 0) old new → Met how (lengths to.extents) (λ t. summed to.at t left right) old new
  first-of-nothing how old new none met =
      contraction-of-nothing how old new (λ names tuple.
      let zero : word_under names tuple left ≡ 0 = ap (λ ws. slice_index ws (place_of (lengths left.extents) (map (under names tuple) left.at))) none in
      ap (λ n. n * word_under names tuple right) zero ∙ nothing-times (word_under names tuple right)) met
    where
      nothing-times : (n : ℕ) → 0 * n ≡ 0
      nothing-times n = omega arith

  -- or the second
  pub second-of-nothing : (how : How) (old new : List ℕ) → ◌≡◌ {A = List ℕ} right.words [] → Met how (lengths to.extents) (λ t. 0) old new → Met how (lengths to.extents) (λ t. summed to.at t left right) old new
  second-of-nothing how old new none met =
      contraction-of-nothing how old new (λ names tuple.
      let zero : word_under names tuple right ≡ 0 = ap (λ ws. slice_index ws (place_of (lengths right.extents) (map (under names tuple) right.at))) none in
      ap (λ n. word_under names tuple left * n) zero ∙ times-nothing (word_under names tuple left)) met
    where
      times-nothing : (n : ℕ) → n * 0 ≡ 0
      times-nothing n = omega arith
