-- What is known where nothing is refused: arrays fit, and blocks have their places.
use Rattle.std.proofs.Common.{◌≡◌, ℕ, zero, suc, ◌+◌, ◌<◌, ◌≤◌, List, [], ◌∷◌, ◌++◌, map, length, slice_index_or, Bool, true, false, ◌&&◌, ◌||◌, ◌==◌, not, if◌then◌else◌, Option, Some, None, refl, sym, ap, ◌∙◌, subst, append_assoc, append-nil, arith}
use Rattle.std.specs.Prelude.{nat_lt, nat_le, unwrap_or}
use Rattle.std.specs.List.{list_all}
use Rattle.std.proofs.lemmas.Bool.{and_parts, and_from, leb-true}
use Rattle.std.proofs.lemmas.Bool.Decides.{nat_tests}
use Rattle.sial_syntax.specs.declared.array.ArrayDecl.{ArrayDecl}
use Rattle.sial_syntax.specs.declared.array.ArrayKind.{ArrayKind}
use Rattle.sial_syntax.specs.declared.array.ArrayKind.TheVariants.{Static, Temp, Local, Distributed, Served}
use Rattle.sial_syntax.specs.Agreeing.{array_in}
use Rattle.sial_syntax.specs.BoxLaws.{AreSegments}
use Rattle.sial_syntax.specs.Limits.{most_words, most_blocks, most_together}
use Rattle.sial_syntax.specs.Resolved.{is_narrow, has_few_blocks}
use Rattle.sial_syntax.specs.Spaces.{Spaces, first_of, count_of, blocks_of, blocks_together, same_kind, words_in}
use Rattle.sial_syntax.specs.Tree.{Tree}
use Rattle.sial_syntax.specs.Widths.{widest_block}
use Rattle.sip_input.specs.declared.start_line.BlockLine.{BlockLine}
use Rattle.index_spaces.specs.declared.fault.SpaceFault.{SpaceFault}
use Rattle.index_spaces.specs.Given.{array_named}
use Rattle.index_spaces.specs.Placed.{array_among, bare, is_temp}
use Rattle.index_spaces.specs.Refusing.{or_else, fault_if, array_refusal, arrays_refusal, are_segments, may_be_given, means_fitting, bad_start, block_refusal}
use Rattle.index_spaces.proofs.LaidLemmas.{together-cons, blocks_if, not-temp}

-- where the first of two isn't there, neither is
pub neither : {X : Type 0} (a b : Option X) → or_else a b ≡ None → (a ≡ None) × (b ≡ None)
neither None b e = (refl, e)
neither (Some x) b e = absurd cc

-- an array that isn't refused: not too wide, and where it is counted neither its blocks nor those of its kind are too many
tests-false : (wide temp many crowded : Bool) (a b c : SpaceFault) → (if wide then Some a else if temp then None else if many then Some b else fault_if crowded c) ≡ None
    → (wide ≡ false) × ((temp || not many) ≡ true) × (temp ≡ false → crowded ≡ false)
tests-false true temp many crowded a b c e = absurd cc
tests-false false true many crowded a b c e = (refl, refl, λ f. absurd cc)
tests-false false false true crowded a b c e = absurd cc
tests-false false false false true a b c e = absurd cc
tests-false false false false false a b c e = (refl, refl, λ f. refl)

-- a number that isn't above another is at most it
not-above : (most n : ℕ) → nat_lt most n ≡ false → nat_le n most ≡ true
not-above most n e = grind (arith, nat_tests)

-- the same, of an array that is counted or not
not-many : (temp : Bool) (most n : ℕ) → (temp || not (nat_lt most n)) ≡ true → (temp || nat_le n most) ≡ true
not-many true most n e = refl
not-many false most n e = grind (arith, nat_tests)

-- an array that isn't refused fits
pub array-fits : (spaces : Spaces) (before : List ArrayDecl) (a : ArrayDecl) → array_refusal spaces before a ≡ None
    → (is_narrow spaces a ≡ true) × (has_few_blocks spaces a ≡ true) × (same_kind a.kind Temp ≡ false → blocks_together spaces a.kind (before ++ a ∷ []) ≤ most_together)
array-fits spaces before a none =
    let tests = tests-false (nat_lt most_words (widest_block spaces a.dims)) (same_kind a.kind Temp) (nat_lt most_blocks (blocks_of spaces a)) (nat_lt most_together (blocks_together spaces a.kind (before ++ a ∷ []))) _ _ _ none in (
      not-above most_words (widest_block spaces a.dims) tests.0,
      not-many (same_kind a.kind Temp) most_blocks (blocks_of spaces a) tests.1,
      λ counted. leb-true (blocks_together spaces a.kind (before ++ a ∷ [])) most_together (not-above most_together (blocks_together spaces a.kind (before ++ a ∷ [])) (tests.2 counted)),
    )

-- arrays that aren't refused aren't too wide, and don't have too many blocks
pub arrays-fit : (spaces : Spaces) (before arrays : List ArrayDecl) → arrays_refusal spaces before arrays ≡ None → (list_all (is_narrow spaces) arrays ≡ true) × (list_all (has_few_blocks spaces) arrays ≡ true)
arrays-fit spaces before [] none = (refl, refl)
arrays-fit spaces before (a ∷ others) none =
    let parts = neither (array_refusal spaces before a) (arrays_refusal spaces (before ++ a ∷ []) others) none in
    let first = array-fits spaces before a parts.0 in
    let rest = arrays-fit spaces (before ++ a ∷ []) others parts.1 in
    (and_from (is_narrow spaces a) (list_all (is_narrow spaces) others) first.0 rest.0, and_from (has_few_blocks spaces a) (list_all (has_few_blocks spaces) others) first.1 rest.1)

-- arrays of one kind
same-is : (x y : ArrayKind) → same_kind x y ≡ true → x ≡ y
same-is Static Static e = refl
same-is Static Temp e = absurd cc
same-is Static Local e = absurd cc
same-is Static Distributed e = absurd cc
same-is Static Served e = absurd cc
same-is Temp Temp e = refl
same-is Temp Static e = absurd cc
same-is Temp Local e = absurd cc
same-is Temp Distributed e = absurd cc
same-is Temp Served e = absurd cc
same-is Local Local e = refl
same-is Local Static e = absurd cc
same-is Local Temp e = absurd cc
same-is Local Distributed e = absurd cc
same-is Local Served e = absurd cc
same-is Distributed Distributed e = refl
same-is Distributed Static e = absurd cc
same-is Distributed Temp e = absurd cc
same-is Distributed Local e = absurd cc
same-is Distributed Served e = absurd cc
same-is Served Served e = refl
same-is Served Static e = absurd cc
same-is Served Temp e = absurd cc
same-is Served Local e = absurd cc
same-is Served Distributed e = absurd cc

-- the blocks of a kind up to an array: those before it, and its own where it is of the kind
together-snoc : (spaces : Spaces) (kind : ArrayKind) (before : List ArrayDecl) (a : ArrayDecl)
    → blocks_together spaces kind (before ++ a ∷ []) ≡ blocks_together spaces kind before + blocks_if (same_kind a.kind kind) (blocks_of spaces a)
together-snoc spaces kind [] a =
    let none : blocks_together spaces kind [] ≡ 0 = refl in
    omega (arith, together-cons spaces kind a [])
together-snoc spaces kind (b ∷ bs) a = omega (arith, together-cons spaces kind b (bs ++ a ∷ []), together-cons spaces kind b bs, together-snoc spaces kind bs a)

-- one more array leaves those of a kind not too many
next-together : (spaces : Spaces) (kind : ArrayKind) (before : List ArrayDecl) (a : ArrayDecl) → same_kind kind Temp ≡ false → array_refusal spaces before a ≡ None
    → blocks_together spaces kind before ≤ most_together → blocks_together spaces kind (before ++ a ∷ []) ≤ most_together
next-together spaces kind before a counted none few = by (same_kind a.kind kind) refl
  where
    by : (t : Bool) → same_kind a.kind kind ≡ t → blocks_together spaces kind (before ++ a ∷ []) ≤ most_together
    by true e =
        subst (λ (k : ArrayKind). blocks_together spaces k (before ++ a ∷ []) ≤ most_together) (same-is a.kind kind e)
        ((array-fits spaces before a none).2 (not-temp a.kind kind e counted))
    by false e =
        let own : blocks_if (same_kind a.kind kind) (blocks_of spaces a) ≡ 0 = ap (λ (t : Bool). blocks_if t (blocks_of spaces a)) e in
        omega (arith, together-snoc spaces kind before a, own, few)

-- arrays that aren't refused aren't too many together
pub together-fit : (spaces : Spaces) (kind : ArrayKind) (before arrays : List ArrayDecl) → same_kind kind Temp ≡ false → arrays_refusal spaces before arrays ≡ None
    → blocks_together spaces kind before ≤ most_together → blocks_together spaces kind (before ++ arrays) ≤ most_together
together-fit spaces kind before [] counted none few = subst (λ (xs : List ArrayDecl). blocks_together spaces kind xs ≤ most_together) (sym (append-nil before)) few
together-fit spaces kind before (a ∷ others) counted none few =
    let parts = neither (array_refusal spaces before a) (arrays_refusal spaces (before ++ a ∷ []) others) none in
    subst (λ (xs : List ArrayDecl). blocks_together spaces kind xs ≤ most_together) (append_assoc before (a ∷ []) others)
    (together-fit spaces kind (before ++ a ∷ []) others counted parts.1 (next-together spaces kind before a counted parts.0 few))

-- numbers that pass the test are segments
pub segments-are : (spaces : Spaces) (indices numbers : List ℕ) → are_segments spaces indices numbers ≡ true → AreSegments spaces indices numbers
segments-are spaces [] [] e = tt
segments-are spaces [] (n ∷ ns) e = absurd cc
segments-are spaces (i ∷ is) [] e = absurd cc
segments-are spaces (i ∷ is) (n ∷ ns) e =
    let parts = and_parts (nat_le (first_of spaces i) n && nat_lt n (first_of spaces i + count_of spaces i)) (are_segments spaces is ns) e in
    let bounds = and_parts (nat_le (first_of spaces i) n) (nat_lt n (first_of spaces i + count_of spaces i)) parts.0 in
    let low : nat_le (first_of spaces i) n ≡ true = bounds.0 in
    let high : nat_lt n (first_of spaces i + count_of spaces i) ≡ true = bounds.1 in
    (grind (arith, nat_tests, low), grind (arith, nat_tests, high), segments-are spaces is ns parts.1)

-- an array that an input may give blocks of is one of those declared
given-within : (arrays : List ArrayDecl) (k : ℕ) → may_be_given (slice_index_or arrays k (record { name = []; line = 0; kind = Temp; dims = [] })).kind ≡ true → k < length arrays
given-within [] k given = absurd cc
given-within (a ∷ others) zero given = omega arith
given-within (a ∷ others) (suc k) given = let within = given-within others k given in omega arith

-- and it isn't temp
given-counted : (kind : ArrayKind) → may_be_given kind ≡ true → same_kind kind Temp ≡ false
given-counted Static e = refl
given-counted Temp e = absurd cc
given-counted Local e = absurd cc
given-counted Distributed e = absurd cc
given-counted Served e = refl

-- an array without its name is the one that is declared
pub among-bare : (arrays : List ArrayDecl) (k : ℕ) → array_among (map bare arrays) k ≡ bare (slice_index_or arrays k (record { name = []; line = 0; kind = Temp; dims = [] }))
among-bare [] k = refl
among-bare (a ∷ others) zero = refl
among-bare (a ∷ others) (suc k) = among-bare others k

-- what is known of the block of a line that isn't refused
pub record HasPlace (p : Tree) (spaces : Spaces) (l : BlockLine) : Type 0 where
  pub place : ℕ
  pub named : array_named p l.name ≡ Some place
  pub within : place < length p.arrays
  pub counted : same_kind (array_in p place).kind Temp ≡ false
  pub segments : AreSegments spaces (array_in p place).dims l.segments.items

-- the block of a line that isn't refused has a place
pub has-place : (p : Tree) (spaces : Spaces) (l : BlockLine) → block_refusal p spaces l ≡ None → HasPlace p spaces l
has-place p spaces l none = by (array_named p l.name) refl (fits (means_fitting p spaces (array_named p l.name) l.segments.items l.elements.items) none)
  where
    fits : (b : Bool) → bad_start b l.line l.name ≡ None → b ≡ true
    fits true e = refl
    fits false e = absurd cc

    by : (found : Option ℕ) → array_named p l.name ≡ found → means_fitting p spaces found l.segments.items l.elements.items ≡ true → HasPlace p spaces l
    by None e fit = absurd cc
    by (Some place) e fit =
        let a = array_in p place in
        let parts = and_parts (may_be_given a.kind) (are_segments spaces a.dims l.segments.items && length l.elements.items == words_in spaces a.dims l.segments.items) fit in
        let both = and_parts (are_segments spaces a.dims l.segments.items) (length l.elements.items == words_in spaces a.dims l.segments.items) parts.1 in
        record {
          place = place;
          named = e;
          within = given-within p.arrays place parts.0;
          counted = given-counted a.kind parts.0;
          segments = segments-are spaces a.dims l.segments.items both.0;
        }

-- so its array and its numbers are those that the readers ask for
pub block-known : (p : Tree) (spaces : Spaces) (l : BlockLine) (arrays : List ArrayDecl) (array : ℕ) → block_refusal p spaces l ≡ None → arrays ≡ map bare p.arrays → array ≡ unwrap_or (array_named p l.name) 0
    → (array < length p.arrays) × (is_temp (array_among arrays array) ≡ false) × AreSegments spaces (array_among arrays array).dims l.segments.items
block-known p spaces l arrays array none all is =
    let known = has-place p spaces l none in
    let same : array ≡ known.place = is ∙ ap (λ (found : Option ℕ). unwrap_or found 0) known.named in
    let there : array_among arrays array ≡ bare (array_in p known.place) =
    ap (λ (xs : List ArrayDecl). array_among xs array) all ∙ (ap (array_among (map bare p.arrays)) same ∙ among-bare p.arrays known.place) in (
      subst (λ (k : ℕ). k < length p.arrays) (sym same) known.within,
      ap is_temp there ∙ known.counted,
      subst (λ (a : ArrayDecl). AreSegments spaces a.dims l.segments.items) (sym there) known.segments,
    )
