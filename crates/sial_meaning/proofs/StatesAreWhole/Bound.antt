-- What is unset, and the indices of a pardo bound to the segments of a tuple, leave a state whole.
use Rattle.std.proofs.Common.{◌≡◌, ℕ, zero, suc, ◌+◌, ◌<◌, ◌≤◌, inl, inr, List, [], ◌∷◌, ◌++◌, map, length, slice_index_or, slice_set, Bool, true, false, ◌==◌, ◌||◌, nat_lt, Option, Some, None, refl, sym, ap, ◌∙◌, eqb-true, arith, IsTrue}
use Rattle.std.proofs.lemmas.Bool.{eq-eqb, false_from_ne_true}
use Rattle.std.proofs.lemmas.Bool.Decides.{nat_tests}
use Rattle.std.proofs.lemmas.List.{length-map, length-set}
use Rattle.std.specs.List.{list_all}
use Rattle.sial_syntax.specs.Agreeing.{contains, share_any, has_twice}
use Rattle.sial_syntax.specs.Boxes.{numbers_from}
use Rattle.sial_syntax.specs.BoxLaws.{AreSegments}
use Rattle.sial_syntax.specs.Proper.{has_index}
use Rattle.sial_syntax.specs.Spaces.{Span, Segments, Pieces, span_of, span_first, span_count}
use Rattle.sial_meaning.specs.Meaning.{on_own}
use Rattle.sial_syntax.specs.declared.classes.Side.{Side}
use Rattle.sial_syntax.specs.declared.classes.Side.TheVariants.{Outer, Inner, Unused}
use Rattle.sial_meaning.specs.Own.{Own, Held, local_block, unset_if_inner, bound, all_bound, unset}
use Rattle.sial_meaning.specs.Setting.{Setting, side_of}
use Rattle.sial_meaning.specs.State.{State}
use Rattle.sial_meaning.specs.WholeStates.{IsWhole}
use Rattle.sial_meaning.proofs.AcceptedInOtherWords.Pairs.{never}
use Rattle.sial_meaning.proofs.AssignmentsReadBack.Places.{either-holds, or-left, or-right}
use Rattle.sial_meaning.proofs.Granted.Ranges.{InSpan, InRange}
use Rattle.sial_meaning.proofs.StepsReachTheFold.Rules.{both, neither}
use Rattle.sial_meaning.proofs.StatesAreWhole.Created.{each-read}
use Rattle.sial_meaning.proofs.StatesAreWhole.Rest.{values-whole, others-stay, fewer, one-more-bound, place-there}
use Rattle.sial_meaning.proofs.PardosKeepTheControl.Changes.{each-long}

-- a row of one thing, made of another row
pub all-none : {X Y : Type 0} (xs : List X) (k : ℕ) → ◌≡◌ {A = Option Y} (slice_index_or (map (λ x. None) xs) k None) None
all-none [] k = refl
all-none (x ∷ xs) zero = refl
all-none (x ∷ xs) (suc k) = all-none xs k

-- a row of things, read past its end
pub row-past : {X : Type 0} (f : ℕ → X) (first n k : ℕ) (d : X) → n ≤ k → slice_index_or (map f (numbers_from first n)) k d ≡ d
row-past f first zero k d past = refl
row-past f first (suc n) zero d past = absurd (omega (arith, past))
row-past f first (suc n) (suc k) d past = row-past f (first + 1) n k d (omega (arith, past))

-- a local block that is left as the locals used inside pardos are unset
pub still-there : (side : Side) (row : List (Option (List ℕ))) (number : ℕ) (words : List ℕ) → slice_index_or (unset_if_inner side row) number None ≡ Some words → slice_index_or row number None ≡ Some words
still-there Outer row number words is = is
still-there Inner row number words is = absurd (nothing words (sym (all-none row number) ∙ is))
  where
    nothing : (x : List ℕ) → ◌≡◌ {A = Option (List ℕ)} None (Some x) → ⊥
    nothing x e = absurd cc
still-there Unused row number words is = is

-- a local block that is there once others are unset was there before
pub unset-local : (g : Setting) (own : Own) (array number : ℕ) (words : List ℕ) → local_block (unset g own) array number ≡ Some words → local_block own array number ≡ Some words
unset-local g own array number words is = by-test (nat_lt array (length own.locals)) refl
  where
    f : ℕ → List (Option (List ℕ))
    f a = unset_if_inner (side_of g a) (slice_index_or own.locals a [])

    nothing : (x : List ℕ) → ◌≡◌ {A = Option (List ℕ)} None (Some x) → ⊥
    nothing x e = absurd cc

    by-test : (b : Bool) → nat_lt array (length own.locals) ≡ b → local_block own array number ≡ Some words
    by-test true e =
        let below : array < length own.locals = grind (arith, nat_tests) in
        still-there (side_of g array) (slice_index_or own.locals array []) number words (sym (ap (λ r. slice_index_or r number None) (each-read (length own.locals) f array [] below)) ∙ is)
    by-test false e =
        let past : length own.locals ≤ array = grind (arith, nat_tests) in
        absurd (nothing words (sym (ap (λ r. slice_index_or r number None) (row-past f 0 (length own.locals) array [] past)) ∙ is))

-- what is unset leaves the state whole
pub unset-whole : (g : Setting) (s : State) → IsWhole g s → IsWhole g (on_own (unset g) s)
unset-whole g s whole = record {
  own = record {
    values = whole.own.values;
    created = whole.own.created;
    static_rows = whole.own.static_rows;
    temp_rows = length-map s.own.temps (λ held. None) ∙ whole.own.temp_rows;
    local_rows = each-long (length s.own.locals) (λ a. unset_if_inner (side_of g a) (slice_index_or s.own.locals a [])) ∙ whole.own.local_rows;
    count = whole.own.count;
    statics = whole.own.statics;
    temps = λ array held is. absurd (nothing held (sym (all-none s.own.temps array) ∙ is));
    locals = λ array number words is. whole.own.locals array number words (unset-local g s.own array number words is);
  };
  distributed = whole.distributed;
  served = whole.served;
  distributed_copies = whole.distributed_copies;
  served_copies = whole.served_copies;
}
  where
    nothing : (x : Held) → ◌≡◌ {A = Option Held} None (Some x) → ⊥
    nothing x e = absurd cc

-- several indices bound leave it whole
pub bound-whole : (g : Setting) (over numbers : List ℕ) (s : State) → IsWhole g s → IsWhole g (on_own (all_bound over numbers) s)
bound-whole g [] numbers s whole = whole
bound-whole g (i ∷ is) [] s whole = whole
bound-whole g (i ∷ is) (n ∷ ns) s whole =
    bound-whole g is ns (on_own (bound i n) s) (values-whole g s (slice_set s.own.values i n) (length-set s.own.values i n ∙ whole.own.values) whole)

-- and the ranges of others
pub bound-others : (g : Setting) (indices over numbers : List ℕ) (own : Own) → share_any over indices ≡ false → InRange g indices own.values → InRange g indices (all_bound over numbers own).values
bound-others g indices [] numbers own out in-range = in-range
bound-others g indices (i ∷ is) [] own out in-range = in-range
bound-others g indices (i ∷ is) (n ∷ ns) own out in-range =
    let parts = neither (contains indices i) (share_any is indices) out in
    bound-others g indices is ns (bound i n own) parts.1 (others-stay g indices own.values i n parts.0 in-range)

-- numbers of segments are within their spans
pub span-has : (s : Span) (n : ℕ) → span_first s ≤ n → n < span_first s + span_count s → InSpan s n
span-has (Segments kind first count) n low high = (low, high)
span-has (Pieces super) n low high = tt

-- indices that share none with others, nor one that they don't have
pub share-none : (is outer : List ℕ) (i : ℕ) → contains is i ≡ false → share_any is outer ≡ false → share_any is (i ∷ outer) ≡ false
share-none [] outer i once out = refl
share-none (x ∷ xs) outer i once out =
    let here = neither (x == i) (contains xs i) once in
    let apart = neither (contains outer x) (share_any xs outer) out in
    let differ : (i == x) ≡ false = false_from_ne_true (i == x) (λ same. never (sym here.0 ∙ eq-eqb x i (sym (eqb-true i x same)))) in
    none-of-two ((i == x) || contains outer x) (share_any xs (i ∷ outer)) (none-of-two (i == x) (contains outer x) differ apart.0) (share-none xs outer i here.1 apart.1)
  where
    none-of-two : (a b : Bool) → a ≡ false → b ≡ false → (a || b) ≡ false
    none-of-two true b first second = absurd (never (sym first))
    none-of-two false b first second = second

-- an index among some and others
pub among-join : (is outer : List ℕ) (i j : ℕ) → contains (i ∷ (is ++ outer)) j ≡ true → contains (is ++ (i ∷ outer)) j ≡ true
among-join [] outer i j has = has
among-join (x ∷ xs) outer i j has =
    elim (either-holds (i == j) ((x == j) || contains (xs ++ outer) j) has) as (λ q. contains ((x ∷ xs) ++ (i ∷ outer)) j ≡ true) [
      | inl same ↦ or-right (x == j) (contains (xs ++ (i ∷ outer)) j) (among-join xs outer i j (or-left (i == j) (contains (xs ++ outer) j) same))
      | inr rest ↦
          elim (either-holds (x == j) (contains (xs ++ outer) j) rest) as (λ q. contains ((x ∷ xs) ++ (i ∷ outer)) j ≡ true) [
            | inl here ↦ or-left (x == j) (contains (xs ++ (i ∷ outer)) j) here
            | inr later ↦ or-right (x == j) (contains (xs ++ (i ∷ outer)) j) (among-join xs outer i j (or-right (i == j) (contains (xs ++ outer) j) later))
          ]
    ]

-- the indices of a pardo bound to the segments of a tuple
pub tuple-bound : (g : Setting) (over outer numbers : List ℕ) (s : State) → share_any over outer ≡ false → has_twice over ≡ false → IsTrue (list_all (has_index g.program) over) → AreSegments g.spaces over numbers → IsWhole g s → InRange g outer s.own.values
    → InRange g (over ++ outer) (all_bound over numbers s.own).values
tuple-bound g [] outer [] s out once has are whole in-range = in-range
tuple-bound g [] outer (n ∷ ns) s out once has are whole in-range = absurd are
tuple-bound g (i ∷ is) outer [] s out once has are whole in-range = absurd are
tuple-bound g (i ∷ is) outer (n ∷ ns) s out once has are whole in-range =
    let apart = neither (contains outer i) (share_any is outer) out in
    let single = neither (contains is i) (has_twice is) once in
    let there = both (has_index g.program i) (list_all (has_index g.program) is) has in
    let now = one-more-bound g outer s.own.values i n apart.0 (place-there g s i there.0 whole) (span-has (span_of g.spaces i) n are.0 are.1) in-range in
    let t : State = on_own (bound i n) s in
    let rest = tuple-bound g is (i ∷ outer) ns t (share-none is outer i single.0 apart.1) single.1 there.1 are.2
    (values-whole g s (slice_set s.own.values i n) (length-set s.own.values i n ∙ whole.own.values) whole) now in
    fewer g (i ∷ (is ++ outer)) (is ++ (i ∷ outer)) (all_bound is ns t.own).values (among-join is outer i) rest
