-- Segments of a kind have no position in common, and neither have blocks of an array.
use Rattle.std.proofs.Common.{◌≡◌, ℕ, zero, suc, ◌+◌, ◌-◌, ◌*◌, ◌<◌, ◌≤◌, List, [], ◌∷◌, map, take, sum, slice_index_or, true, false, nat_lt, ◌&&◌, Option, Some, None, refl, sym, ap, ◌∙◌, subst, arith}
use Rattle.std.proofs.lemmas.Bool.Decides.{nat_tests}
use Rattle.std.proofs.lemmas.List.Sums.{sum_by-cons}
use Rattle.std.specs.Prelude.{if◌then◌else◌}
use Rattle.std.specs.List.{list_all}
use Rattle.sial_syntax.specs.declared.index.IndexDecl.{IndexDecl}
use Rattle.sial_syntax.specs.declared.index.Kind.{Kind}
use Rattle.sial_syntax.specs.declared.index.Kind.TheVariants.{Ao, Mo, Moa, Mob, Index}
use Rattle.sial_syntax.specs.declared.index.Range.{Range}
use Rattle.sial_syntax.specs.declared.index.Range.TheVariants as range
use Rattle.sial_syntax.specs.Boxes.{volume, IsTupleOf}
use Rattle.sial_syntax.specs.BoxLaws.{AreSegments}
use Rattle.sial_syntax.specs.Resolved.{Constants, bound_number, segments_between, span_between, span_of_range, has_segments, is_at_least, is_at_most}
use Rattle.sial_syntax.specs.Spaces.{Spaces, Span, Segments, Pieces, span_first, first_of, kind_of, among, segment, segments_of, words_in}
use Rattle.sial_meaning.specs.LocalStep.{whole_positions}
use Rattle.sial_meaning.specs.Setting.{Setting}
use Rattle.sial_meaning.specs.Sight.{lengths}
use Rattle.sial_meaning.specs.Sound.{IsSound}
use Rattle.sial_meaning.specs.Whole.{extents_of}
use Rattle.sial_meaning.proofs.Granted.Rules.{one-some, same-first, same-rest}
use Rattle.sial_meaning.proofs.AcceptedInOtherWords.Pairs.{first-holds, second-holds}

-- the sum of the numbers before a place, with the one at it, is no more than that of those before a later place
sums-rise : (ls : List ℕ) (a b : ℕ) → a < b → (sum (take a ls) + slice_index_or ls a 0) ≤ sum (take b ls)
sums-rise [] zero zero below = absurd (omega (arith, below))
sums-rise [] zero (suc b) below = omega arith
sums-rise [] (suc a) zero below = absurd (omega (arith, below))
sums-rise [] (suc a) (suc b) below = omega arith
sums-rise (l ∷ ls) zero zero below = absurd (omega (arith, below))
sums-rise (l ∷ ls) zero (suc b) below =
    let more : sum (l ∷ take b ls) ≡ l + sum (take b ls) = sum_by-cons (λ (x : ℕ). x) l (take b ls) in
    omega (arith, more)
sums-rise (l ∷ ls) (suc a) zero below = absurd (omega (arith, below))
sums-rise (l ∷ ls) (suc a) (suc b) below =
    let rest : (sum (take a ls) + slice_index_or ls a 0) ≤ sum (take b ls) = sums-rise ls a b (omega (arith, below)) in
    let some : sum (l ∷ take a ls) ≡ l + sum (take a ls) = sum_by-cons (λ (x : ℕ). x) l (take a ls) in
    let more : sum (l ∷ take b ls) ≡ l + sum (take b ls) = sum_by-cons (λ (x : ℕ). x) l (take b ls) in
    omega (arith, rest, some, more)

-- a segment ends before a later one begins
ends-before : (ls : List ℕ) (n m : ℕ) → 1 ≤ n → n < m → ((among ls n).start + (among ls n).len) ≤ (among ls m).start
ends-before ls zero m some below = absurd (omega (arith, some))
ends-before ls (suc n) zero some below = absurd (omega (arith, below))
ends-before ls (suc n) (suc m) some below =
    let first : ◌≡◌ {A = ℕ} (suc n - 1) n = omega arith in
    let second : ◌≡◌ {A = ℕ} (suc m - 1) m = omega arith in
    let one : sum (take (suc n - 1) ls) ≡ sum (take n ls) = ap (λ k. sum (take k ls)) first in
    let other : sum (take (suc m - 1) ls) ≡ sum (take m ls) = ap (λ k. sum (take k ls)) second in
    let rise = sums-rise ls n m (omega (arith, below)) in
    omega (arith, rise, one, other)

-- two numbers of which neither is less are one
neither-less : (n m : ℕ) → (n < m → ⊥) → (m < n → ⊥) → n ≡ m
neither-less n m first second =
    elim (nat_lt n m) as (λ b. nat_lt n m ≡ b → n ≡ m) [
      | true ↦ λ e. absurd (first (grind (arith, nat_tests)))
      | false ↦ λ e.
          elim (nat_lt m n) as (λ b. nat_lt m n ≡ b → n ≡ m) [
            | true ↦ λ f. absurd (second (grind (arith, nat_tests)))
            | false ↦ λ f. grind (arith, nat_tests)
          ] refl
    ] refl

-- a position lies in one of such segments alone
among-same : (ls : List ℕ) (n m i j : ℕ) → 1 ≤ n → 1 ≤ m → i < (among ls n).len → j < (among ls m).len → (among ls n).start + i ≡ (among ls m).start + j → n ≡ m
among-same ls n m i j some other inside within same =
    neither-less n m
    (λ below. let ends = ends-before ls n m some below in omega (arith, ends, inside, same))
    (λ below. let ends = ends-before ls m n other below in omega (arith, ends, within, same))

-- a position lies in one segment of a kind alone
segment-same : (spaces : Spaces) (kind : Kind) (n m i j : ℕ) → 1 ≤ n → 1 ≤ m → i < (segment spaces kind n).len → j < (segment spaces kind m).len
    → (segment spaces kind n).start + i ≡ (segment spaces kind m).start + j → n ≡ m
segment-same spaces Ao n m i j some other inside within same = among-same spaces.ao.segments n m i j some other inside within same
segment-same spaces Mo n m i j some other inside within same = among-same spaces.mo.segments n m i j some other inside within same
segment-same spaces Moa n m i j some other inside within same = among-same spaces.moa.segments n m i j some other inside within same
segment-same spaces Mob n m i j some other inside within same = among-same spaces.mob.segments n m i j some other inside within same
segment-same spaces Index n m i j some other inside within same = omega (arith, inside, within, same)

-- segments that a declared range names are counted from 1
between-from-one : (spaces : Spaces) (kind : Kind) (lo hi : Option ℕ) (s : Span) → Some s ≡ span_between kind lo hi → is_at_least 1 lo ≡ true → 1 ≤ span_first s
between-from-one spaces kind None hi s same some = absurd cc
between-from-one spaces kind (Some lo) None s same some = absurd cc
between-from-one spaces kind (Some lo) (Some hi) s same some =
    subst (λ (x : Span). 1 ≤ span_first x) (sym (one-some s (segments_between kind lo hi) same))
    (elim (nat_lt hi lo) as (λ b. 1 ≤ span_first (if b then Segments kind 1 0 else Segments kind lo ((hi + 1) - lo))) [
      | true ↦ omega arith
      | false ↦ grind (arith, nat_tests)
    ])

range-from-one : (constants : Constants) (spaces : Spaces) (r : Range) (s : Span) → Some s ≡ span_of_range constants r → has_segments constants spaces r ≡ true → 1 ≤ span_first s
range-from-one constants spaces (range.Segments kind lo hi) s same has =
    let rest = second-holds (nat_lt 0 (segments_of spaces kind)) (is_at_least 1 (bound_number constants lo) && is_at_most (segments_of spaces kind) (bound_number constants hi)) has in
    between-from-one spaces kind (bound_number constants lo) (bound_number constants hi) s same
    (first-holds (is_at_least 1 (bound_number constants lo)) (is_at_most (segments_of spaces kind) (bound_number constants hi)) rest)
range-from-one constants spaces (range.Sub super) s same has =
    subst (λ (x : Span). 1 ≤ span_first x) (sym (one-some s (Pieces super) same)) (omega arith)

spans-from-one : (constants : Constants) (spaces : Spaces) (spans : List Span) (indices : List IndexDecl) (i : ℕ) → map Some spans ≡ map (λ (i : IndexDecl). span_of_range constants i.range) indices
    → list_all (λ (i : IndexDecl). has_segments constants spaces i.range) indices ≡ true → 1 ≤ span_first (slice_index_or spans i (Segments Index 1 0))
spans-from-one constants spaces [] indices i same has = omega arith
spans-from-one constants spaces (s ∷ ss) [] i same has = absurd cc
spans-from-one constants spaces (s ∷ ss) (d ∷ ds) zero same has =
    range-from-one constants spaces d.range s
    (same-first (Some s) (span_of_range constants d.range) (map Some ss) (map (λ (i : IndexDecl). span_of_range constants i.range) ds) same)
    (first-holds (has_segments constants spaces d.range) (list_all (λ (i : IndexDecl). has_segments constants spaces i.range) ds) has)
spans-from-one constants spaces (s ∷ ss) (d ∷ ds) (suc i) same has =
    spans-from-one constants spaces ss ds i
    (same-rest (Some s) (span_of_range constants d.range) (map Some ss) (map (λ (i : IndexDecl). span_of_range constants i.range) ds) same)
    (second-holds (has_segments constants spaces d.range) (list_all (λ (i : IndexDecl). has_segments constants spaces i.range) ds) has)

-- the segments of each index of a sound setting are counted from 1
pub from-one : (g : Setting) → IsSound g → (i : ℕ) → 1 ≤ first_of g.spaces i
from-one g sound i = spans-from-one sound.spaces.0 g.spaces g.spaces.spans g.program.indices i sound.spaces.1.spans sound.spaces.1.segments

-- a tuple of no lengths has no member
no-members : (t : List ℕ) → IsTupleOf [] t → t ≡ []
no-members [] is = refl
no-members (k ∷ ks) is = absurd is

-- a position of two blocks of an array is one of one block, at one tuple of offsets
pub positions-same : (spaces : Spaces) (dims ns ms t u : List ℕ) → ((i : ℕ) → 1 ≤ first_of spaces i) → AreSegments spaces dims ns → AreSegments spaces dims ms
    → IsTupleOf (lengths (extents_of spaces dims ns)) t → IsTupleOf (lengths (extents_of spaces dims ms)) u
    → whole_positions (extents_of spaces dims ns) t ≡ whole_positions (extents_of spaces dims ms) u → (ns ≡ ms) × (t ≡ u)
positions-same spaces [] [] [] t u ones are others is other same = (refl, no-members t is ∙ sym (no-members u other))
positions-same spaces [] [] (m ∷ ms) t u ones are others is other same = absurd others
positions-same spaces [] (n ∷ ns) ms t u ones are others is other same = absurd are
positions-same spaces (i ∷ rest) [] ms t u ones are others is other same = absurd are
positions-same spaces (i ∷ rest) (n ∷ ns) [] t u ones are others is other same = absurd others
positions-same spaces (i ∷ rest) (n ∷ ns) (m ∷ ms) [] u ones are others is other same = absurd is
positions-same spaces (i ∷ rest) (n ∷ ns) (m ∷ ms) (k ∷ ks) [] ones are others is other same = absurd other
positions-same spaces (i ∷ rest) (n ∷ ns) (m ∷ ms) (k ∷ ks) (l ∷ ls) ones are others is other same =
    let kind = kind_of spaces i in
    let here : (segment spaces kind n).start + k ≡ (segment spaces kind m).start + l =
    same-first ((segment spaces kind n).start + k) ((segment spaces kind m).start + l) (whole_positions (extents_of spaces rest ns) ks) (whole_positions (extents_of spaces rest ms) ls) same in
    let one = ones i in
    let number : n ≡ m = segment-same spaces kind n m k l (omega (arith, one, are.0)) (omega (arith, one, others.0)) is.0 other.0 here in
    let offset : k ≡ l = let starts : (segment spaces kind n).start ≡ (segment spaces kind m).start = ap (λ x. (segment spaces kind x).start) number in omega (arith, here, starts) in
    let later = positions-same spaces rest ns ms ks ls ones are.2 others.2 is.1 other.1
    (same-rest ((segment spaces kind n).start + k) ((segment spaces kind m).start + l) (whole_positions (extents_of spaces rest ns) ks) (whole_positions (extents_of spaces rest ms) ls) same) in (
      ap (λ x. x ∷ ns) number ∙ ap (λ x. m ∷ x) later.0,
      ap (λ x. x ∷ ks) offset ∙ ap (λ x. l ∷ x) later.1,
    )

-- a block has as many words as it has positions
pub words-are : (spaces : Spaces) (dims ns : List ℕ) → words_in spaces dims ns ≡ volume (lengths (extents_of spaces dims ns))
words-are spaces [] ns = refl
words-are spaces (i ∷ is) [] = refl
words-are spaces (i ∷ is) (n ∷ ns) = ap (λ x. (segment spaces (kind_of spaces i) n).len * x) (words-are spaces is ns)
