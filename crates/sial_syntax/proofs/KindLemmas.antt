-- The kinds of indices, down the chains of subindices.
use Rattle.std.proofs.Common.{◌≡◌, ℕ, zero, suc, ◌+◌, ◌<◌, List, [], ◌∷◌, ◌++◌, length, slice_index_or, true, false, ◌&&◌, nat_lt, ◌≤◌, refl, sym, ap, ◌∙◌, subst, arith}
use Rattle.std.proofs.lemmas.Bool.{and_parts, ltb-true, ltb-false}
use Rattle.std.proofs.lemmas.Bool.Decides.{nat_tests}
use Rattle.std.proofs.lemmas.List.{get_or_append_left, get_or-append-add, get_or_past}
use Rattle.std.specs.List.{enumerate_from}
use Rattle.sial_syntax.specs.declared.index.Bound.TheVariants as bound
use Rattle.sial_syntax.specs.declared.index.IndexDecl.{IndexDecl}
use Rattle.sial_syntax.specs.declared.index.Kind.{Kind}
use Rattle.sial_syntax.specs.declared.index.Kind.TheVariants.{Index}
use Rattle.sial_syntax.specs.declared.index.Range.{Range}
use Rattle.sial_syntax.specs.declared.index.Range.TheVariants.{Segments, Sub}
use Rattle.sial_syntax.specs.Agreeing.{range_kind, kinds_after, range_in, index_kind}
use Rattle.sial_syntax.specs.KindLaws.{KindOfSegments, KindOfSubindex}
use Rattle.sial_syntax.specs.Names.{is_name}
use Rattle.sial_syntax.specs.Proper.{IsProper, proper_index, proper_range, is_line}
use Rattle.sial_syntax.specs.Tree.{Tree}
use Rattle.sial_syntax.proofs.AmongLemmas.{Among, all_at, among_numbered}

-- what stands for an index that isn't declared
abbrev no_index : IndexDecl
no_index = record { name = []; line = 0; range = Segments Index (bound.Number 1) (bound.Number 0) }

-- the super index of a range, if it has one, stands before it
abbrev Descends : (place : ℕ) → Range → Type 0
Descends place (Segments kind lo hi) = Unit {0}
Descends place (Sub super) = super < place

-- a kind that is known stays
known : (before : List Kind) (ds : List IndexDecl) (i : ℕ) → i < length before → slice_index_or (kinds_after before ds) i Index ≡ slice_index_or before i Index
known before [] i below = refl
known before (d ∷ ds) i below =
    let kind = range_kind before d.range in
    known (before ++ kind ∷ []) ds i (longer before kind i below) ∙ get_or_append_left before (kind ∷ []) Index i below
  where
    longer : (xs : List Kind) (x : Kind) (k : ℕ) → k < length xs → k < length (xs ++ x ∷ [])
    longer [] x k b = absurd (omega (arith, b))
    longer (y ∷ ys) x zero b = omega arith
    longer (y ∷ ys) x (suc k) b = let rest : k < length (ys ++ x ∷ []) = longer ys x k (omega (arith, b)) in omega (arith, rest)

-- the kind of a range is the same where more kinds are known
more-known : (before : List Kind) (ds : List IndexDecl) (r : Range) → Descends (length before) r → range_kind (kinds_after before ds) r ≡ range_kind before r
more-known before ds (Segments kind lo hi) down = refl
more-known before ds (Sub super) down = known before ds super down

-- one more kind is known
one-more : (before : List Kind) (kind : Kind) → length (before ++ kind ∷ []) ≡ suc (length before)
one-more [] kind = refl
one-more (k ∷ ks) kind = ap suc (one-more ks kind)

-- each index has the kind of its range
met : (before : List Kind) (ds : List IndexDecl) (i : ℕ) → i < length ds → Descends (length before + i) (slice_index_or ds i no_index).range
    → slice_index_or (kinds_after before ds) (length before + i) Index ≡ range_kind (kinds_after before ds) (slice_index_or ds i no_index).range
met before [] i below down = absurd (omega (arith, below))
met before (d ∷ ds) zero below down =
    let kind = range_kind before d.range in
    let many : length (before ++ kind ∷ []) ≡ suc (length before) = one-more before kind in
    let same : ◌≡◌ {A = ℕ} (length before + 0) (length before) = omega arith in
    known (before ++ kind ∷ []) ds (length before + 0) (omega (arith, many))
    ∙ (get_or-append-add before (kind ∷ []) 0 Index ∙ sym (more-known before (d ∷ ds) d.range (subst (λ n. Descends n d.range) same down)))
met before (d ∷ ds) (suc i) below down =
    let kind = range_kind before d.range in
    let next : ◌≡◌ {A = ℕ} (length before + suc i) (length (before ++ kind ∷ []) + i) = let many : length (before ++ kind ∷ []) ≡ suc (length before) = one-more before kind in omega (arith, many) in
    ap (λ n. slice_index_or (kinds_after (before ++ kind ∷ []) ds) n Index) next
    ∙ met (before ++ kind ∷ []) ds i (omega (arith, below)) (subst (λ n. Descends n (slice_index_or ds i no_index).range) next down)

-- a proper range descends
descends : (place : ℕ) (r : Range) → proper_range place r ≡ true → Descends place r
descends place (Segments kind lo hi) proper = tt
descends place (Sub super) proper = grind (arith, nat_tests)

-- as many kinds are known as there are indices
all-known : (before : List Kind) (ds : List IndexDecl) → length (kinds_after before ds) ≡ length before + length ds
all-known before [] = omega arith
all-known before (d ∷ ds) =
    let kind = range_kind before d.range in
    let many : length (before ++ kind ∷ []) ≡ suc (length before) = one-more before kind in
    let rest = all-known (before ++ kind ∷ []) ds in
    omega (arith, many, rest)

-- each declared index of a proper tree has the kind of its range
declared-kind : (p : Tree) (index : ℕ) → IsProper p → index < length p.indices → index_kind p index ≡ range_kind (kinds_after [] p.indices) (range_in p index)
declared-kind p index proper there =
    let d = slice_index_or p.indices index no_index in
    let same : ◌≡◌ {A = ℕ} (0 + index) index = omega arith in
    let among : Among (index, d) (enumerate_from 0 p.indices) = subst (λ (n : ℕ). Among (n, d) (enumerate_from 0 p.indices)) same (among_numbered 0 p.indices index no_index there) in
    let is : proper_index (index, d) ≡ true = all_at proper_index (index, d) (enumerate_from 0 p.indices) proper.indices among in
    let parts = and_parts (is_name d.name) (is_line d.line && proper_range index d.range) is in
    subst (λ (n : ℕ). Descends n d.range → slice_index_or (kinds_after [] p.indices) n Index ≡ range_kind (kinds_after [] p.indices) d.range) same (met [] p.indices index there)
    (descends index d.range (and_parts (is_line d.line) (proper_range index d.range) parts.1).1)

-- so has one that isn't declared
other-kind : (p : Tree) (index : ℕ) → length p.indices ≤ index → index_kind p index ≡ range_kind (kinds_after [] p.indices) (range_in p index)
other-kind p index past =
    let all : length (kinds_after [] p.indices) ≡ 0 + length p.indices = all-known [] p.indices in
    get_or_past (kinds_after [] p.indices) index Index (omega (arith, past, all))
    ∙ ap (λ (d : IndexDecl). range_kind (kinds_after [] p.indices) d.range) (sym (get_or_past p.indices index no_index past))

-- each index of a proper tree has the kind of its range
kind-of-range : (p : Tree) (index : ℕ) → IsProper p → index_kind p index ≡ range_kind (kinds_after [] p.indices) (range_in p index)
kind-of-range p index proper =
    elim (nat_lt index (length p.indices)) as (λ b. nat_lt index (length p.indices) ≡ b → index_kind p index ≡ range_kind (kinds_after [] p.indices) (range_in p index)) [
      | true ↦ λ e. declared-kind p index proper (ltb-true index (length p.indices) e)
      | false ↦ λ e. other-kind p index (ltb-false index (length p.indices) e)
    ] refl

pub kind-of-segments : KindOfSegments
kind-of-segments p index kind lo hi proper is = kind-of-range p index proper ∙ ap (range_kind (kinds_after [] p.indices)) is

pub kind-of-subindex : KindOfSubindex
kind-of-subindex p sub super proper is = kind-of-range p sub proper ∙ ap (range_kind (kinds_after [] p.indices)) is
