-- What a declared index of a sound setting runs over, and which indices may stand for it.
use Rattle.std.proofs.Common.{◌≡◌, ℕ, zero, suc, ◌+◌, ◌-◌, List, [], ◌∷◌, map, slice_index_or, Bool, true, false, nat_lt, Option, Some, None, is_some, refl, sym, ap, ◌∙◌, subst}
use Rattle.std.specs.Prelude.{if◌then◌else◌}
use Rattle.sial_syntax.specs.declared.index.IndexDecl.{IndexDecl}
use Rattle.sial_syntax.specs.declared.index.Kind.{Kind}
use Rattle.sial_syntax.specs.declared.index.Kind.TheVariants.{Index}
use Rattle.sial_syntax.specs.declared.index.Range.{Range}
use Rattle.sial_syntax.specs.declared.index.Range.TheVariants as range
use Rattle.sial_syntax.specs.Agreeing.{range_in, range_super, index_kind, is_kind, is_sub, same_flag, may_stand_for}
use Rattle.sial_syntax.specs.Resolved.{Constants, bound_number, segments_between, span_between, span_of_range}
use Rattle.sial_syntax.specs.Spaces.{Span, Segments, Pieces, span_of, own_kind, span_kind, kind_of}
use Rattle.sial_syntax.proofs.KindLemmas.{kind-of-segments, kind-of-subindex}
use Rattle.sial_meaning.specs.Setting.{Setting}
use Rattle.sial_meaning.specs.Sound.{IsSound}
use Rattle.sial_meaning.proofs.Granted.Rules.{one-some, same-first, same-rest, no_index, no-sub-of-sub}
use Rattle.sial_meaning.proofs.AcceptedInOtherWords.Pairs.{first-holds, second-holds}
use Rattle.sial_meaning.proofs.Granted.Sameness.{kinds-one, flags-one}

-- a span runs over what a range declares: segments of its kind, or the pieces of its super index
abbrev Runs : Span → Range → Type 0
Runs (Segments kind first count) (range.Segments declared lo hi) = kind ≡ declared
Runs (Segments kind first count) (range.Sub super) = ⊥
Runs (Pieces super) (range.Segments declared lo hi) = ⊥
Runs (Pieces super) (range.Sub declared) = super ≡ declared

between-runs : (kind : Kind) (lo hi : Option ℕ) (s : Span) (a b : _) → Some s ≡ span_between kind lo hi → Runs s (range.Segments kind a b)
between-runs kind None hi s a b same = absurd cc
between-runs kind (Some lo) None s a b same = absurd cc
between-runs kind (Some lo) (Some hi) s a b same =
    subst (λ (x : Span). Runs x (range.Segments kind a b)) (sym (one-some s (segments_between kind lo hi) same))
    (elim (nat_lt hi lo) as (λ c. Runs (if c then Segments kind 1 0 else Segments kind lo ((hi + 1) - lo)) (range.Segments kind a b)) [ true ↦ refl | false ↦ refl ])

range-runs : (constants : Constants) (r : Range) (s : Span) → Some s ≡ span_of_range constants r → Runs s r
range-runs constants (range.Segments kind lo hi) s same = between-runs kind (bound_number constants lo) (bound_number constants hi) s lo hi same
range-runs constants (range.Sub super) s same = subst (λ (x : Span). Runs x (range.Sub super)) (sym (one-some s (Pieces super) same)) refl

-- what stands for an index that isn't declared
spans-run : (constants : Constants) (spans : List Span) (indices : List IndexDecl) (i : ℕ) → map Some spans ≡ map (λ (i : IndexDecl). span_of_range constants i.range) indices
    → Runs (slice_index_or spans i (Segments Index 1 0)) (slice_index_or indices i no_index).range
spans-run constants [] [] i same = refl
spans-run constants [] (d ∷ ds) i same = absurd cc
spans-run constants (s ∷ ss) [] i same = absurd cc
spans-run constants (s ∷ ss) (d ∷ ds) zero same =
    range-runs constants d.range s (same-first (Some s) (span_of_range constants d.range) (map Some ss) (map (λ (i : IndexDecl). span_of_range constants i.range) ds) same)
spans-run constants (s ∷ ss) (d ∷ ds) (suc i) same =
    spans-run constants ss ds i (same-rest (Some s) (span_of_range constants d.range) (map Some ss) (map (λ (i : IndexDecl). span_of_range constants i.range) ds) same)

-- each index of a sound setting runs over its declared range
index-runs : (g : Setting) → IsSound g → (i : ℕ) → Runs (span_of g.spaces i) (range_in g.program i)
index-runs g sound i = spans-run sound.spaces.0 g.spaces.spans g.program.indices i sound.spaces.1.spans

-- the kind of a span is that of its range
own-kinds : (g : Setting) → IsSound g → (i : ℕ) (s : Span) (r : Range) → Runs s r → range_in g.program i ≡ r → is_some (range_super r) ≡ false → own_kind s ≡ index_kind g.program i
own-kinds g sound i (Segments kind first count) (range.Segments declared lo hi) runs is whole = runs ∙ sym (kind-of-segments g.program i declared lo hi sound.setting.proper is)
own-kinds g sound i (Segments kind first count) (range.Sub super) runs is whole = absurd runs
own-kinds g sound i (Pieces super) (range.Segments declared lo hi) runs is whole = absurd runs
own-kinds g sound i (Pieces super) (range.Sub declared) runs is whole = absurd cc

kinds : (g : Setting) → IsSound g → (i : ℕ) (s : Span) (r : Range) → Runs s r → range_in g.program i ≡ r → span_kind g.spaces s ≡ index_kind g.program i
kinds g sound i (Segments kind first count) (range.Segments declared lo hi) runs is = own-kinds g sound i (Segments kind first count) (range.Segments declared lo hi) runs is refl
kinds g sound i (Segments kind first count) (range.Sub super) runs is = absurd runs
kinds g sound i (Pieces super) (range.Segments declared lo hi) runs is = absurd runs
kinds g sound i (Pieces super) (range.Sub declared) runs is =
    ap (λ x. own_kind (span_of g.spaces x)) runs
    ∙ (own-kinds g sound declared (span_of g.spaces declared) (range_in g.program declared) (index-runs g sound declared) refl (no-sub-of-sub g sound i declared is)
    ∙ sym (kind-of-subindex g.program i declared sound.setting.proper is))

kind-is : (g : Setting) → IsSound g → (i : ℕ) → kind_of g.spaces i ≡ index_kind g.program i
kind-is g sound i = kinds g sound i (span_of g.spaces i) (range_in g.program i) (index-runs g sound i) refl

-- whether a span is the pieces of an index
abbrev pub is_pieces : Span → Bool
is_pieces (Segments kind first count) = false
is_pieces (Pieces super) = true

cut-is : (s : Span) (r : Range) → Runs s r → is_pieces s ≡ is_some (range_super r)
cut-is (Segments kind first count) (range.Segments declared lo hi) runs = refl
cut-is (Segments kind first count) (range.Sub super) runs = absurd runs
cut-is (Pieces super) (range.Segments declared lo hi) runs = absurd runs
cut-is (Pieces super) (range.Sub declared) runs = refl

-- an index runs over pieces exactly where it is declared as a subindex
pub sub-is : (g : Setting) → IsSound g → (i : ℕ) → is_pieces (span_of g.spaces i) ≡ is_sub g.program i
sub-is g sound i = cut-is (span_of g.spaces i) (range_in g.program i) (index-runs g sound i)

-- an index that may stand for another has its kind, and both or neither is cut
pub record Stands (g : Setting) (used declared : ℕ) : Type 0 where
  pub kind : kind_of g.spaces used ≡ kind_of g.spaces declared
  pub cut : is_pieces (span_of g.spaces used) ≡ is_pieces (span_of g.spaces declared)

-- an index that may stand for another runs over the same
pub stands-for : (g : Setting) → IsSound g → (u d : ℕ) → may_stand_for g.program u d ≡ true → Stands g u d
stands-for g sound u d may =
    let p = g.program in
    let same = first-holds (is_kind (index_kind p u) (index_kind p d)) (same_flag (is_sub p u) (is_sub p d)) may in
    let flags = second-holds (is_kind (index_kind p u) (index_kind p d)) (same_flag (is_sub p u) (is_sub p d)) may in
    record {
      kind = kind-is g sound u ∙ (kinds-one (index_kind p u) (index_kind p d) same ∙ sym (kind-is g sound d));
      cut = sub-is g sound u ∙ (flags-one (is_sub p u) (is_sub p d) flags ∙ sym (sub-is g sound d));
    }
