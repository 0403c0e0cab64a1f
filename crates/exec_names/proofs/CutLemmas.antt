-- The spaces of a sound setting are cut as its indices are declared.
use Rattle.std.proofs.Common.{◌≡◌, ℕ, zero, suc, ◌+◌, ◌-◌, List, [], ◌∷◌, map, slice_index_or, true, false, nat_lt, Option, Some, None, refl, sym, subst}
use Rattle.std.specs.Prelude.{if◌then◌else◌, slice_get}
use Rattle.sial_syntax.specs.declared.index.IndexDecl.{IndexDecl}
use Rattle.sial_syntax.specs.declared.index.Kind.{Kind}
use Rattle.sial_syntax.specs.declared.index.Kind.TheVariants.{Index}
use Rattle.sial_syntax.specs.declared.index.Range.{Range}
use Rattle.sial_syntax.specs.declared.index.Range.TheVariants as range
use Rattle.sial_syntax.specs.Agreeing.{range_super}
use Rattle.sial_syntax.specs.Resolved.{Constants, bound_number, segments_between, span_between, span_of_range}
use Rattle.sial_syntax.specs.Spaces.{Span, Segments, Pieces}
use Rattle.sial_meaning.specs.Setting.{Setting}
use Rattle.sial_meaning.specs.Sound.{IsSound}
use Rattle.exec_names.specs.Cutting.{span_super, decl_super, IsCutAs}

-- segments between bounds aren't cut
between-whole : (kind : Kind) (lo hi : Option ℕ) (s : Span) → Some s ≡ span_between kind lo hi → span_super s ≡ None
between-whole kind None hi s same = absurd cc
between-whole kind (Some lo) None s same = absurd cc
between-whole kind (Some lo) (Some hi) s same =
    let is : s ≡ segments_between kind lo hi = cc in
    subst (λ (x : Span). span_super x ≡ None) (sym is)
    (elim (nat_lt hi lo) as (λ b. span_super (if b then Segments kind 1 0 else Segments kind lo ((hi + 1) - lo)) ≡ None) [ true ↦ refl | false ↦ refl ])

-- a span is cut as its range says
range-cut : (constants : Constants) (r : Range) (s : Span) → Some s ≡ span_of_range constants r → span_super s ≡ range_super r
range-cut constants (range.Segments kind lo hi) s same = between-whole kind (bound_number constants lo) (bound_number constants hi) s same
range-cut constants (range.Sub super) s same =
    let is : s ≡ Pieces super = cc in
    subst (λ (x : Span). span_super x ≡ Some super) (sym is) refl

-- and so are all of them
spans-cut : (constants : Constants) (spans : List Span) (indices : List IndexDecl) (i : ℕ) → map Some spans ≡ map (λ (i : IndexDecl). span_of_range constants i.range) indices
    → span_super (slice_index_or spans i (Segments Index 1 0)) ≡ decl_super (slice_get indices i)
spans-cut constants [] [] i same = refl
spans-cut constants [] (d ∷ ds) i same = absurd cc
spans-cut constants (s ∷ ss) [] i same = absurd cc
spans-cut constants (s ∷ ss) (d ∷ ds) zero same = range-cut constants d.range s (cc)
spans-cut constants (s ∷ ss) (d ∷ ds) (suc i) same = spans-cut constants ss ds i (cc)

pub cut-as : (g : Setting) → IsSound g → IsCutAs g.spaces g.program.indices
cut-as g sound = record { supers = λ i. spans-cut sound.spaces.0 g.spaces.spans g.program.indices i sound.spaces.1.spans }
