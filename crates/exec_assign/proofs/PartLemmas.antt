-- Indices that stand for a part of one of a target's.
use Rattle.std.proofs.Common.{◌≡◌, ℕ, arith, List, [], ◌∷◌, Bool, true, false, ◌==◌, ◌&&◌, ◌||◌, not, Some, None, refl, sym, ap, ◌∙◌}
use Rattle.std.proofs.lemmas.Bool.Decides.{nat_tests}
use Rattle.std.specs.List.{list_any}
use Rattle.sial_syntax.specs.declared.index.IndexDecl.{IndexDecl}
use Rattle.sial_syntax.specs.Agreeing.{contains}
use Rattle.sial_syntax.specs.Spaces.{Spaces, Span, Segments, Pieces, span_of}
use Rattle.sial_meaning.specs.Right.{is_part}
use Rattle.sial_meaning.specs.Sight.{cuts, is_pieces_of}
use Rattle.exec_names.specs.Cutting.{IsCutAs, span_super, super_of}

-- equal either way round
same_turned : (a b : ℕ) → (a == b) ≡ (b == a)
same_turned a b = grind (arith, nat_tests)

-- a span of pieces of one of some indices
cuts_one : (super : ℕ) (target : List ℕ) → list_any (λ t. super == t) target ≡ contains target super
cuts_one super [] = refl
cuts_one super (t ∷ ts) = ap (λ b. b || list_any (λ t. super == t) ts) (same_turned super t) ∙ ap (λ b. (t == super) || b) (cuts_one super ts)

-- a span of segments is cut from none
cuts_none : (target : List ℕ) → list_any (λ (t : ℕ). false) target ≡ false
cuts_none [] = refl
cuts_none (t ∷ ts) = cuts_none ts

-- an index that cuts another, which is one of the target's or isn't
pub cut_of : (spaces : Spaces) (indices : List IndexDecl) (target : List ℕ) (index whole : ℕ) → IsCutAs spaces indices → super_of indices index ≡ Some whole
    → list_any (cuts spaces index) target ≡ contains target whole
cut_of spaces indices target index whole cut is = by (span_of spaces index) (cut.supers index ∙ is)
  where
    by : (s : Span) → span_super s ≡ Some whole → list_any (is_pieces_of s) target ≡ contains target whole
    by (Segments kind first count) e = absurd cc
    by (Pieces super) e = let same : super ≡ whole = cc in cuts_one super target ∙ ap (contains target) same

-- an index that cuts none
pub uncut : (spaces : Spaces) (indices : List IndexDecl) (target : List ℕ) (index : ℕ) → IsCutAs spaces indices → super_of indices index ≡ None → list_any (cuts spaces index) target ≡ false
uncut spaces indices target index cut is = by (span_of spaces index) (cut.supers index ∙ is)
  where
    by : (s : Span) → span_super s ≡ None → list_any (is_pieces_of s) target ≡ false
    by (Segments kind first count) e = cuts_none target
    by (Pieces super) e = absurd cc

-- an index that the target names stands for itself
pub part_named : (spaces : Spaces) (target : List ℕ) (index : ℕ) → contains target index ≡ true → false ≡ is_part spaces target index
part_named spaces target index is = sym (ap (λ q. not q && list_any (cuts spaces index) target) is)

-- one that cuts another, if the target names that one
pub part_of : (spaces : Spaces) (indices : List IndexDecl) (target : List ℕ) (index whole : ℕ) → IsCutAs spaces indices → contains target index ≡ false → super_of indices index ≡ Some whole
    → is_part spaces target index ≡ contains target whole
part_of spaces indices target index whole cut other is = ap (λ q. not q && list_any (cuts spaces index) target) other ∙ cut_of spaces indices target index whole cut is

-- one that cuts none
pub part_uncut : (spaces : Spaces) (indices : List IndexDecl) (target : List ℕ) (index : ℕ) → IsCutAs spaces indices → super_of indices index ≡ None → is_part spaces target index ≡ false
part_uncut spaces indices target index cut is = ap (λ q. not (contains target index) && q) (uncut spaces indices target index cut is) ∙ none (not (contains target index))
  where
    none : (b : Bool) → (b && false) ≡ false
    none true = refl
    none false = refl
