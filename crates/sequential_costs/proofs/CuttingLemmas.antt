-- What is looked up of pieces.
use Rattle.std.proofs.Common.{◌≡◌, ℕ, zero, suc, List, [], ◌∷◌, ◌++◌, length, Option, Some, slice_get, ap, ◌∙◌, subst}
use Rattle.sial_meaning.specs.Costs.{most_pieces}
use Rattle.sial_syntax.specs.Spaces.{Spaces}
use Rattle.sequential_costs.specs.Cuttings.{AreCuttings}
use Rattle.sequential_costs.specs.Over.{over}
use Rattle.sequential_costs.specs.declared.cutting.Cutting.{Cutting}

-- The most pieces of a subindex and the index beside it.
pub looked_up : (spaces : Spaces) (cuttings : List Cutting) (sub index : ℕ) (c : Cutting) → AreCuttings spaces cuttings → slice_get cuttings sub ≡ Some c → c.index ≡ index → c.most ≡ most_pieces (over spaces []) sub index
looked_up spaces cuttings sub index c are found same = are.each sub c found ∙ ap (most_pieces (over spaces []) sub) same

-- None are right.
pub none_yet : (spaces : Spaces) → AreCuttings spaces []
none_yet spaces = record { each = λ sub c found. absurd (nothing sub c found) }
  where
    nothing : (sub : ℕ) (c : Cutting) → ◌≡◌ {A = Option Cutting} (slice_get [] sub) (Some c) → ⊥
    nothing zero c found = absurd cc
    nothing (suc n) c found = absurd cc

-- So are those with one more.
pub one_more : (spaces : Spaces) (cuttings : List Cutting) (c : Cutting) → AreCuttings spaces cuttings → c.most ≡ most_pieces (over spaces []) (length cuttings) c.index → AreCuttings spaces (cuttings ++ c ∷ [])
one_more spaces cuttings c are is = record { each = λ sub d found. at cuttings (λ n. n) sub d (λ k e held. are.each k e held) is found }
  where
    at : (cs : List Cutting) (place : ℕ → ℕ) (sub : ℕ) (d : Cutting) → ((k : ℕ) (e : Cutting) → slice_get cs k ≡ Some e → e.most ≡ most_pieces (over spaces []) (place k) e.index)
        → c.most ≡ most_pieces (over spaces []) (place (length cs)) c.index → slice_get (cs ++ c ∷ []) sub ≡ Some d → d.most ≡ most_pieces (over spaces []) (place sub) d.index
    at [] place zero d held last found = let same : c ≡ d = cc in subst (λ (x : Cutting). x.most ≡ most_pieces (over spaces []) (place 0) x.index) same last
    at [] place (suc sub) d held last found = absurd cc
    at (x ∷ cs) place zero d held last found = held 0 d found
    at (x ∷ cs) place (suc sub) d held last found = at cs (λ n. place (suc n)) sub d (λ k e h. held (suc k) e h) last found
