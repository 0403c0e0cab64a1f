-- The pieces of subindices.
use Rattle.std.specs.Prelude.{◌≡◌, ℕ, List, [], Some, slice_get}
use Rattle.sial_syntax.specs.declared.index.Kind.{Kind}
use Rattle.sial_syntax.specs.declared.index.Kind.TheVariants.{Ao, Mo, Moa, Mob, Index}
use Rattle.sial_meaning.specs.Costs.{most_pieces}
use Rattle.sial_syntax.specs.Spaces.{Spaces}
use Rattle.sequential_costs.specs.Over.{over}
use Rattle.sequential_costs.specs.declared.cutting.Cutting.{Cutting}

-- the pieces behind a kind's last segment: plain numbers go on
abbrev pub pieces_past : Kind → ℕ
pieces_past Ao = 0
pieces_past Mo = 0
pieces_past Moa = 0
pieces_past Mob = 0
pieces_past Index = 1

-- for each index in order, of another one the most pieces that it has in a segment of that one
pub record AreCuttings (spaces : Spaces) (cuttings : List Cutting) : Type 0 where
  pub each : (sub : ℕ) (c : Cutting) → slice_get cuttings sub ≡ Some c → c.most ≡ most_pieces (over spaces []) sub c.index
