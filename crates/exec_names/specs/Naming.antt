-- The numbers and members that indices have, as lists.
use Rattle.std.specs.Prelude.{◌≡◌, ℕ, ◌<◌, ◌≤◌, List, length, map, false, slice_index_or}
use Rattle.index_spaces.specs.Placed.{array_among, is_temp}
use Rattle.sial_syntax.specs.declared.array.ArrayDecl.{ArrayDecl}
use Rattle.sial_syntax.specs.BoxLaws.{AreSegments}
use Rattle.sial_syntax.specs.Spaces as sp
use Rattle.sial_meaning.specs.Own.{Own, member_of}
use Rattle.exec_names.specs.declared.extent.Extent.{Extent}
use Rattle.exec_names.specs.declared.member.Member.{Member}

-- where something lies, as the definitions have it
abbrev pub extent_of : Extent → sp.Extent
extent_of e = record { start = e.start; len = e.len }

-- the number that each of these indices has
abbrev pub numbers_of : (values at : List ℕ) → List ℕ
numbers_of values at = map (λ (i : ℕ). slice_index_or values i 0) at

-- a block that indices name is one of its array's, which isn't temp
pub record IsAmong (spaces : sp.Spaces) (arrays : List ArrayDecl) (values : List ℕ) (array : ℕ) (at : List ℕ) : Type 0 where
  pub few : length at ≤ 6
  pub declared : array < length arrays
  pub counted : is_temp (array_among arrays array) ≡ false
  pub within : AreSegments spaces (array_among arrays array).dims (numbers_of values at)

-- a member of a temp's tuple, as the definitions have it
abbrev pub pair_of : Member → ℕ × ℕ
pair_of m = (m.segment, m.piece)

-- the members that these indices name
abbrev pub tuple_of : sp.Spaces → Own → List ℕ → List (ℕ × ℕ)
tuple_of spaces own at = map (λ i. member_of own i (sp.span_of spaces i)) at
