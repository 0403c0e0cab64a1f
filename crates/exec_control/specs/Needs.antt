-- What each call needs of the state that control stands for.
use Rattle.std.specs.Prelude.{ℕ, ◌<◌, ◌≤◌, slice_index_or}
use Rattle.sial_syntax.specs.Boxes.{volume}
use Rattle.sial_syntax.specs.Spaces.{cut_of, kind_of, segments_of, box_of}
use Rattle.sial_meaning.specs.Own.{Own}
use Rattle.sial_meaning.specs.Rest.{PardoAt, Rest, Within}
use Rattle.sial_meaning.specs.Setting.{Setting}
use Rattle.sip_tables.specs.Code.{instruction}
use Rattle.sip_tables.specs.declared.instruction.Operation.TheVariants as op
use Rattle.code_places.specs.Standing.{HasAt}
use Rattle.exec_control.specs.Position.{Position}
use Rattle.exec_control.specs.Stands.{ControlStands}

-- an index has the number of a segment that a subindex cuts into pieces
pub record HasPieces (g : Setting) (sub segment : ℕ) : Type 0 where
  pub some : 0 < segment
  pub within : segment ≤ segments_of g.spaces (kind_of g.spaces sub)
  pub cut : 0 < (cut_of g.spaces (kind_of g.spaces sub)).piece

-- at a loop over the pieces of a segment, there is one
abbrev pub PiecesAreThere : Setting → Position → Type 0
PiecesAreThere g c =
    (line sub index past : ℕ) → HasAt g.program c.at (instruction line (op.DoIn sub index past))
    → HasPieces g sub (slice_index_or c.values index 0)

-- control stands for some rest of the work, in which it may go on
pub record MayGo (g : Setting) (c : Position) : Type 0 where
  pub rest : Rest
  pub own : Own
  pub stands : ControlStands g c rest own
  pub pieces : PiecesAreThere g c

-- control is at the end of some pardo's body
pub record IsAtPardoEnd (g : Setting) (c : Position) : Type 0 where
  pub pardo : PardoAt
  pub number : ℕ
  pub more : Rest
  pub own : Own
  pub stands : ControlStands g c (Within pardo number more) own

-- and this is the place of a tuple of its box
pub record MayTakeUp (g : Setting) (c : Position) (number : ℕ) : Type 0 where
  pub within : IsAtPardoEnd g c
  pub below : number < volume (box_of g.spaces within.pardo.indices)
