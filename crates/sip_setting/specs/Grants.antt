-- What the rules grant: a program that keeps the shape rules and the side rules, and an input that fits it.
use Rattle.std.specs.Prelude.{◌≡◌, None}
use Rattle.index_spaces.specs.Refusing.{refusal}
use Rattle.sial_syntax.specs.Shapes.{shape_fault}
use Rattle.sial_syntax.specs.SideRules.{side_fault}
use Rattle.sial_syntax.specs.Sides.{scalar_classes}
use Rattle.sial_syntax.specs.Tree.{Tree}
use Rattle.sip_input.specs.declared.input.Input.{Input}

-- a program breaks none of the rules
pub record KeepsRules (p : Tree) : Type 0 where
  pub shapes : shape_fault p ≡ None
  pub sides : side_fault p ≡ None

-- an input has what the program needs, and nothing that doesn't fit it
abbrev pub FitsProgram : Tree → Input → Type 0
FitsProgram p input = refusal p (scalar_classes p) input ≡ None

-- a program and an input that the rules grant
pub record AreGranted (p : Tree) (input : Input) : Type 0 where
  pub rules : KeepsRules p
  pub fits : FitsProgram p input
