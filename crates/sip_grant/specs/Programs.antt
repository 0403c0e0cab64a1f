-- What the file of a program says of the rules.
use Rattle.std.specs.Prelude.{◌≡◌, ℕ, List, Some, None}
use Rattle.scalar_discipline.specs.Discipline as sides
use Rattle.scalar_discipline.specs.declared.fault.RuleFault.{RuleFault}
use Rattle.shape_check.specs.Refused as shapes
use Rattle.shape_check.specs.declared.fault.ShapeFault.{ShapeFault}
use Rattle.sial_syntax.specs.Shapes.{shape_fault}
use Rattle.sial_syntax.specs.SideRules.{side_fault}
use Rattle.sial_syntax.specs.Tree.{Tree}
use Rattle.sip_grant.specs.Sources.{IsSourceOf}
use Rattle.sip_setting.specs.Grants.{KeepsRules}

-- the file of a program that keeps the rules
pub record IsProgram (file : List ℕ) (p : Tree) : Type 0 where
  pub source_is : IsSourceOf file p
  pub rules : KeepsRules p

-- a file is that of a program that keeps the rules
abbrev pub IsProgramFile : List ℕ → Type 0
IsProgramFile file = (p : Tree) × IsProgram file p

-- the file of a program that breaks the shape rules, with the first fault by line and then by rule
pub record BreaksShape (file : List ℕ) (fault : ShapeFault) : Type 0 where
  pub program : Tree
  pub source_is : IsSourceOf file program
  pub first : shape_fault program ≡ Some (shapes.fault_of fault)

-- the file of a program that keeps the shape rules and breaks the side rules, with the first fault: recursion, then by line and then
-- by rule
pub record BreaksSides (file : List ℕ) (fault : RuleFault) : Type 0 where
  pub program : Tree
  pub source_is : IsSourceOf file program
  pub shapes : shape_fault program ≡ None
  pub first : side_fault program ≡ Some (sides.fault_of fault)
