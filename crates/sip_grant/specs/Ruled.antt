-- A program that keeps the rules, as the code keeps it.
use Rattle.std.specs.Prelude.{◌≡◌, ℕ, List, Option, Some, None}
use Rattle.index_spaces.specs.Refusing.{refusal}
use Rattle.index_spaces.specs.declared.fault.SpaceFault.{SpaceFault}
use Rattle.input_text.specs.Texts as input
use Rattle.scalar_discipline.specs.Discipline as sides
use Rattle.shape_check.specs.Refused as shapes
use Rattle.sial_syntax.specs.Proper.{IsProper}
use Rattle.sial_syntax.specs.Shapes.{shape_fault}
use Rattle.sial_syntax.specs.SideRules.{side_fault}
use Rattle.sial_syntax.specs.Sides.{scalar_classes, array_sides}
use Rattle.sial_syntax.specs.Tree.{Tree, tree}
use Rattle.sip_grant.specs.Sources.{IsSourceOf}
use Rattle.sip_grant.specs.declared.refusal.Refusal.{Refusal}
use Rattle.sip_grant.specs.declared.refusal.Refusal.TheVariants.{NoProgram, NoTree, Shape, Sides, NoInput, BadInput, Unfit, OutOfMemory}
use Rattle.sip_grant.specs.declared.ruled.Ruled.{Ruled}
use Rattle.sip_input.specs.declared.input.Input.{Input}
use Rattle.sip_setting.specs.Grants.{KeepsRules}

-- a proper program that keeps the rules, and its classes
pub record IsKept (r : Ruled) : Type 0 where
  pub proper : IsProper (tree r.program)
  pub rules : KeepsRules (tree r.program)
  pub scalars : r.classes.scalars.items ≡ scalar_classes (tree r.program)
  pub locals : r.classes.locals.items ≡ array_sides (tree r.program)

-- the program of a file
pub record IsRuled (file : List ℕ) (r : Ruled) : Type 0 where
  pub source_is : IsSourceOf file (tree r.program)
  pub kept : IsKept r

-- which rule a tree breaks first, or that memory ran out
abbrev pub BlamesTree : Tree → Refusal → Type 0
BlamesTree p NoProgram = ⊥
BlamesTree p (NoTree fault) = ⊥
BlamesTree p (Shape fault) = shape_fault p ≡ Some (shapes.fault_of fault)
BlamesTree p (Sides fault) = (shape_fault p ≡ None) × (side_fault p ≡ Some (sides.fault_of fault))
BlamesTree p NoInput = ⊥
BlamesTree p (BadInput fault) = ⊥
BlamesTree p (Unfit fault) = ⊥
BlamesTree p OutOfMemory = Unit {0}

-- the fault of an input's text, or that memory ran out
abbrev pub IsBadInput : (text : List ℕ) → Refusal → Type 0
IsBadInput text NoProgram = ⊥
IsBadInput text (NoTree fault) = ⊥
IsBadInput text (Shape fault) = ⊥
IsBadInput text (Sides fault) = ⊥
IsBadInput text NoInput = ⊥
IsBadInput text (BadInput fault) = input.IsFaultOf text fault
IsBadInput text (Unfit fault) = ⊥
IsBadInput text OutOfMemory = Unit {0}

-- what a program and an input are refused for, or that memory ran out
abbrev pub IsMisfit : Option SpaceFault → Refusal → Type 0
IsMisfit refused NoProgram = ⊥
IsMisfit refused (NoTree fault) = ⊥
IsMisfit refused (Shape fault) = ⊥
IsMisfit refused (Sides fault) = ⊥
IsMisfit refused NoInput = ⊥
IsMisfit refused (BadInput fault) = ⊥
IsMisfit refused (Unfit fault) = refused ≡ Some fault
IsMisfit refused OutOfMemory = Unit {0}

-- what is wrong with the text of an input for a tree, or that memory ran out
abbrev pub BlamesInput : Tree → (text : List ℕ) → Refusal → Type 0
BlamesInput p text NoProgram = ⊥
BlamesInput p text (NoTree fault) = ⊥
BlamesInput p text (Shape fault) = ⊥
BlamesInput p text (Sides fault) = ⊥
BlamesInput p text NoInput = ⊥
BlamesInput p text (BadInput fault) = input.IsFaultOf text fault
BlamesInput p text (Unfit fault) = (given : Input) × input.IsInputOf text given × (refusal p (scalar_classes p) given ≡ Some fault)
BlamesInput p text OutOfMemory = Unit {0}
