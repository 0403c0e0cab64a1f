-- Programs that break a rule.
use Rattle.std.proofs.Common.{◌≡◌, ◌≢◌, ℕ, List, None, refl}
use Rattle.scalar_discipline.specs.Discipline as sides
use Rattle.scalar_discipline.specs.declared.fault.RuleFault.{RuleFault}
use Rattle.scalar_discipline.specs.declared.fault.RuleFault.TheVariants as rule
use Rattle.shape_check.specs.Refused as shapes
use Rattle.shape_check.specs.declared.fault.ShapeFault.{ShapeFault}
use Rattle.shape_check.specs.declared.fault.ShapeFault.TheVariants as shape
use Rattle.sial_syntax.specs.Shapes.{shape_fault}
use Rattle.sial_syntax.specs.Tree.{Tree}
use Rattle.sip_grant.specs.Refusals.{BlamesProgram}
use Rattle.sip_grant.specs.Ruled.{BlamesTree}
use Rattle.sip_grant.specs.Sources.{IsSourceOf}
use Rattle.sip_grant.specs.declared.refusal.Refusal.{Refusal}
use Rattle.sip_grant.specs.declared.refusal.Refusal.TheVariants.{NoProgram, NoTree, Shape, Sides, NoInput, BadInput, Unfit, OutOfMemory}

-- What is blamed in the tree is blamed in its file.
pub tree_blames : (text : List ℕ) (p : Tree) (refusal : Refusal) → IsSourceOf text p → BlamesTree p refusal → BlamesProgram text refusal
tree_blames text p NoProgram is blames = absurd blames
tree_blames text p (NoTree fault) is blames = absurd blames
tree_blames text p (Shape fault) is blames = record { program = p; source_is = is; first = blames }
tree_blames text p (Sides fault) is blames = record { program = p; source_is = is; shapes = blames.0; first = blames.1 }
tree_blames text p NoInput is blames = absurd blames
tree_blames text p (BadInput fault) is blames = absurd blames
tree_blames text p (Unfit fault) is blames = absurd blames
tree_blames text p OutOfMemory is blames = tt

-- What `shapes` refuses with, unless memory ran out, is the tree's first fault.
pub shape_is : (p : Tree) (fault : ShapeFault) → shapes.IsCause p fault → fault ≢ shape.OutOfMemory → BlamesTree p (Shape fault)
shape_is p (shape.Unbound line) cause not = cause
shape_is p (shape.Rebound line) cause not = cause
shape_is p (shape.Repeated line) cause not = cause
shape_is p (shape.WrongKind line) cause not = cause
shape_is p (shape.WrongIndices line) cause not = cause
shape_is p (shape.NotWritable line) cause not = cause
shape_is p shape.OutOfMemory cause not = absurd (not refl)

-- The same of `classify`.
pub side_is : (p : Tree) (fault : RuleFault) → shape_fault p ≡ None → sides.IsFirst p fault → fault ≢ rule.OutOfMemory → BlamesTree p (Sides fault)
side_is p (rule.PardoInPardo line) keeps cause not = (keeps, cause)
side_is p (rule.SharedWriteOutside line) keeps cause not = (keeps, cause)
side_is p (rule.SyncInside line) keeps cause not = (keeps, cause)
side_is p (rule.PrintInside line) keeps cause not = (keeps, cause)
side_is p (rule.StaticWriteInside line) keeps cause not = (keeps, cause)
side_is p (rule.MixedLocal line) keeps cause not = (keeps, cause)
side_is p (rule.MixedScalar line) keeps cause not = (keeps, cause)
side_is p (rule.PartialRead line) keeps cause not = (keeps, cause)
side_is p (rule.Recursion line) keeps cause not = (keeps, cause)
side_is p (rule.CallTooDeep line) keeps cause not = (keeps, cause)
side_is p rule.OutOfMemory keeps cause not = absurd (not refl)
