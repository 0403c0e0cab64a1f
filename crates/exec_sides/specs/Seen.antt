-- What the code hands over, seen as blocks and right sides of the definitions.
use Rattle.std.specs.Prelude.{ℕ, List, map}
use Rattle.exec_names.specs.Naming.{extent_of}
use Rattle.exec_names.specs.declared.extent.Extent as code_extent
use Rattle.sial_syntax.specs.Spaces.{Extent}
use Rattle.sial_syntax.specs.declared.operand.Op.{Op}
use Rattle.sial_syntax.specs.declared.operand.Op.TheVariants as op
use Rattle.kernel_permute.specs.declared.how.How.{How}
use Rattle.kernel_permute.specs.declared.how.How.TheVariants as how
use Rattle.sial_meaning.specs.Right as right
use Rattle.sial_meaning.specs.Sight.{Sight, lengths}
use Rattle.exec_sides.specs.declared.seen.Seen.{Seen}
use Rattle.exec_sides.specs.declared.seen.Shape.{Shape}
use Rattle.exec_sides.specs.declared.side.Side.{Side}
use Rattle.exec_sides.specs.declared.side.Side.TheVariants.{Alone, Joined}
use Rattle.exec_sides.specs.declared.side.Term.{Term}
use Rattle.exec_sides.specs.declared.side.Term.TheVariants.{Number, Block}

-- what lies side by side, as the definitions have it
abbrev pub extents_of : List code_extent.Extent → List Extent
extents_of extents = map extent_of extents

-- a block of this shape with these numbers
abbrev pub sight_of : Shape → List ℕ → Sight
sight_of shape words = record { at = shape.at.now; extents = extents_of shape.extents.now; words = words }

-- a block that was handed over
abbrev pub seen : Seen → Sight
seen block = sight_of block.shape block.words.now

-- how many positions each index of a shape has
abbrev pub lengths_of : Shape → List ℕ
lengths_of shape = lengths (extents_of shape.extents.now)

-- an operand
abbrev pub term_of : Term → right.Term
term_of (Number n) = right.Plain n
term_of (Block b) = right.Shown (seen b)

-- a right side
abbrev pub side_of : Side → right.Side
side_of (Alone a) = right.Alone (term_of a)
side_of (Joined a bin b) = right.Joined (term_of a) bin (term_of b)

-- the assignment by which a value meets its target so
abbrev pub op_of : How → Op
op_of how.Set = op.Set
op_of how.Add = op.Add
op_of how.Subtract = op.Subtract
