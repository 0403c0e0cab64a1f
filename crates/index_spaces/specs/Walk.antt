-- The refusal of statements, looked for one statement after another.
use Rattle.std.specs.Prelude.{flat_map, List, [], ◌∷◌, Option}
use Rattle.sial_syntax.specs.Tree.{Tree, Procedure, Block, End, Then, Plain, Do, DoIn, Pardo, If, IfElse}
use Rattle.sial_syntax.specs.declared.operand.BlockRef.{BlockRef}
use Rattle.sial_syntax.specs.declared.operand.Right.{Right}
use Rattle.sial_syntax.specs.Parts.{operand_block, operands}
use Rattle.sial_syntax.specs.Spaces.{Spaces}
use Rattle.index_spaces.specs.Refusing.{AtLine, sooner, statement_refusal}

abbrev mutual
  -- the one that comes first of a refusal and those of a body
  pub first_in : Tree → Spaces → Block → Option AtLine → Option AtLine
  first_in p spaces End first = first
  first_in p spaces (Then line form rest) first = first_in p spaces rest (first_inside p spaces form (sooner first (statement_refusal p spaces line form)))

  -- the same of the statements inside a statement
  pub first_inside : Tree → Spaces → Plain → Option AtLine → Option AtLine
  first_inside p spaces (Do index body) first = first_in p spaces body first
  first_inside p spaces (DoIn sub index body) first = first_in p spaces body first
  first_inside p spaces (Pardo indices wheres body) first = first_in p spaces body first
  first_inside p spaces (If cond body) first = first_in p spaces body first
  first_inside p spaces (IfElse cond body other) first = first_in p spaces other (first_in p spaces body first)
  first_inside p spaces _ first = first

-- the same of procedures
abbrev pub first_of_all : Tree → Spaces → List Procedure → Option AtLine → Option AtLine
first_of_all p spaces [] first = first
first_of_all p spaces (q ∷ qs) first = first_of_all p spaces qs (first_in p spaces q.body first)

-- the blocks that a right side names
abbrev pub right_blocks : Right → List BlockRef
right_blocks right = flat_map operand_block (operands right)
