-- The plain tree of a program, which definitions and laws recurse on, and how the code's tree is seen as it.
use Rattle.std.specs.Prelude.{ℕ, List, [], ◌∷◌, map, Option, Some, None, option_map}
use Rattle.sial_syntax.specs.declared.access.Access.{Access}
use Rattle.sial_syntax.specs.declared.array.ArrayDecl.{ArrayDecl}
use Rattle.sial_syntax.specs.declared.condition.Cond.{Cond}
use Rattle.sial_syntax.specs.declared.index.IndexDecl.{IndexDecl}
use Rattle.sial_syntax.specs.declared.operand.BlockRef.{BlockRef}
use Rattle.sial_syntax.specs.declared.operand.Op.{Op}
use Rattle.sial_syntax.specs.declared.operand.Right.{Right}
use Rattle.sial_syntax.specs.declared.operand.Slot.{Slot}
use Rattle.sial_syntax.specs.declared.operand.Target.{Target}
use Rattle.sial_syntax.specs.declared.program.Proc.{Proc}
use Rattle.sial_syntax.specs.declared.program.Program.{Program}
use Rattle.sial_syntax.specs.declared.statement.Form.{Form}
use Rattle.sial_syntax.specs.declared.statement.Stmt.{Stmt}
use Rattle.sial_syntax.specs.declared.statement.Form.TheOpen as form
use Rattle.sial_syntax.specs.declared.statement.Form.TheOpen.{Form-F, Stmt-F}
use Rattle.sial_syntax.specs.declared.statement.Form.TheFolds.{fold-Form, fold-Stmt}

mutual
  -- statements in order, each with its text line
  pub data Block : Type 0 where
    End : Block
    Then : (line : ℕ) → Plain → Block → Block

  -- what one statement says
  pub data Plain : Type 0 where
    Do : (index : ℕ) → Block → Plain
    DoIn : (sub index : ℕ) → Block → Plain
    Pardo : (indices : List ℕ) → (wheres : List Cond) → Block → Plain
    If : Cond → Block → Plain
    IfElse : Cond → Block → Block → Plain
    Call : (procedure : ℕ) → Plain
    Assign : Target → Op → Right → Plain
    Get : BlockRef → Plain
    Request : BlockRef → Plain
    Put : BlockRef → (how : Access) → (from : BlockRef) → Plain
    Prepare : BlockRef → (how : Access) → (from : BlockRef) → Plain
    Create : (array : ℕ) → Plain
    Delete : (array : ℕ) → Plain
    Allocate : (array : ℕ) → (at : List Slot) → Plain
    Deallocate : (array : ℕ) → (at : List Slot) → Plain
    Collective : (into from : ℕ) → Plain
    SipBarrier : Plain
    ServerBarrier : Plain
    Print : (text : List ℕ) → Plain
    PrintScalar : (scalar : ℕ) → Plain
    Integrals : BlockRef → Plain

-- a procedure: its name and its statements
pub record Procedure : Type 0 where
  pub name : List ℕ
  pub body : Block

-- a whole program
pub record Tree : Type 0 where
  pub name : List ℕ
  pub indices : List IndexDecl
  pub arrays : List ArrayDecl
  pub scalars : List (List ℕ)
  pub procedures : List Procedure
  pub body : Block

-- statements with their lines, as a block
abbrev pub block_of : List (ℕ × Plain) → Block
block_of [] = End
block_of (x ∷ xs) = Then x.0 x.1 (block_of xs)

-- an `if` with or without `else`
abbrev pub branches : Cond → Block → Option Block → Plain
branches cond first None = If cond first
branches cond first (Some other) = IfElse cond first other

-- one form, its bodies seen already
abbrev pub plain_layer : Form-F Plain (ℕ × Plain) → Plain
plain_layer (form.Do index body) = Do index (block_of body.items)
plain_layer (form.DoIn sub index body) = DoIn sub index (block_of body.items)
plain_layer (form.Pardo indices wheres body) = Pardo indices.items wheres.items (block_of body.items)
plain_layer (form.If cond first other) = branches cond (block_of first.items) (option_map (λ v. block_of v.items) other)
plain_layer (form.Call procedure) = Call procedure
plain_layer (form.Assign target op right) = Assign target op right
plain_layer (form.Get block) = Get block
plain_layer (form.Request block) = Request block
plain_layer (form.Put block how from) = Put block how from
plain_layer (form.Prepare block how from) = Prepare block how from
plain_layer (form.Create array) = Create array
plain_layer (form.Delete array) = Delete array
plain_layer (form.Allocate array at) = Allocate array at.items
plain_layer (form.Deallocate array at) = Deallocate array at.items
plain_layer (form.Collective into from) = Collective into from
plain_layer form.SipBarrier = SipBarrier
plain_layer form.ServerBarrier = ServerBarrier
plain_layer (form.Print text) = Print text
plain_layer (form.PrintScalar scalar) = PrintScalar scalar
plain_layer (form.Integrals block) = Integrals block

-- one statement, its form seen already
abbrev pub with_line : Stmt-F Plain (ℕ × Plain) → ℕ × Plain
with_line stmt = (stmt.line, stmt.form)

-- a statement of the code's tree
abbrev pub plain_stmt : Stmt → ℕ × Plain
plain_stmt = fold-Stmt Plain (ℕ × Plain) plain_layer with_line

-- what a statement of the code's tree says
abbrev pub plain_form : Form → Plain
plain_form = fold-Form Plain (ℕ × Plain) plain_layer with_line

-- a body of the code's tree
abbrev pub block : List Stmt → Block
block stmts = block_of (map plain_stmt stmts)

-- a procedure of the code's tree
abbrev pub procedure : Proc → Procedure
procedure p = record { name = p.name; body = block p.body.items }

-- a program of the code's tree
abbrev pub tree : Program → Tree
tree p = record {
  name = p.name;
  indices = p.indices.items;
  arrays = p.arrays.items;
  scalars = p.scalars.items;
  procedures = map procedure p.procs.items;
  body = block p.body.items;
}
