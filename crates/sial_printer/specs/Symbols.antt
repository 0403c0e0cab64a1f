-- The symbols of a tree's parts, production by production; each of these takes the symbols that stand behind it.
use Rattle.std.specs.Prelude.{ℕ, List, [], ◌∷◌, Option, Some, None, slice_get, codes}
use Rattle.sial_syntax.specs.Tree.{Tree, Procedure}
use Rattle.sial_syntax.specs.declared.access.Access.{Access}
use Rattle.sial_syntax.specs.declared.access.Access.TheVariants.{Read, Add, Max, Store}
use Rattle.sial_syntax.specs.declared.array.ArrayDecl.{ArrayDecl}
use Rattle.sial_syntax.specs.declared.array.ArrayKind.{ArrayKind}
use Rattle.sial_syntax.specs.declared.array.ArrayKind.TheVariants as arrays
use Rattle.sial_syntax.specs.declared.condition.Cond.{Cond}
use Rattle.sial_syntax.specs.declared.condition.Test.{Test}
use Rattle.sial_syntax.specs.declared.condition.Test.TheVariants as test
use Rattle.sial_syntax.specs.declared.condition.Value.{Value}
use Rattle.sial_syntax.specs.declared.condition.Value.TheVariants as value
use Rattle.sial_syntax.specs.declared.index.Bound.{Bound}
use Rattle.sial_syntax.specs.declared.index.Bound.TheVariants as bound
use Rattle.sial_syntax.specs.declared.index.IndexDecl.{IndexDecl}
use Rattle.sial_syntax.specs.declared.index.Kind.{Kind}
use Rattle.sial_syntax.specs.declared.index.Kind.TheVariants as kind
use Rattle.sial_syntax.specs.declared.operand.Bin.{Bin}
use Rattle.sial_syntax.specs.declared.operand.Bin.TheVariants as bin
use Rattle.sial_syntax.specs.declared.operand.BlockRef.{BlockRef}
use Rattle.sial_syntax.specs.declared.operand.Op.{Op}
use Rattle.sial_syntax.specs.declared.operand.Op.TheVariants as op
use Rattle.sial_syntax.specs.declared.operand.Operand.{Operand}
use Rattle.sial_syntax.specs.declared.operand.Operand.TheVariants as operand
use Rattle.sial_syntax.specs.declared.operand.Right.{Right}
use Rattle.sial_syntax.specs.declared.operand.Right.TheVariants.{One, Two}
use Rattle.sial_syntax.specs.declared.operand.Slot.{Slot}
use Rattle.sial_syntax.specs.declared.operand.Slot.TheVariants.{At, All}
use Rattle.sial_syntax.specs.declared.operand.Target.{Target}
use Rattle.sial_syntax.specs.declared.operand.Target.TheVariants as target
use Rattle.sial_parser.specs.declared.keyword.Keyword.{Keyword}
use Rattle.sial_parser.specs.declared.keyword.Keyword.TheVariants as key
use Rattle.sial_parser.specs.declared.sign.Sign.{Sign}
use Rattle.sial_parser.specs.declared.sign.Sign.TheVariants as sign
use Rattle.sial_parser.specs.declared.word.Symbol.{Symbol}
use Rattle.sial_parser.specs.declared.word.Symbol.TheVariants.{Key, Name, Number, Quoted}
use Rattle.sial_parser.specs.declared.word.Symbol.TheVariants as symbol

-- the name of an index, an array, a scalar, a procedure; none where there is none of that number
abbrev pub name_of_index : Option IndexDecl → List ℕ
name_of_index (Some x) = x.name
name_of_index None = []

abbrev pub index_name : Tree → ℕ → List ℕ
index_name p i = name_of_index (slice_get p.indices i)

abbrev pub name_of_array : Option ArrayDecl → List ℕ
name_of_array (Some x) = x.name
name_of_array None = []

abbrev pub array_name : Tree → ℕ → List ℕ
array_name p a = name_of_array (slice_get p.arrays a)

abbrev pub name_of_scalar : Option (List ℕ) → List ℕ
name_of_scalar (Some x) = x
name_of_scalar None = []

abbrev pub scalar_name : Tree → ℕ → List ℕ
scalar_name p x = name_of_scalar (slice_get p.scalars x)

abbrev pub name_of_procedure : Option Procedure → List ℕ
name_of_procedure (Some x) = x.name
name_of_procedure None = []

abbrev pub procedure_name : Tree → ℕ → List ℕ
procedure_name p q = name_of_procedure (slice_get p.procedures q)

-- bound
abbrev pub bound_symbol : Bound → Symbol
bound_symbol (bound.Number n) = Number n
bound_symbol (bound.Named name) = Name name

-- the word that declares indices of a kind
abbrev pub kind_key : Kind → Keyword
kind_key kind.Ao = key.AoIndex
kind_key kind.Mo = key.MoIndex
kind_key kind.Moa = key.MoaIndex
kind_key kind.Mob = key.MobIndex
kind_key kind.Index = key.Index

-- the word that declares arrays of a kind
abbrev pub array_key : ArrayKind → Keyword
array_key arrays.Static = key.Static
array_key arrays.Temp = key.Temp
array_key arrays.Local = key.Local
array_key arrays.Distributed = key.Distributed
array_key arrays.Served = key.Served

-- the names of further indices, a comma before each
abbrev pub other_names : Tree → List ℕ → (behind : List Symbol) → List Symbol
other_names p [] behind = behind
other_names p (i ∷ is) behind = symbol.Sign sign.Comma ∷ Name (index_name p i) ∷ other_names p is behind

-- names
abbrev pub names : Tree → List ℕ → (behind : List Symbol) → List Symbol
names p [] behind = behind
names p (i ∷ is) behind = Name (index_name p i) ∷ other_names p is behind

-- "(" names ")"
abbrev pub dims : Tree → List ℕ → (behind : List Symbol) → List Symbol
dims p is behind = symbol.Sign sign.Open ∷ names p is (symbol.Sign sign.Close ∷ behind)

-- block
abbrev pub block : Tree → BlockRef → (behind : List Symbol) → List Symbol
block p b behind = Name (array_name p b.array) ∷ dims p b.at behind

-- slot
abbrev pub slot_symbol : Tree → Slot → Symbol
slot_symbol p (At i) = Name (index_name p i)
slot_symbol p All = symbol.Sign sign.Times

-- further slots, a comma before each
abbrev pub other_slots : Tree → List Slot → (behind : List Symbol) → List Symbol
other_slots p [] behind = behind
other_slots p (x ∷ xs) behind = symbol.Sign sign.Comma ∷ slot_symbol p x ∷ other_slots p xs behind

-- "(" slot {"," slot} ")"
abbrev pub slots : Tree → List Slot → (behind : List Symbol) → List Symbol
slots p [] behind = symbol.Sign sign.Open ∷ symbol.Sign sign.Close ∷ behind
slots p (x ∷ xs) behind = symbol.Sign sign.Open ∷ slot_symbol p x ∷ other_slots p xs (symbol.Sign sign.Close ∷ behind)

-- operand
abbrev pub operand_symbols : Tree → Operand → (behind : List Symbol) → List Symbol
operand_symbols p (operand.Number n) behind = Number n ∷ behind
operand_symbols p (operand.Scalar x) behind = Name (scalar_name p x) ∷ behind
operand_symbols p (operand.Block b) behind = block p b behind

-- name | block, as a target
abbrev pub target_symbols : Tree → Target → (behind : List Symbol) → List Symbol
target_symbols p (target.Scalar x) behind = Name (scalar_name p x) ∷ behind
target_symbols p (target.Block b) behind = block p b behind

-- value
abbrev pub value_symbol : Tree → Value → Symbol
value_symbol p (value.Number n) = Number n
value_symbol p (value.Scalar x) = Name (scalar_name p x)
value_symbol p (value.Index i) = Name (index_name p i)

-- the sign between two operands
abbrev pub bin_sign : Bin → Sign
bin_sign bin.Plus = sign.Plus
bin_sign bin.Minus = sign.Minus
bin_sign bin.Times = sign.Times
bin_sign bin.Outer = sign.Caret

-- the sign of an assignment
abbrev pub op_sign : Op → Sign
op_sign op.Set = sign.Equals
op_sign op.Add = sign.PlusEquals
op_sign op.Subtract = sign.MinusEquals
op_sign op.Scale = sign.TimesEquals

-- the sign of a comparison
abbrev pub test_sign : Test → Sign
test_sign test.Less = sign.Less
test_sign test.LessEqual = sign.LessEqual
test_sign test.Greater = sign.Greater
test_sign test.GreaterEqual = sign.GreaterEqual
test_sign test.Equal = sign.EqualEqual
test_sign test.NotEqual = sign.NotEqual

-- right, up to the end of its line
abbrev pub right_symbols : Tree → Right → List Symbol
right_symbols p (One a) = operand_symbols p a []
right_symbols p (Two a how b) = operand_symbols p a (symbol.Sign (bin_sign how) ∷ operand_symbols p b [])

-- cond, up to the end of its line
abbrev pub cond_symbols : Tree → Cond → List Symbol
cond_symbols p c = value_symbol p c.left ∷ symbol.Sign (test_sign c.test) ∷ value_symbol p c.right ∷ []

-- "="|"+="|"max" "="; a `put` and a `prepare` never read
abbrev pub access_symbols : Access → (behind : List Symbol) → List Symbol
access_symbols Store behind = symbol.Sign sign.Equals ∷ behind
access_symbols Add behind = symbol.Sign sign.PlusEquals ∷ behind
access_symbols Max behind = Name (codes "max") ∷ symbol.Sign sign.Equals ∷ behind
access_symbols Read behind = behind
