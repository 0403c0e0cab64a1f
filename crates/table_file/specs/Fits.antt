-- Which tables have a file: their numbers and lists fit into its fields, and names and texts are such.
use Rattle.std.specs.Prelude.{◌≡◌, ◌≢◌, ℕ, ◌^◌, ◌<◌, ◌≤◌, List, [], ◌∷◌, Bool, true, false, length, slice_get, count_by, IsTrue}
use Rattle.std.specs.List.{AllByRecursion}
use Rattle.sial_syntax.specs.declared.access.Access.{Access}
use Rattle.sial_syntax.specs.declared.access.Access.TheVariants as access
use Rattle.sial_syntax.specs.declared.condition.Cond.{Cond}
use Rattle.sial_syntax.specs.declared.condition.Value.{Value}
use Rattle.sial_syntax.specs.declared.condition.Value.TheVariants as value
use Rattle.sial_syntax.specs.declared.operand.BlockRef.{BlockRef}
use Rattle.sial_syntax.specs.declared.operand.Operand.{Operand}
use Rattle.sial_syntax.specs.declared.operand.Operand.TheVariants as operand
use Rattle.sial_syntax.specs.declared.operand.Right.{Right}
use Rattle.sial_syntax.specs.declared.operand.Right.TheVariants.{One, Two}
use Rattle.sial_syntax.specs.declared.operand.Slot.{Slot}
use Rattle.sial_syntax.specs.declared.operand.Slot.TheVariants.{At, All}
use Rattle.sial_syntax.specs.declared.operand.Target.{Target}
use Rattle.sial_syntax.specs.declared.operand.Target.TheVariants as target
use Rattle.sial_syntax.specs.Limits.{most_names, most_pardo, most_statements, most_text}
use Rattle.sial_syntax.specs.Names.{is_name}
use Rattle.sip_tables.specs.declared.array.ArrayEntry.{ArrayEntry}
use Rattle.sip_tables.specs.declared.index.BoundEntry.{BoundEntry}
use Rattle.sip_tables.specs.declared.index.BoundEntry.TheVariants.{Number, Named}
use Rattle.sip_tables.specs.declared.index.IndexEntry.{IndexEntry}
use Rattle.sip_tables.specs.declared.index.RangeEntry.{RangeEntry}
use Rattle.sip_tables.specs.declared.index.RangeEntry.TheVariants.{Segments, Sub}
use Rattle.sip_tables.specs.declared.instruction.Instruction.{Instruction}
use Rattle.sip_tables.specs.declared.instruction.Operation.{Operation}
use Rattle.sip_tables.specs.declared.instruction.Operation.TheVariants as op
use Rattle.sip_tables.specs.declared.procedure.ProcedureEntry.{ProcedureEntry}
use Rattle.sip_tables.specs.Lists.{Lists}
use Rattle.table_file.specs.Bytes.{bytes}
use Rattle.table_file.specs.Fields.{is_name_or_none, is_text_or_none}

-- a number of a field of so many bits
abbrev pub IsWithin : (bits : ℕ) → ℕ → Type 0
IsWithin bits n = n < 2 ^ bits

-- the number of a text; where there is one, it is a name
abbrev pub IsNamed : List (List ℕ) → (bits : ℕ) → ℕ → Type 0
IsNamed texts bits n = IsWithin bits n × IsTrue (is_name_or_none (slice_get texts n))

-- the number of a text; where there is one, it may be printed
abbrev pub IsPrinted : List (List ℕ) → ℕ → Type 0
IsPrinted texts n = IsWithin 32 n × IsTrue (is_text_or_none (slice_get texts n))

-- a text that isn't too long
abbrev pub IsShort : List ℕ → Type 0
IsShort text = length text ≤ most_text

-- the first text is a name, the others aren't too long
abbrev pub AreTexts : List (List ℕ) → Type 0
AreTexts [] = Unit {0}
AreTexts (text ∷ rest) = IsTrue (is_name text) × AllByRecursion IsShort rest

-- one to so many numbers of sixteen bits
pub record AreIndices (most : ℕ) (numbers : List ℕ) : Type 0 where
  pub some : 1 ≤ length numbers
  pub few : length numbers ≤ most
  pub within : AllByRecursion (IsWithin 16) numbers

-- a bound
abbrev pub BoundFits : List (List ℕ) → BoundEntry → Type 0
BoundFits texts (Number n) = IsWithin 64 n
BoundFits texts (Named text) = IsNamed texts 64 text

-- a range
abbrev pub RangeFits : List (List ℕ) → RangeEntry → Type 0
RangeFits texts (Segments kind lo hi) = BoundFits texts lo × BoundFits texts hi
RangeFits texts (Sub super) = IsWithin 64 super

-- an index
pub record IndexFits (texts : List (List ℕ)) (index : IndexEntry) : Type 0 where
  pub text : IsNamed texts 32 index.text
  pub line : IsWithin 32 index.line
  pub range : RangeFits texts index.range

-- an array
pub record ArrayFits (texts : List (List ℕ)) (array : ArrayEntry) : Type 0 where
  pub text : IsNamed texts 32 array.text
  pub line : IsWithin 32 array.line
  pub dims : AreIndices 6 array.dims

-- a procedure
pub record ProcedureFits (texts : List (List ℕ)) (procedure : ProcedureEntry) : Type 0 where
  pub text : IsNamed texts 32 procedure.text
  pub entry : IsWithin 32 procedure.entry

-- a block
pub record BlockFits (block : BlockRef) : Type 0 where
  pub array : IsWithin 16 block.array
  pub at : AreIndices 6 block.at

-- a slot; the number of `*` is no index's
abbrev pub SlotFits : Slot → Type 0
SlotFits (At index) = IsWithin 16 index × (index ≢ 65534)
SlotFits All = Unit {0}

-- one to six slots
pub record AreSlots (slots : List Slot) : Type 0 where
  pub some : 1 ≤ length slots
  pub few : length slots ≤ 6
  pub within : AllByRecursion SlotFits slots

-- what an assignment writes
abbrev pub TargetFits : Target → Type 0
TargetFits (target.Scalar scalar) = IsWithin 16 scalar
TargetFits (target.Block block) = BlockFits block

-- an operand of a right side
abbrev pub OperandFits : Operand → Type 0
OperandFits (operand.Number n) = IsWithin 64 n
OperandFits (operand.Scalar scalar) = IsWithin 16 scalar
OperandFits (operand.Block block) = BlockFits block

-- a right side
abbrev pub RightFits : Right → Type 0
RightFits (One a) = OperandFits a
RightFits (Two a bin b) = OperandFits a × OperandFits b

-- a value of a condition
abbrev pub ValueFits : Value → Type 0
ValueFits (value.Number n) = IsWithin 64 n
ValueFits (value.Scalar scalar) = IsWithin 16 scalar
ValueFits (value.Index index) = IsWithin 16 index

-- a condition
abbrev pub CondFits : Cond → Type 0
CondFits cond = ValueFits cond.left × ValueFits cond.right

-- a block that is put into another, by an access that writes
abbrev pub PutFits : BlockRef → Access → BlockRef → Type 0
PutFits block how from = BlockFits block × ((how ≢ access.Read) × BlockFits from)

-- an operation
abbrev pub OperationFits : List (List ℕ) → Operation → Type 0
OperationFits texts op.Stop = Unit {0}
OperationFits texts op.Return = Unit {0}
OperationFits texts (op.Do index past) = IsWithin 16 index × IsWithin 32 past
OperationFits texts (op.EndDo head) = IsWithin 32 head
OperationFits texts (op.DoIn sub index past) = IsWithin 16 sub × (IsWithin 16 index × IsWithin 32 past)
OperationFits texts (op.If cond otherwise) = CondFits cond × IsWithin 32 otherwise
OperationFits texts (op.Else past) = IsWithin 32 past
OperationFits texts op.EndIf = Unit {0}
OperationFits texts (op.Pardo indices end) = AreIndices most_pardo indices × IsWithin 32 end
OperationFits texts (op.Where cond) = CondFits cond
OperationFits texts (op.EndPardo head) = IsWithin 32 head
OperationFits texts (op.Call procedure entry) = IsWithin 16 procedure × IsWithin 32 entry
OperationFits texts (op.Assign target combining right) = TargetFits target × RightFits right
OperationFits texts (op.Get block) = BlockFits block
OperationFits texts (op.Put block how from) = PutFits block how from
OperationFits texts (op.Request block) = BlockFits block
OperationFits texts (op.Prepare block how from) = PutFits block how from
OperationFits texts (op.Create array) = IsWithin 16 array
OperationFits texts (op.Delete array) = IsWithin 16 array
OperationFits texts (op.Allocate array at) = IsWithin 16 array × AreSlots at
OperationFits texts (op.Deallocate array at) = IsWithin 16 array × AreSlots at
OperationFits texts (op.Collective into from) = IsWithin 16 into × IsWithin 16 from
OperationFits texts op.SipBarrier = Unit {0}
OperationFits texts op.ServerBarrier = Unit {0}
OperationFits texts (op.Print text) = IsPrinted texts text
OperationFits texts (op.PrintScalar scalar) = IsWithin 16 scalar
OperationFits texts (op.Integrals block) = BlockFits block

-- an instruction
abbrev pub InstructionFits : List (List ℕ) → Instruction → Type 0
InstructionFits texts instruction = IsWithin 32 instruction.line × OperationFits texts instruction.operation

-- whether an instruction begins a statement
abbrev pub is_statement : Operation → Bool
is_statement op.Stop = false
is_statement op.Return = false
is_statement (op.EndDo head) = false
is_statement (op.Else past) = false
is_statement op.EndIf = false
is_statement (op.Where cond) = false
is_statement (op.EndPardo head) = false
is_statement _ = true

-- the list of the code
pub record CodeFits (texts : List (List ℕ)) (code : List Instruction) : Type 0 where
  pub few : length code < 2 ^ 32
  pub statements : count_by (λ (i : Instruction). is_statement i.operation) code ≤ most_statements
  pub each : AllByRecursion (InstructionFits texts) code

-- a list of at most 256 entries
abbrev pub ListFits : {X : Type 0} → (X → Type 0) → List X → Type 0
ListFits EntryFits entries = (length entries ≤ most_names) × AllByRecursion EntryFits entries

-- tables that have a file
pub record HaveFile (t : Lists) : Type 0 where
  pub few_texts : length t.texts < 2 ^ 32
  pub texts : AreTexts t.texts
  pub indices : ListFits (IndexFits t.texts) t.indices
  pub arrays : ListFits (ArrayFits t.texts) t.arrays
  pub scalars : ListFits (IsNamed t.texts 32) t.scalars
  pub procedures : ListFits (ProcedureFits t.texts) t.procedures
  pub code : CodeFits t.texts t.code

-- these bytes are the file of these tables
abbrev pub IsFileOf : List ℕ → Lists → Type 0
IsFileOf file t = HaveFile t × (file ≡ bytes t)
