-- The file of some tables: a head, and then each list with its count.
use Rattle.std.specs.Prelude.{ℕ, ◌+◌, ◌*◌, List, ◌++◌, Bool, true, false, flat_map, length, codes, if◌then◌else◌}
use Rattle.std.specs.List.{list_any}
use Rattle.sial_syntax.specs.declared.access.Access.{Access}
use Rattle.sial_syntax.specs.declared.access.Access.TheVariants as access
use Rattle.sial_syntax.specs.declared.condition.Cond.{Cond}
use Rattle.sial_syntax.specs.declared.operand.BlockRef.{BlockRef}
use Rattle.sial_syntax.specs.declared.operand.Op.{Op}
use Rattle.sial_syntax.specs.declared.operand.Right.{Right}
use Rattle.sial_syntax.specs.declared.operand.Right.TheVariants.{One, Two}
use Rattle.sial_syntax.specs.declared.operand.Target.{Target}
use Rattle.sip_tables.specs.declared.instruction.Instruction.{Instruction}
use Rattle.sip_tables.specs.declared.instruction.Operation.{Operation}
use Rattle.sip_tables.specs.declared.instruction.Operation.TheVariants as op
use Rattle.sip_tables.specs.Lists.{Lists}
use Rattle.table_file.specs.Numbers.{test_number, op_number, bin_number, how_number}
pub use Rattle.table_file.specs.Parts.{byte, short, word, long, low, zeros, place, places, text_bytes, bound_bytes, range_number, range_bytes, index_bytes, array_bytes, scalar_bytes, procedure_bytes, part, no_part, number_part, scalar_part, block_part, index_part, text_part, procedure_part, indices_part, array_part, slot_number, slots_part, target_part, operand_part, value_part, first_indices, other_indices}

-- an instruction before its operands: its operation, its mode, two bytes that nothing uses, its line, its jump
abbrev pub row_head : (operation mode line jump : ℕ) → List ℕ
row_head operation mode line jump = byte operation ++ (byte mode ++ (zeros 2 ++ (word line ++ word jump)))

-- an instruction with its three operands
abbrev pub row : (operation mode line jump : ℕ) → (a b c : List ℕ) → List ℕ
row operation mode line jump a b c = row_head operation mode line jump ++ (a ++ (b ++ c))

-- an operation with no operand
abbrev pub bare : (operation line jump : ℕ) → List ℕ
bare operation line jump = row operation 0 line jump no_part no_part no_part

-- a test: its values, and how they are compared
abbrev pub test_row : (operation line jump : ℕ) → Cond → List ℕ
test_row operation line jump cond = row operation (test_number cond.test) line jump (value_part cond.left) (value_part cond.right) no_part

-- an operation with one operand
abbrev pub single : (operation line jump : ℕ) → (a : List ℕ) → List ℕ
single operation line jump a = row operation 0 line jump a no_part no_part

-- an assignment
abbrev pub assign_row : (line : ℕ) → Target → Op → Right → List ℕ
assign_row line target combining (One a) = row 14 (16 * op_number combining) line 0 (target_part target) (operand_part a) no_part
assign_row line target combining (Two a bin b) = row 14 (16 * op_number combining + bin_number bin) line 0 (target_part target) (operand_part a) (operand_part b)

-- a block that is put into another
abbrev pub put_row : (operation line : ℕ) → BlockRef → Access → BlockRef → List ℕ
put_row operation line block how from = row operation (how_number how) line 0 (block_part block) (block_part from) no_part

-- an operation of an instruction on this line
abbrev pub operation_bytes : (line : ℕ) → Operation → List ℕ
operation_bytes line op.Stop = bare 1 line 0
operation_bytes line op.Return = bare 2 line 0
operation_bytes line (op.Do index past) = single 3 line past (index_part index)
operation_bytes line (op.EndDo head) = bare 4 line head
operation_bytes line (op.DoIn sub index past) = row 5 0 line past (index_part sub) (index_part index) no_part
operation_bytes line (op.If cond otherwise) = test_row 7 line otherwise cond
operation_bytes line (op.Else past) = bare 8 line past
operation_bytes line op.EndIf = bare 9 line 0
operation_bytes line (op.Pardo indices end) = row 10 0 line end (first_indices indices) (other_indices indices) no_part
operation_bytes line (op.Where cond) = test_row 11 line 0 cond
operation_bytes line (op.EndPardo head) = bare 12 line head
operation_bytes line (op.Call procedure entry) = single 13 line entry (procedure_part procedure)
operation_bytes line (op.Assign target combining right) = assign_row line target combining right
operation_bytes line (op.Get block) = single 15 line 0 (block_part block)
operation_bytes line (op.Put block how from) = put_row 16 line block how from
operation_bytes line (op.Request block) = single 17 line 0 (block_part block)
operation_bytes line (op.Prepare block how from) = put_row 18 line block how from
operation_bytes line (op.Create array) = single 19 line 0 (array_part array)
operation_bytes line (op.Delete array) = single 20 line 0 (array_part array)
operation_bytes line (op.Allocate array at) = single 21 line 0 (slots_part array at)
operation_bytes line (op.Deallocate array at) = single 22 line 0 (slots_part array at)
operation_bytes line (op.Collective into from) = row 23 0 line 0 (scalar_part into) (scalar_part from) no_part
operation_bytes line op.SipBarrier = bare 24 line 0
operation_bytes line op.ServerBarrier = bare 25 line 0
operation_bytes line (op.Print text) = single 26 line 0 (text_part text)
operation_bytes line (op.PrintScalar scalar) = single 27 line 0 (scalar_part scalar)
operation_bytes line (op.Integrals block) = single 28 line 0 (block_part block)

-- an instruction
abbrev pub instruction_bytes : Instruction → List ℕ
instruction_bytes instruction = operation_bytes instruction.line instruction.operation

-- whether a way to put a block keeps the greater one
abbrev pub is_max : Access → Bool
is_max access.Read = false
is_max access.Add = false
is_max access.Max = true
is_max access.Store = false

-- whether an operation puts a block so that the greater one is kept
abbrev pub puts_max : Operation → Bool
puts_max (op.Put block how from) = is_max how
puts_max (op.Prepare block how from) = is_max how
puts_max _ = false

-- the version: 2 where some block is put so that the greater one is kept
abbrev pub version : List Instruction → ℕ
version code = if list_any (λ (i : Instruction). puts_max i.operation) code then 2 else 1

-- a list: how many entries it has, and these
abbrev pub list_bytes : {X : Type 0} → (X → List ℕ) → List X → List ℕ
list_bytes entry entries = word (length entries) ++ flat_map entry entries

-- the head of a file: its mark and its version
abbrev pub head_bytes : List Instruction → List ℕ
head_bytes code = codes "SIPT" ++ short (version code)

-- the file
abbrev pub bytes : Lists → List ℕ
bytes t =
    head_bytes t.code
    ++ (list_bytes text_bytes t.texts
    ++ (list_bytes index_bytes t.indices
    ++ (list_bytes array_bytes t.arrays
    ++ (list_bytes scalar_bytes t.scalars
    ++ (list_bytes procedure_bytes t.procedures
    ++ list_bytes instruction_bytes t.code)))))
