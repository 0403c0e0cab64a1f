-- The parts of a file: numbers, tuples, entries of what is declared, and operands. Numbers have their highest byte first.
use Rattle.std.specs.Prelude.{ℕ, ◌%◌, List, [], ◌∷◌, ◌++◌, map, length, take, drop, replicate, nat_le, if◌then◌else◌, slice_index_or}
use Rattle.std.specs.Int.{bytes_high_first}
use Rattle.sial_syntax.specs.declared.condition.Value.{Value}
use Rattle.sial_syntax.specs.declared.condition.Value.TheVariants as value
use Rattle.sial_syntax.specs.declared.operand.BlockRef.{BlockRef}
use Rattle.sial_syntax.specs.declared.operand.Operand.{Operand}
use Rattle.sial_syntax.specs.declared.operand.Operand.TheVariants as operand
use Rattle.sial_syntax.specs.declared.operand.Slot.{Slot}
use Rattle.sial_syntax.specs.declared.operand.Slot.TheVariants.{At, All}
use Rattle.sial_syntax.specs.declared.operand.Target.{Target}
use Rattle.sial_syntax.specs.declared.operand.Target.TheVariants as target
use Rattle.sip_tables.specs.declared.array.ArrayEntry.{ArrayEntry}
use Rattle.sip_tables.specs.declared.index.BoundEntry.{BoundEntry}
use Rattle.sip_tables.specs.declared.index.BoundEntry.TheVariants.{Number, Named}
use Rattle.sip_tables.specs.declared.index.IndexEntry.{IndexEntry}
use Rattle.sip_tables.specs.declared.index.RangeEntry.{RangeEntry}
use Rattle.sip_tables.specs.declared.index.RangeEntry.TheVariants.{Segments, Sub}
use Rattle.sip_tables.specs.declared.procedure.ProcedureEntry.{ProcedureEntry}
use Rattle.table_file.specs.Numbers.{kind_number, array_number}

-- a number of one byte
abbrev pub byte : ℕ → List ℕ
byte n = n ∷ []

-- numbers of two, four and eight bytes; of a number that is too wide the lowest bytes
abbrev pub short : ℕ → List ℕ
short n = bytes_high_first 2 n

abbrev pub word : ℕ → List ℕ
word n = bytes_high_first 4 n

abbrev pub long : ℕ → List ℕ
long n = bytes_high_first 8 n

-- the lowest byte of a length
abbrev pub low : ℕ → ℕ
low n = n % 256

-- bytes that nothing uses
abbrev pub zeros : ℕ → List ℕ
zeros n = replicate n 0

-- a place of a tuple; a place that isn't used has all bits set
abbrev pub place : List ℕ → (at : ℕ) → List ℕ
place numbers at = short (slice_index_or numbers at 65535)

-- the six places of a tuple
abbrev pub places : List ℕ → List ℕ
places numbers = place numbers 0 ++ (place numbers 1 ++ (place numbers 2 ++ (place numbers 3 ++ (place numbers 4 ++ place numbers 5))))

-- the length of a text, and the text
abbrev pub text_bytes : List ℕ → List ℕ
text_bytes text = short (length text) ++ text

-- a bound: a tag, and the number, or that of the constant's name among the texts
abbrev pub bound_bytes : BoundEntry → List ℕ
bound_bytes (Number n) = byte 0 ++ long n
bound_bytes (Named text) = byte 1 ++ long text

-- the number of what an index counts
abbrev pub range_number : RangeEntry → ℕ
range_number (Segments kind lo hi) = kind_number kind
range_number (Sub super) = 6

-- both ends of a range; a subindex has its super index in place of the first, and nothing in place of the second
abbrev pub range_bytes : RangeEntry → List ℕ
range_bytes (Segments kind lo hi) = bound_bytes lo ++ bound_bytes hi
range_bytes (Sub super) = byte 2 ++ (long super ++ (byte 2 ++ zeros 8))

-- an index: what it counts, its name, its line, its range
abbrev pub index_bytes : IndexEntry → List ℕ
index_bytes index = byte (range_number index.range) ++ (word index.text ++ (word index.line ++ range_bytes index.range))

-- an array: its kind, its name, its line, and its dimensions with their number before them
abbrev pub array_bytes : ArrayEntry → List ℕ
array_bytes array = byte (array_number array.kind) ++ (word array.text ++ (word array.line ++ (byte (low (length array.dims)) ++ places array.dims)))

-- a scalar: its name
abbrev pub scalar_bytes : ℕ → List ℕ
scalar_bytes text = word text

-- a procedure: its name, and its first instruction
abbrev pub procedure_bytes : ProcedureEntry → List ℕ
procedure_bytes procedure = word procedure.text ++ word procedure.entry

-- an operand of an instruction: a tag, the length of its tuple, the number of a thing, and twelve bytes
abbrev pub part : (tag rank number : ℕ) → (rest : List ℕ) → List ℕ
part tag rank number rest = byte tag ++ (byte rank ++ (short number ++ rest))

-- no operand
abbrev pub no_part : List ℕ
no_part = zeros 16

-- a number
abbrev pub number_part : ℕ → List ℕ
number_part n = part 1 0 0 (long n ++ zeros 4)

-- a scalar
abbrev pub scalar_part : ℕ → List ℕ
scalar_part scalar = part 2 0 scalar (zeros 12)

-- a block: its array and its indices
abbrev pub block_part : BlockRef → List ℕ
block_part block = part 3 (low (length block.at)) block.array (places block.at)

-- an index
abbrev pub index_part : ℕ → List ℕ
index_part index = part 4 0 index (zeros 12)

-- a text
abbrev pub text_part : ℕ → List ℕ
text_part text = part 5 0 0 (word text ++ zeros 8)

-- a procedure
abbrev pub procedure_part : ℕ → List ℕ
procedure_part procedure = part 6 0 procedure (zeros 12)

-- some indices
abbrev pub indices_part : List ℕ → List ℕ
indices_part indices = part 7 (low (length indices)) 0 (places indices)

-- an array
abbrev pub array_part : ℕ → List ℕ
array_part array = part 8 0 array (zeros 12)

-- a slot as a place of a tuple
abbrev pub slot_number : Slot → ℕ
slot_number (At index) = index
slot_number All = 65534

-- an array with a slot for each dimension
abbrev pub slots_part : (array : ℕ) → List Slot → List ℕ
slots_part array at = part 3 (low (length at)) array (places (map slot_number at))

-- what an assignment writes
abbrev pub target_part : Target → List ℕ
target_part (target.Scalar scalar) = scalar_part scalar
target_part (target.Block block) = block_part block

-- an operand of a right side
abbrev pub operand_part : Operand → List ℕ
operand_part (operand.Number n) = number_part n
operand_part (operand.Scalar scalar) = scalar_part scalar
operand_part (operand.Block block) = block_part block

-- a value of a condition
abbrev pub value_part : Value → List ℕ
value_part (value.Number n) = number_part n
value_part (value.Scalar scalar) = scalar_part scalar
value_part (value.Index index) = index_part index

-- the first six indices of a pardo
abbrev pub first_indices : List ℕ → List ℕ
first_indices indices = indices_part (take 6 indices)

-- the others, where there are any
abbrev pub other_indices : List ℕ → List ℕ
other_indices indices = if nat_le (length indices) 6 then no_part else indices_part (drop 6 indices)
