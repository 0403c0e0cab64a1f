-- A whole file, read from its front, with the first fault.
use Rattle.std.specs.Prelude.{ℕ, zero, suc, ◌+◌, List, [], ◌∷◌, ◌==◌, ◌&&◌, not, nat_lt, nat_le, if◌then◌else◌, length, codes, Result, Ok, Err}
use Rattle.std.specs.Str.{bytes_eq}
use Rattle.sial_syntax.specs.Limits.{most_names, most_statements}
use Rattle.sip_tables.specs.declared.instruction.Instruction.{Instruction}
use Rattle.sip_tables.specs.Lists.{Lists}
use Rattle.table_file.specs.declared.fault.TableFault.{TableFault}
use Rattle.table_file.specs.declared.fault.TableFault.TheVariants.{Magic, Version, Field, Rest, TooMany}
use Rattle.table_file.specs.declared.opcode.Opcode.{Opcode}
use Rattle.table_file.specs.Bytes.{version}
use Rattle.table_file.specs.Entries.{program_name, text, index, array, scalar, procedure}
use Rattle.table_file.specs.Opcodes.{opcode_of, begins_statement}
use Rattle.table_file.specs.Fields.{◌>>=◌, or_field, byte, number, taken, entries}
use Rattle.table_file.specs.Instructions.{instruction}

-- a list of at most 256 entries, with its count before it
unfoldable pub short_list : {X : Type 0} → (List ℕ → ℕ → Result (X × ℕ) TableFault) → List ℕ → (at : ℕ) → Result (List X × ℕ) TableFault
short_list entry bytes at = do
  count ← number 4 bytes at
  if nat_le count.0 most_names then entries entry count.0 bytes count.1 else Err (TooMany at)

-- so many texts, the first of which is the program's name
unfoldable pub some_texts : (count : ℕ) → List ℕ → (at : ℕ) → Result (List (List ℕ) × ℕ) TableFault
some_texts zero bytes at = Ok ([], at)
some_texts (suc count) bytes at = do
  first ← program_name bytes at
  others ← entries text count bytes first.1
  Ok (first.0 ∷ others.0, others.1)

-- the texts, with their count before them
unfoldable pub texts : List ℕ → (at : ℕ) → Result (List (List ℕ) × ℕ) TableFault
texts bytes at = do
  count ← number 4 bytes at
  some_texts count.0 bytes count.1

-- the count of statements behind an operation at this place
abbrev pub counted : (statements : ℕ) → Opcode → (at : ℕ) → Result ℕ TableFault
counted statements opcode at =
    if not (begins_statement opcode) then Ok statements
    else if nat_lt statements most_statements then Ok (statements + 1)
    else Err (TooMany at)

-- the operation of an instruction
unfoldable pub operation : List ℕ → (at : ℕ) → Result (Opcode × ℕ) TableFault
operation bytes at = do
  n ← byte bytes at
  opcode ← or_field (opcode_of n.0) at
  Ok (opcode, n.1)

-- so many instructions, behind so many statements
unfoldable pub instructions : (version : ℕ) → (texts : List (List ℕ)) → (statements count : ℕ) → List ℕ → (at : ℕ) → Result (List Instruction × ℕ) TableFault
instructions version texts statements zero bytes at = Ok ([], at)
instructions version texts statements (suc count) bytes at = do
  opcode ← operation bytes at
  more ← counted statements opcode.0 at
  first ← instruction version texts opcode.0 bytes opcode.1
  others ← instructions version texts more count bytes first.1
  Ok (first.0 ∷ others.0, others.1)

-- the code, with its count before it
unfoldable pub code_list : (version : ℕ) → (texts : List (List ℕ)) → List ℕ → (at : ℕ) → Result (List Instruction × ℕ) TableFault
code_list version texts bytes at = do
  count ← number 4 bytes at
  instructions version texts 0 count.0 bytes count.1

-- the mark and the version
unfoldable pub file_head : List ℕ → Result (ℕ × ℕ) TableFault
file_head bytes = do
  mark ← taken 4 bytes 0
  if bytes_eq mark.0 (codes "SIPT") then (do
    v ← number 2 bytes mark.1
    if nat_le 1 v.0 && nat_le v.0 2 then Ok v else Err Version)
      else Err Magic

-- the six lists
unfoldable pub lists : (version : ℕ) → List ℕ → (at : ℕ) → Result (Lists × ℕ) TableFault
lists version bytes at = do
  t ← texts bytes at
  i ← short_list (index t.0) bytes t.1
  a ← short_list (array t.0) bytes i.1
  s ← short_list (scalar t.0) bytes a.1
  p ← short_list (procedure t.0) bytes s.1
  c ← code_list version t.0 bytes p.1
  Ok (record { texts = t.0; indices = i.0; arrays = a.0; scalars = s.0; procedures = p.0; code = c.0 }, c.1)

-- the whole file: nothing stands behind its lists, and its version is that of its code
unfoldable pub decode_of : List ℕ → Result Lists TableFault
decode_of bytes = do
  head ← file_head bytes
  t ← lists head.0 bytes head.1
  if nat_lt t.1 (length bytes) then Err (Rest t.1)
      else if version t.0.code == head.0 then Ok t.0
      else Err (Field 4)
