-- The parts that a line is printed from: their symbols, and their text.
use Rattle.std.specs.Prelude.{ℕ, List, [], ◌∷◌, ◌++◌, flat_map, codes, decimal}
use Rattle.sial_syntax.specs.Tree.{Tree}
use Rattle.sial_syntax.specs.declared.condition.Cond.{Cond}
use Rattle.sial_syntax.specs.declared.operand.BlockRef.{BlockRef}
use Rattle.sial_syntax.specs.declared.operand.Operand.{Operand}
use Rattle.sial_syntax.specs.declared.operand.Operand.TheVariants as operand
use Rattle.sial_syntax.specs.declared.operand.Slot.{Slot}
use Rattle.sial_syntax.specs.declared.operand.Target.{Target}
use Rattle.sial_syntax.specs.declared.operand.Target.TheVariants as target
use Rattle.sial_parser.specs.declared.sign.Sign.TheVariants as sign
use Rattle.sial_parser.specs.declared.word.Symbol.{Symbol}
use Rattle.sial_parser.specs.declared.word.Symbol.TheVariants.{Key, Name, Number, Quoted}
use Rattle.sial_parser.specs.declared.word.Symbol.TheVariants as symbol
use Rattle.sial_printer.specs.Spelling.{key_spelling, sign_spelling, spelling}
use Rattle.sial_printer.specs.Symbols.{index_name, array_name, scalar_name, procedure_name, bound_symbol, names, dims, block, slot_symbol, slots, operand_symbols, value_symbol, op_sign, bin_sign, test_sign}
use Rattle.sial_printer.specs.declared.part.Part.{Part}
use Rattle.sial_printer.specs.declared.part.Part.TheVariants as part

-- the symbols of a part, before others
abbrev pub symbols : Tree → Part → (behind : List Symbol) → List Symbol
symbols p (part.Key word) behind = Key word ∷ behind
symbols p (part.Name name) behind = Name name.now ∷ behind
symbols p (part.Index i) behind = Name (index_name p i) ∷ behind
symbols p (part.Array a) behind = Name (array_name p a) ∷ behind
symbols p (part.Scalar x) behind = Name (scalar_name p x) ∷ behind
symbols p (part.Procedure q) behind = Name (procedure_name p q) ∷ behind
symbols p (part.Quoted text) behind = Quoted text.now ∷ behind
symbols p part.Comma behind = symbol.Sign sign.Comma ∷ behind
symbols p part.Max behind = Name (codes "max") ∷ behind
symbols p (part.Op how) behind = symbol.Sign (op_sign how) ∷ behind
symbols p (part.Bin how) behind = symbol.Sign (bin_sign how) ∷ behind
symbols p (part.Test how) behind = symbol.Sign (test_sign how) ∷ behind
symbols p (part.Bound b) behind = bound_symbol b.now ∷ behind
symbols p (part.Value v) behind = value_symbol p v ∷ behind
symbols p (part.Operand o) behind = operand_symbols p o.now behind
symbols p (part.Indices is) behind = names p is.now behind
symbols p (part.Dims is) behind = dims p is.now behind
symbols p (part.Block b) behind = block p b.now behind
symbols p (part.Slots xs) behind = slots p xs.now behind

-- the parts of a condition
abbrev pub cond_parts : Cond → List Part
cond_parts c = part.Value c.left ∷ part.Test c.test ∷ part.Value c.right ∷ []

-- the symbols of parts
abbrev pub all_symbols : Tree → List Part → List Symbol
all_symbols p [] = []
all_symbols p (x ∷ xs) = symbols p x (all_symbols p xs)

-- a further name of a list
abbrev pub further_name : Tree → (index : ℕ) → List ℕ
further_name p i = 44 ∷ 32 ∷ index_name p i

-- names with commas between
abbrev pub names_text : Tree → List ℕ → List ℕ
names_text p [] = []
names_text p (i ∷ is) = index_name p i ++ flat_map (further_name p) is

-- names behind a blank, if there are any
abbrev pub indices_text : Tree → List ℕ → List ℕ
indices_text p [] = []
indices_text p (i ∷ is) = 32 ∷ names_text p (i ∷ is)

-- names in parentheses
abbrev pub dims_text : Tree → List ℕ → List ℕ
dims_text p is = 40 ∷ names_text p is ++ 41 ∷ []

-- a block
abbrev pub block_text : Tree → BlockRef → List ℕ
block_text p b = array_name p b.array ++ dims_text p b.at

-- a further slot of a list
abbrev pub further_slot : Tree → Slot → List ℕ
further_slot p x = 44 ∷ 32 ∷ spelling (slot_symbol p x)

-- slots with commas between
abbrev pub listed_text : Tree → List Slot → List ℕ
listed_text p [] = []
listed_text p (x ∷ xs) = spelling (slot_symbol p x) ++ flat_map (further_slot p) xs

-- slots in parentheses
abbrev pub slots_text : Tree → List Slot → List ℕ
slots_text p xs = 40 ∷ listed_text p xs ++ 41 ∷ []

-- an operand
abbrev pub operand_text : Tree → Operand → List ℕ
operand_text p (operand.Number n) = decimal n
operand_text p (operand.Scalar x) = scalar_name p x
operand_text p (operand.Block b) = block_text p b

-- a target
abbrev pub target_text : Tree → Target → List ℕ
target_text p (target.Scalar x) = scalar_name p x
target_text p (target.Block b) = block_text p b

-- the text of a part behind others
abbrev pub part_text : Tree → Part → List ℕ
part_text p (part.Key word) = 32 ∷ key_spelling word
part_text p (part.Name name) = 32 ∷ name.now
part_text p (part.Index i) = 32 ∷ index_name p i
part_text p (part.Array a) = 32 ∷ array_name p a
part_text p (part.Scalar x) = 32 ∷ scalar_name p x
part_text p (part.Procedure q) = 32 ∷ procedure_name p q
part_text p (part.Quoted text) = 32 ∷ 34 ∷ text.now ++ 34 ∷ []
part_text p part.Comma = 44 ∷ []
part_text p part.Max = 32 ∷ codes "max"
part_text p (part.Op how) = 32 ∷ sign_spelling (op_sign how)
part_text p (part.Bin how) = 32 ∷ sign_spelling (bin_sign how)
part_text p (part.Test how) = 32 ∷ sign_spelling (test_sign how)
part_text p (part.Bound b) = 32 ∷ spelling (bound_symbol b.now)
part_text p (part.Value v) = 32 ∷ spelling (value_symbol p v)
part_text p (part.Operand o) = 32 ∷ operand_text p o.now
part_text p (part.Indices is) = indices_text p is.now
part_text p (part.Dims is) = dims_text p is.now
part_text p (part.Block b) = 32 ∷ block_text p b.now
part_text p (part.Slots xs) = slots_text p xs.now

-- the text of parts up to the end of their line
abbrev pub end_text : Tree → List Part → List ℕ
end_text p xs = flat_map (part_text p) xs ++ 10 ∷ []
