-- Symbols with their blanks, part by part.
use Rattle.std.proofs.Common.{◌≡◌, ℕ, List, [], ◌∷◌, ◌++◌, ◌-◌, ◌≤◌, Bool, true, false, take, drop, length, get_or, map, refl, sym, ap, ◌∙◌, append_assoc, append-nil, arith}
use Rattle.std.specs.Prelude.{◌==◌}
use Rattle.std.specs.List.{flat_map}
use Rattle.std.proofs.lemmas.List.{take_all}
use Rattle.sial_syntax.specs.Tree.{Tree}
use Rattle.sial_syntax.specs.declared.condition.Value.TheVariants as value
use Rattle.sial_syntax.specs.declared.index.Bound.TheVariants as bound
use Rattle.sial_syntax.specs.declared.operand.Bin.TheVariants as bin
use Rattle.sial_syntax.specs.declared.operand.BlockRef.{BlockRef}
use Rattle.sial_syntax.specs.declared.condition.Test.TheVariants as test
use Rattle.sial_syntax.specs.declared.operand.Op.TheVariants as op
use Rattle.sial_syntax.specs.declared.operand.Operand.{Operand}
use Rattle.sial_syntax.specs.declared.operand.Operand.TheVariants as operand
use Rattle.sial_syntax.specs.declared.operand.Slot.{Slot}
use Rattle.sial_syntax.specs.declared.operand.Slot.TheVariants.{At, All}
use Rattle.sial_syntax.specs.declared.operand.Target.{Target}
use Rattle.sial_syntax.specs.declared.operand.Target.TheVariants as target
use Rattle.sial_syntax.specs.declared.index.Bound.{Bound}
use Rattle.sial_syntax.specs.declared.condition.Value.{Value}
use Rattle.sial_parser.specs.declared.keyword.Keyword.{Keyword}
use Rattle.sial_parser.specs.declared.sign.Sign.TheVariants as sign
use Rattle.sial_parser.specs.declared.word.Symbol.{Symbol}
use Rattle.sial_parser.specs.declared.word.Symbol.TheVariants.{Key}
use Rattle.sial_parser.specs.declared.word.Symbol.TheVariants as symbol
use Rattle.sial_printer.specs.Parts.{symbols, all_symbols, further_name, names_text, indices_text, dims_text, block_text, further_slot, listed_text, slots_text, operand_text, target_text, part_text, end_text}
use Rattle.sial_printer.specs.Spelling.{key_spelling, spelling, spaced, line_text, text_of}
use Rattle.sial_printer.specs.Symbols.{index_name, array_name, names, other_names, dims, slot_symbol, slots, other_slots, operand_symbols, target_symbols, value_symbol, bound_symbol}
use Rattle.sial_printer.specs.declared.part.Part.{Part}
use Rattle.sial_printer.specs.declared.part.Part.TheVariants as part

-- further names of a list
others_spaced : (p : Tree) (is : List ℕ) (ss : List Symbol) → spaced false (other_names p is ss) ≡ flat_map (further_name p) is ++ spaced false ss
others_spaced p [] ss = refl
others_spaced p (i ∷ is) ss =
    ap (λ t. 44 ∷ 32 ∷ t) (ap (λ t. index_name p i ++ t) (others_spaced p is ss) ∙ sym (append_assoc (index_name p i) (flat_map (further_name p) is) (spaced false ss)))

-- names before a closing sign
names_closed : (p : Tree) (is : List ℕ) (ss : List Symbol) → spaced true (names p is (symbol.Sign sign.Close ∷ ss)) ≡ (names_text p is ++ 41 ∷ []) ++ spaced false ss
names_closed p [] ss = refl
names_closed p (i ∷ is) ss =
    ap (λ t. index_name p i ++ t) (others_spaced p is (symbol.Sign sign.Close ∷ ss))
    ∙ sym (append_assoc (index_name p i) (flat_map (further_name p) is) (41 ∷ spaced false ss))
    ∙ sym (append_assoc (index_name p i ++ flat_map (further_name p) is) (41 ∷ []) (spaced false ss))

dims_spaced : (p : Tree) (is : List ℕ) (ss : List Symbol) → spaced false (dims p is ss) ≡ dims_text p is ++ spaced false ss
dims_spaced p is ss = ap (λ t. 40 ∷ t) (names_closed p is ss)

block_spaced : (p : Tree) (b : BlockRef) (ss : List Symbol) → array_name p b.array ++ spaced false (dims p b.at ss) ≡ block_text p b ++ spaced false ss
block_spaced p b ss = ap (λ t. array_name p b.array ++ t) (dims_spaced p b.at ss) ∙ sym (append_assoc (array_name p b.array) (dims_text p b.at) (spaced false ss))

-- names behind a blank
indices_spaced : (p : Tree) (is : List ℕ) (ss : List Symbol) → spaced false (names p is ss) ≡ indices_text p is ++ spaced false ss
indices_spaced p [] ss = refl
indices_spaced p (i ∷ is) ss =
    ap (λ t. 32 ∷ t) (ap (λ t. index_name p i ++ t) (others_spaced p is ss) ∙ sym (append_assoc (index_name p i) (flat_map (further_name p) is) (spaced false ss)))

-- further slots of a list
other_slots_spaced : (p : Tree) (xs : List Slot) (ss : List Symbol) → spaced false (other_slots p xs ss) ≡ flat_map (further_slot p) xs ++ spaced false ss
other_slots_spaced p [] ss = refl
other_slots_spaced p (At i ∷ xs) ss =
    ap (λ t. 44 ∷ 32 ∷ t) (ap (λ t. index_name p i ++ t) (other_slots_spaced p xs ss) ∙ sym (append_assoc (index_name p i) (flat_map (further_slot p) xs) (spaced false ss)))
other_slots_spaced p (All ∷ xs) ss = ap (λ t. 44 ∷ 32 ∷ 42 ∷ t) (other_slots_spaced p xs ss)

-- the first slot, with what stands behind it
first_slot : (p : Tree) (x : Slot) (ss : List Symbol) → spaced true (slot_symbol p x ∷ ss) ≡ spelling (slot_symbol p x) ++ spaced false ss
first_slot p (At i) ss = refl
first_slot p All ss = refl

slots_spaced : (p : Tree) (xs : List Slot) (ss : List Symbol) → spaced false (slots p xs ss) ≡ slots_text p xs ++ spaced false ss
slots_spaced p [] ss = refl
slots_spaced p (x ∷ xs) ss =
    ap (λ t. 40 ∷ t) (first_slot p x (other_slots p xs (symbol.Sign sign.Close ∷ ss))
    ∙ ap (λ t. spelling (slot_symbol p x) ++ t) (other_slots_spaced p xs (symbol.Sign sign.Close ∷ ss))
    ∙ sym (append_assoc (spelling (slot_symbol p x)) (flat_map (further_slot p) xs) (41 ∷ spaced false ss))
    ∙ sym (append_assoc (spelling (slot_symbol p x) ++ flat_map (further_slot p) xs) (41 ∷ []) (spaced false ss)))

operand_spaced : (p : Tree) (o : Operand) (ss : List Symbol) → spaced false (operand_symbols p o ss) ≡ (32 ∷ operand_text p o) ++ spaced false ss
operand_spaced p (operand.Number n) ss = refl
operand_spaced p (operand.Scalar x) ss = refl
operand_spaced p (operand.Block b) ss = ap (λ t. 32 ∷ t) (block_spaced p b ss)

value_spaced : (p : Tree) (v : Value) (ss : List Symbol) → spaced false (value_symbol p v ∷ ss) ≡ (32 ∷ spelling (value_symbol p v)) ++ spaced false ss
value_spaced p (value.Number n) ss = refl
value_spaced p (value.Scalar x) ss = refl
value_spaced p (value.Index i) ss = refl

bound_spaced : (b : Bound) (ss : List Symbol) → spaced false (bound_symbol b ∷ ss) ≡ (32 ∷ spelling (bound_symbol b)) ++ spaced false ss
bound_spaced (bound.Number n) ss = refl
bound_spaced (bound.Named x) ss = refl

-- a part, and what stands behind it
part_spaced : (p : Tree) (x : Part) (ss : List Symbol) → spaced false (symbols p x ss) ≡ part_text p x ++ spaced false ss
part_spaced p (part.Key word) ss = refl
part_spaced p (part.Name name) ss = refl
part_spaced p (part.Index i) ss = refl
part_spaced p (part.Array a) ss = refl
part_spaced p (part.Scalar x) ss = refl
part_spaced p (part.Procedure q) ss = refl
part_spaced p (part.Quoted text) ss = refl
part_spaced p part.Comma ss = refl
part_spaced p part.Max ss = refl
part_spaced p (part.Op op.Set) ss = refl
part_spaced p (part.Op op.Add) ss = refl
part_spaced p (part.Op op.Subtract) ss = refl
part_spaced p (part.Op op.Scale) ss = refl
part_spaced p (part.Bin bin.Plus) ss = refl
part_spaced p (part.Bin bin.Minus) ss = refl
part_spaced p (part.Bin bin.Times) ss = refl
part_spaced p (part.Bin bin.Outer) ss = refl
part_spaced p (part.Test test.Less) ss = refl
part_spaced p (part.Test test.LessEqual) ss = refl
part_spaced p (part.Test test.Greater) ss = refl
part_spaced p (part.Test test.GreaterEqual) ss = refl
part_spaced p (part.Test test.Equal) ss = refl
part_spaced p (part.Test test.NotEqual) ss = refl
part_spaced p (part.Bound b) ss = bound_spaced b.now ss
part_spaced p (part.Value v) ss = value_spaced p v ss
part_spaced p (part.Operand o) ss = operand_spaced p o.now ss
part_spaced p (part.Indices is) ss = indices_spaced p is.now ss
part_spaced p (part.Dims is) ss = dims_spaced p is.now ss
part_spaced p (part.Block b) ss = ap (λ t. 32 ∷ t) (block_spaced p b.now ss)
part_spaced p (part.Slots xs) ss = slots_spaced p xs.now ss

-- all parts of a line
parts_spaced : (p : Tree) (xs : List Part) → spaced false (all_symbols p xs) ≡ flat_map (part_text p) xs
parts_spaced p [] = refl
parts_spaced p (x ∷ xs) = part_spaced p x (all_symbols p xs) ∙ ap (λ t. part_text p x ++ t) (parts_spaced p xs)

-- a first word, and the parts up to the end of the line
ended : (p : Tree) (first : List ℕ) (xs : List Part) → first ++ end_text p xs ≡ ((first ++ spaced false (all_symbols p xs)) ++ 10 ∷ []) ++ []
ended p first xs =
    sym (append_assoc first (flat_map (part_text p) xs) (10 ∷ []))
    ∙ ap (λ t. (first ++ t) ++ 10 ∷ []) (sym (parts_spaced p xs))
    ∙ sym (append-nil ((first ++ spaced false (all_symbols p xs)) ++ 10 ∷ []))

-- a line that begins with a reserved word
pub line_is : (p : Tree) (word : Keyword) (xs : List Part) → key_spelling word ++ end_text p xs ≡ text_of ((Key word ∷ all_symbols p xs) ∷ [])
line_is p word xs = ended p (key_spelling word) xs

target_spaced : (p : Tree) (t : Target) (ss : List Symbol) → spaced true (target_symbols p t ss) ≡ target_text p t ++ spaced false ss
target_spaced p (target.Scalar x) ss = refl
target_spaced p (target.Block b) ss = block_spaced p b ss

-- a line that begins with a target
pub assignment_is : (p : Tree) (t : Target) (xs : List Part) → target_text p t ++ end_text p xs ≡ text_of (target_symbols p t (all_symbols p xs) ∷ [])
assignment_is p t xs = ended p (target_text p t) xs ∙ ap (λ b. (b ++ 10 ∷ []) ++ []) (sym (target_spaced p t (all_symbols p xs)))

-- the first name and the others
pub first_names : (p : Tree) (is : List ℕ) → 1 ≤ length is → index_name p (get_or is 0 0) ++ flat_map (further_name p) (take (length is - 1) (drop 1 is)) ≡ names_text p is
first_names p [] some = absurd (omega arith)
first_names p (i ∷ is) some = ap (λ js. index_name p i ++ flat_map (further_name p) js) (take_all (length (i ∷ is) - 1) is (omega arith))

-- the first slot and the others
pub first_slots : (p : Tree) (xs : List Slot) → 1 ≤ length xs → spelling (slot_symbol p (get_or xs 0 (At 0))) ++ flat_map (further_slot p) (take (length xs - 1) (drop 1 xs)) ≡ listed_text p xs
first_slots p [] some = absurd (omega arith)
first_slots p (x ∷ xs) some = ap (λ ys. spelling (slot_symbol p x) ++ flat_map (further_slot p) ys) (take_all (length (x ∷ xs) - 1) xs (omega arith))

-- names, where there are some
pub some_names : (p : Tree) (is : List ℕ) (empty : Bool) → empty ≡ (length is == 0) → empty ≡ false → 32 ∷ names_text p is ≡ indices_text p is
some_names p [] empty e f = absurd cc
some_names p (i ∷ is) empty e f = refl

-- lines before others
pub text-append : (xs ys : List (List Symbol)) → text_of (xs ++ ys) ≡ text_of xs ++ text_of ys
text-append [] ys = refl
text-append (x ∷ xs) ys = ap (λ t. line_text x ++ t) (text-append xs ys) ∙ sym (append_assoc (line_text x) (text_of xs) (text_of ys))

-- lines that are printed one by one
pub mapped_text : {X : Type 0} (f : X → List Symbol) (xs : List X) → flat_map (λ (x : X). text_of (f x ∷ [])) xs ≡ text_of (map f xs)
mapped_text f [] = refl
mapped_text f (x ∷ xs) = ap (λ t. (line_text (f x) ++ []) ++ t) (mapped_text f xs) ∙ ap (λ t. t ++ text_of (map f xs)) (append-nil (line_text (f x)))

-- a line before others
pub headed : (line : List Symbol) (lines : List (List Symbol)) → text_of (line ∷ []) ++ text_of lines ≡ text_of (line ∷ lines)
headed line lines = sym (text-append (line ∷ []) lines)

-- a line, other lines, and lines behind them
pub headed_two : (line : List Symbol) (lines behind : List (List Symbol)) → text_of (line ∷ []) ++ (text_of lines ++ text_of behind) ≡ text_of (line ∷ (lines ++ behind))
headed_two line lines behind = ap (λ t. text_of (line ∷ []) ++ t) (sym (text-append lines behind)) ∙ headed line (lines ++ behind)

-- the like with lines further behind
pub headed_three : (line : List Symbol) (lines : List (List Symbol)) (middle : List Symbol) (behind : List (List Symbol)) → text_of (line ∷ []) ++ (text_of lines ++ (text_of (middle ∷ []) ++ text_of behind)) ≡ text_of (line ∷ (lines ++ (middle ∷ behind)))
headed_three line lines middle behind = ap (λ t. text_of (line ∷ []) ++ (text_of lines ++ t)) (headed middle behind) ∙ headed_two line lines (middle ∷ behind)

-- lines of one kind, and lines behind them
pub mapped_then : {X : Type 0} (f : X → List Symbol) (xs ys : List X) (behind : List (List Symbol)) → xs ≡ ys → flat_map (λ (x : X). text_of (f x ∷ [])) xs ++ text_of behind ≡ text_of (map f ys ++ behind)
mapped_then f xs ys behind same =
    ap (λ zs. flat_map (λ x. text_of (f x ∷ [])) zs ++ text_of behind) same
    ∙ ap (λ t. t ++ text_of behind) (mapped_text f ys)
    ∙ sym (text-append (map f ys) behind)

-- lines of several, and lines behind them
pub several_text : {X Y : Type 0} (see : X → Y) (f : Y → List (List Symbol)) (xs : List X) → flat_map (λ (x : X). text_of (f (see x))) xs ≡ text_of (flat_map f (map see xs))
several_text see f [] = refl
several_text see f (x ∷ xs) = ap (λ t. text_of (f (see x)) ++ t) (several_text see f xs) ∙ sym (text-append (f (see x)) (flat_map f (map see xs)))

pub several_then : {X Y : Type 0} (see : X → Y) (f : Y → List (List Symbol)) (xs ys : List X) (behind : List (List Symbol)) → xs ≡ ys → flat_map (λ (x : X). text_of (f (see x))) xs ++ text_of behind ≡ text_of (flat_map f (map see ys) ++ behind)
several_then see f xs ys behind same =
    ap (λ zs. flat_map (λ x. text_of (f (see x))) zs ++ text_of behind) same
    ∙ ap (λ t. t ++ text_of behind) (several_text see f ys)
    ∙ sym (text-append (flat_map f (map see ys)) behind)
