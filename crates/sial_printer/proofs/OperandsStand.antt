-- The symbols of what a line holds stand with it, where names mean the same.
use Rattle.std.proofs.Common.{◌≡◌, ℕ, suc, ◌+◌, ◌<◌, List, [], ◌∷◌, ◌++◌, false, map, length, Some, refl, sym, ap, ◌∙◌, subst, arith}
use Rattle.std.specs.Prelude.{IsTrue}
use Rattle.std.specs.List.{AllByRecursion}
use Rattle.std.proofs.lemmas.Bool.{ltb-true}
use Rattle.sial_syntax.specs.Limits.{past_numbers}
use Rattle.sial_syntax.specs.Names.{is_name}
use Rattle.sial_syntax.specs.Tree.{Tree}
use Rattle.sial_syntax.specs.declared.access.Access.{Access}
use Rattle.sial_syntax.specs.declared.condition.Cond.{Cond}
use Rattle.sial_syntax.specs.declared.condition.Test.{Test}
use Rattle.sial_syntax.specs.declared.condition.Test.TheVariants as test
use Rattle.sial_syntax.specs.declared.condition.Value.{Value}
use Rattle.sial_syntax.specs.declared.operand.Bin.{Bin}
use Rattle.sial_syntax.specs.declared.operand.Bin.TheVariants as bin
use Rattle.sial_syntax.specs.declared.operand.BlockRef.{BlockRef}
use Rattle.sial_syntax.specs.declared.operand.Op.{Op}
use Rattle.sial_syntax.specs.declared.operand.Op.TheVariants as op
use Rattle.sial_syntax.specs.declared.operand.Operand.{Operand}
use Rattle.sial_syntax.specs.declared.operand.Right.{Right}
use Rattle.sial_syntax.specs.declared.operand.Slot.{Slot}
use Rattle.sial_syntax.specs.declared.operand.Target.{Target}
use Rattle.sial_parser.specs.declared.sign.Sign.TheVariants as sign
use Rattle.sial_parser.specs.declared.word.Symbol.{Symbol}
use Rattle.sial_parser.specs.declared.word.Symbol.TheVariants.{Key, Name, Number, Quoted}
use Rattle.sial_parser.specs.declared.word.Symbol.TheVariants as symbol
use Rattle.sial_parser.specs.Grammar.{at, opens, go_on_with_open, is_where, begins_proc, begins_declaration, AreIndices, AreDims, IsBlock, IsSlot, AreSlots, IsNumber, IsOperand, IsBin, IsRight, IsValue, IsTest, IsCond, IsTarget, IsOp, IsAccess, AreWheres}
use Rattle.sial_parser.specs.Scope.{Scope, thing_of}
use Rattle.sial_parser.specs.Sound.{AreSound}
use Rattle.sial_parser.specs.declared.thing.Thing.{Thing}
use Rattle.sial_parser.specs.declared.thing.Thing.TheVariants as thing
use Rattle.sial_parser.specs.declared.word.Symbol.TheVariants.{LineEnd}
use Rattle.sial_parser.specs.declared.word.Word.{Word}
use Rattle.sial_parser.proofs.ProperOperands.{Covers, number_proper, operand_proper, cond_proper}
use Rattle.sial_printer.specs.Lines.{where_line}
use Rattle.sial_printer.specs.Placed.{placed_line, placed, IsSaid, AreSaid, IsLine, AreLines}
use Rattle.sial_printer.specs.Symbols.{index_name, array_name, scalar_name, procedure_name, names, other_names, dims, block, slot_symbol, other_slots, slots, operand_symbols, target_symbols, value_symbol, bin_sign, op_sign, test_sign, right_symbols, cond_symbols, access_symbols}

-- the name of a thing
abbrev pub name_of : Tree → Thing → List ℕ
name_of p (thing.Index i) = index_name p i
name_of p (thing.Array a) = array_name p a
name_of p (thing.Scalar x) = scalar_name p x
name_of p (thing.Proc q) = procedure_name p q

-- lines behind lines
pub placed_append : (line : ℕ) (xs ys : List (List Symbol)) (behind : List Word) → placed line (xs ++ ys) behind ≡ placed line xs (placed (line + length xs) ys behind)
placed_append line [] ys behind = let k : line ≡ line + 0 = omega arith in ap (λ n. placed n ys behind) k
placed_append line (x ∷ xs) ys behind =
    let k : line + 1 + length xs ≡ line + suc (length xs) = omega arith in
    ap (placed_line line x) (placed_append (line + 1) xs ys behind ∙ ap (λ n. placed (line + 1) xs (placed n ys behind)) k)

pub every_appended : {X : Type 0} (P : X → Type 0) (xs ys : List X) → AllByRecursion P xs → AllByRecursion P ys → AllByRecursion P (xs ++ ys)
every_appended P [] ys h g = g
every_appended P (x ∷ xs) ys h g = (h.0, every_appended P xs ys h.1 g)

-- signs are those of the grammar, and open no list
pub bin_is : (how : Bin) → IsBin how (bin_sign how)
bin_is bin.Plus = IsBin.plus
bin_is bin.Minus = IsBin.minus
bin_is bin.Times = IsBin.times
bin_is bin.Outer = IsBin.outer

pub bin_closed : (how : Bin) → opens (symbol.Sign (bin_sign how)) ≡ false
bin_closed bin.Plus = refl
bin_closed bin.Minus = refl
bin_closed bin.Times = refl
bin_closed bin.Outer = refl

pub op_is : (how : Op) → IsOp how (op_sign how)
op_is op.Set = IsOp.set
op_is op.Add = IsOp.add
op_is op.Subtract = IsOp.subtract
op_is op.Scale = IsOp.scale

pub op_closed : (how : Op) → opens (symbol.Sign (op_sign how)) ≡ false
op_closed op.Set = refl
op_closed op.Add = refl
op_closed op.Subtract = refl
op_closed op.Scale = refl

pub test_is : (how : Test) → IsTest how (test_sign how)
test_is test.Less = IsTest.less
test_is test.LessEqual = IsTest.less_equal
test_is test.Greater = IsTest.greater
test_is test.GreaterEqual = IsTest.greater_equal
test_is test.Equal = IsTest.equal
test_is test.NotEqual = IsTest.not_equal

-- a word that goes on with no condition, procedure or declaration
abbrev pub IsStart : Symbol → Type 0
IsStart what = (is_where what ≡ false) × (begins_proc what ≡ false) × (begins_declaration what ≡ false)

-- words begin with a word on a line that may stand there
pub record Begin (line : ℕ) (ws : List Word) : Type 0 where
  pub what : Symbol
  pub others : List Word
  pub are : ws ≡ at line what ∷ others
  pub start : IsStart what

module _ (p : Tree) (s t : Scope) (covers : Covers p s) (carries : (x : List ℕ) (u : Thing) → thing_of s x ≡ Some u → thing_of t (name_of p u) ≡ Some u) (named : (x : List ℕ) (u : Thing) → thing_of s x ≡ Some u → IsTrue (is_name (name_of p u))) where
  -- names
  pub others_are : (closing : Symbol) (is : List ℕ) (ws rest : List Word) → AreIndices s closing is ws rest → (ss : List Symbol) → other_names p is ss ≡ symbol.Sign sign.Comma ∷ names p is ss
  others_are closing _ _ _ (AreIndices.last e) ss = refl
  others_are closing _ _ _ (AreIndices.more e others) ss = refl

  pub names_said : (closing : Symbol) (is : List ℕ) (ws rest : List Word) → AreIndices s closing is ws rest → (ss : List Symbol) → AreSaid ss → AreSaid (names p is ss)
  names_said closing _ _ _ (AreIndices.last {name = x} {i = i} e) ss said = (named x (thing.Index i) e, said)
  names_said closing _ _ _ (AreIndices.more {name = x} {i = i} {is = is} {ws = ws} {rest = rest} e others) ss said =
      (named x (thing.Index i) e, subst AreSaid (sym (others_are closing is ws rest others ss)) (tt, names_said closing is ws rest others ss said))

  pub names_stand : (closing : Symbol) (is : List ℕ) (ws rest : List Word) → AreIndices s closing is ws rest → (line k : ℕ) (ss : List Symbol) (after left : List Word) → placed_line line ss after ≡ at k closing ∷ left → AreIndices t closing is (placed_line line (names p is ss) after) left
  names_stand closing _ _ _ (AreIndices.last {name = x} {i = i} e) line k ss after left same =
      subst (λ (vs : List Word). AreIndices t closing (i ∷ []) (at line (Name (index_name p i)) ∷ vs) left) (sym same) (AreIndices.last (carries x (thing.Index i) e))
  names_stand closing _ _ _ (AreIndices.more {name = x} {i = i} {is = is} {ws = ws} {rest = rest} e others) line k ss after left same =
      subst (λ (xs : List Symbol). AreIndices t closing (i ∷ is) (at line (Name (index_name p i)) ∷ placed_line line xs after) left) (sym (others_are closing is ws rest others ss))
      (AreIndices.more (carries x (thing.Index i) e) (names_stand closing is ws rest others line k ss after left same))

  -- blocks
  pub block_said : (b : BlockRef) (ws rest : List Word) → IsBlock s b ws rest → (ss : List Symbol) → AreSaid ss → AreSaid (block p b ss)
  block_said _ _ _ (IsBlock.block {name = x} {a = a} {is = is} {ws = ws} {rest = rest} e (AreDims.dims {ws = first} are few)) ss said =
      (named x (thing.Array a) e, (tt, names_said (symbol.Sign sign.Close) is first rest are (symbol.Sign sign.Close ∷ ss) (tt, said)))

  pub block_stands : (b : BlockRef) (ws rest : List Word) → IsBlock s b ws rest → (line : ℕ) (ss : List Symbol) (after : List Word) → IsBlock t b (placed_line line (block p b ss) after) (placed_line line ss after)
  block_stands _ _ _ (IsBlock.block {name = x} {a = a} {is = is} {ws = ws} {rest = rest} e (AreDims.dims {ws = first} are few)) line ss after =
      IsBlock.block (carries x (thing.Array a) e) (AreDims.dims (names_stand (symbol.Sign sign.Close) is first rest are line line (symbol.Sign sign.Close ∷ ss) after (placed_line line ss after) refl) few)

  -- slots
  pub slot_said : (x : Slot) (what : Symbol) → IsSlot s x what → IsSaid (slot_symbol p x)
  slot_said _ _ (IsSlot.one {name = x} {i = i} e) = named x (thing.Index i) e
  slot_said _ _ IsSlot.all = tt

  pub slot_stands : (x : Slot) (what : Symbol) → IsSlot s x what → IsSlot t x (slot_symbol p x)
  slot_stands _ _ (IsSlot.one {name = x} {i = i} e) = IsSlot.one (carries x (thing.Index i) e)
  slot_stands _ _ IsSlot.all = IsSlot.all

  abbrev pub listed : List Slot → List Symbol → List Symbol
  listed [] ss = ss
  listed (x ∷ xs) ss = slot_symbol p x ∷ other_slots p xs ss

  pub slots_open : (xs : List Slot) (ws rest : List Word) → AreSlots s xs ws rest → (ss : List Symbol) → slots p xs ss ≡ symbol.Sign sign.Open ∷ listed xs (symbol.Sign sign.Close ∷ ss)
  slots_open _ _ _ (AreSlots.last e) ss = refl
  slots_open _ _ _ (AreSlots.more e others) ss = refl

  pub other_slots_are : (xs : List Slot) (ws rest : List Word) → AreSlots s xs ws rest → (ss : List Symbol) → other_slots p xs ss ≡ symbol.Sign sign.Comma ∷ listed xs ss
  other_slots_are _ _ _ (AreSlots.last e) ss = refl
  other_slots_are _ _ _ (AreSlots.more e others) ss = refl

  pub slots_said : (xs : List Slot) (ws rest : List Word) → AreSlots s xs ws rest → (ss : List Symbol) → AreSaid ss → AreSaid (listed xs ss)
  slots_said _ _ _ (AreSlots.last {slot = x} {what = what} e) ss said = (slot_said x what e, said)
  slots_said _ _ _ (AreSlots.more {slot = x} {what = what} {slots = xs} {ws = ws} {rest = rest} e others) ss said =
      (slot_said x what e, subst AreSaid (sym (other_slots_are xs ws rest others ss)) (tt, slots_said xs ws rest others ss said))

  pub slots_stand : (xs : List Slot) (ws rest : List Word) → AreSlots s xs ws rest → (line : ℕ) (ss : List Symbol) (after : List Word) → AreSlots t xs (placed_line line (listed xs (symbol.Sign sign.Close ∷ ss)) after) (placed_line line ss after)
  slots_stand _ _ _ (AreSlots.last {slot = x} {what = what} e) line ss after = AreSlots.last (slot_stands x what e)
  slots_stand _ _ _ (AreSlots.more {slot = x} {what = what} {slots = xs} {ws = ws} {rest = rest} e others) line ss after =
      subst (λ (ys : List Symbol). AreSlots t (x ∷ xs) (at line (slot_symbol p x) ∷ placed_line line ys after) (placed_line line ss after)) (sym (other_slots_are xs ws rest others (symbol.Sign sign.Close ∷ ss)))
      (AreSlots.more (slot_stands x what e) (slots_stand xs ws rest others line ss after))

  -- operands
  pub number_said : (n : ℕ) (ws rest : List Word) → IsNumber n ws rest → AreSound ws → n < past_numbers
  number_said n ws rest is h = ltb-true n past_numbers (number_proper p s covers n ws rest is h).0

  pub operand_said : (o : Operand) (ws rest : List Word) → IsOperand s o ws rest → AreSound ws → (ss : List Symbol) → AreSaid ss → AreSaid (operand_symbols p o ss)
  operand_said _ _ _ (IsOperand.number {n = n} {ws = ws} {rest = rest} is) h ss said = (number_said n ws rest is h, said)
  operand_said _ _ _ (IsOperand.scalar {name = x} {x = n} e f) h ss said = (named x (thing.Scalar n) e, said)
  operand_said _ _ _ (IsOperand.block {b = b} {ws = ws} {rest = rest} is) h ss said = block_said b ws rest is ss said

  pub operand_stands : (o : Operand) (ws rest : List Word) → IsOperand s o ws rest → (line : ℕ) (ss : List Symbol) (after : List Word) → go_on_with_open (placed_line line ss after) ≡ false → IsOperand t o (placed_line line (operand_symbols p o ss) after) (placed_line line ss after)
  operand_stands _ _ _ (IsOperand.number is) line ss after shut = IsOperand.number IsNumber.plain
  operand_stands _ _ _ (IsOperand.scalar {name = x} {x = n} e f) line ss after shut = IsOperand.scalar (carries x (thing.Scalar n) e) shut
  operand_stands _ _ _ (IsOperand.block {b = b} {ws = ws} {rest = rest} is) line ss after shut = IsOperand.block (block_stands b ws rest is line ss after)

  pub right_said : (r : Right) (ws rest : List Word) → IsRight s r ws rest → AreSound ws → AreSaid (right_symbols p r)
  right_said _ _ _ (IsRight.one {a = a} {ws = ws} is) h = operand_said a ws _ is h [] tt
  right_said _ _ _ (IsRight.two {a = a} {b = b} {how = how} {ws = ws} {between = between} is how_is also) h =
      operand_said a ws _ is h (symbol.Sign (bin_sign how) ∷ operand_symbols p b []) (tt, operand_said b between _ also (operand_proper p s covers a ws _ is h).1.1 [] tt)

  pub right_stands : (r : Right) (ws rest : List Word) → IsRight s r ws rest → (line : ℕ) (after : List Word) → IsRight t r (placed_line line (right_symbols p r) after) after
  right_stands _ _ _ (IsRight.one {a = a} {ws = ws} is) line after = IsRight.one (operand_stands a ws _ is line [] after refl)
  right_stands _ _ _ (IsRight.two {a = a} {b = b} {how = how} {ws = ws} {between = between} is how_is also) line after =
      IsRight.two (operand_stands a ws _ is line (symbol.Sign (bin_sign how) ∷ operand_symbols p b []) after (bin_closed how)) (bin_is how) (operand_stands b between _ also line [] after refl)

  -- conditions
  pub value_said : (v : Value) (ws rest : List Word) → IsValue s v ws rest → AreSound ws → IsSaid (value_symbol p v)
  value_said _ _ _ (IsValue.number {n = n} {ws = ws} {rest = rest} is) h = number_said n ws rest is h
  value_said _ _ _ (IsValue.scalar {name = x} {x = n} e) h = named x (thing.Scalar n) e
  value_said _ _ _ (IsValue.index {name = x} {i = i} e) h = named x (thing.Index i) e

  pub value_stands : (v : Value) (ws rest : List Word) → IsValue s v ws rest → (line : ℕ) (after : List Word) → IsValue t v (at line (value_symbol p v) ∷ after) after
  value_stands _ _ _ (IsValue.number is) line after = IsValue.number IsNumber.plain
  value_stands _ _ _ (IsValue.scalar {name = x} {x = n} e) line after = IsValue.scalar (carries x (thing.Scalar n) e)
  value_stands _ _ _ (IsValue.index {name = x} {i = i} e) line after = IsValue.index (carries x (thing.Index i) e)

  pub number_rest : (n : ℕ) (ws rest : List Word) → IsNumber n ws rest → AreSound ws → AreSound rest
  number_rest _ _ _ IsNumber.plain h = h.1
  number_rest _ _ _ IsNumber.minus h = h.1.1

  pub value_rest : (v : Value) (ws rest : List Word) → IsValue s v ws rest → AreSound ws → AreSound rest
  value_rest _ _ _ (IsValue.number {n = n} {ws = ws} {rest = rest} is) h = number_rest n ws rest is h
  value_rest _ _ _ (IsValue.scalar e) h = h.1
  value_rest _ _ _ (IsValue.index e) h = h.1

  pub cond_said : (c : Cond) (ws rest : List Word) → IsCond s c ws rest → AreSound ws → AreSaid (cond_symbols p c)
  cond_said _ _ _ (IsCond.cond {a = a} {b = b} {ws = ws} {between = between} is how_is also) h =
      (value_said a ws _ is h, (tt, (value_said b between _ also (value_rest a ws _ is h).1, tt)))

  pub cond_stands : (c : Cond) (ws rest : List Word) → IsCond s c ws rest → (line : ℕ) (after : List Word) → IsCond t c (placed_line line (cond_symbols p c) after) after
  cond_stands _ _ _ (IsCond.cond {a = a} {b = b} {how = how} {ws = ws} {between = between} is how_is also) line after =
      IsCond.cond (value_stands a ws _ is line (at line (symbol.Sign (test_sign how)) ∷ at line (value_symbol p b) ∷ at line LineEnd ∷ after)) (test_is how) (value_stands b between _ also line (at line LineEnd ∷ after))

  pub wheres_said : (cs : List Cond) (ws rest : List Word) → AreWheres s cs ws rest → AreSound ws → AreLines (map (where_line p) cs)
  wheres_said _ _ _ (AreWheres.none e) h = tt
  wheres_said _ _ _ (AreWheres.more {c = c} {cs = cs} {ws = ws} {between = between} {rest = rest} is others) h =
      ((tt, cond_said c ws between is h.1), wheres_said cs between rest others (cond_proper p s covers c ws between is h.1).1)

  pub wheres_stand : (cs : List Cond) (ws rest : List Word) → AreWheres s cs ws rest → (line k : ℕ) (what : Symbol) (after : List Word) → is_where what ≡ false → AreWheres t cs (placed line (map (where_line p) cs) (at k what ∷ after)) (at k what ∷ after)
  wheres_stand _ _ _ (AreWheres.none e) line k what after other = AreWheres.none other
  wheres_stand _ _ _ (AreWheres.more {c = c} {cs = cs} {ws = ws} {between = between} {rest = rest} is others) line k what after other =
      AreWheres.more (cond_stands c ws between is line (placed (line + 1) (map (where_line p) cs) (at k what ∷ after))) (wheres_stand cs between rest others (line + 1) k what after other)

  -- targets and accesses
  pub target_said : (g : Target) (ws rest : List Word) → IsTarget s g ws rest → (ss : List Symbol) → AreSaid ss → IsLine (target_symbols p g ss)
  target_said _ _ _ (IsTarget.scalar {name = x} {x = n} e f) ss said = (named x (thing.Scalar n) e, said)
  target_said _ _ _ (IsTarget.block {b = b} {ws = ws} {rest = rest} is) ss said = block_said b ws rest is ss said

  pub target_stands : (g : Target) (ws rest : List Word) → IsTarget s g ws rest → (line : ℕ) (ss : List Symbol) (after : List Word) → go_on_with_open (placed_line line ss after) ≡ false → IsTarget t g (placed_line line (target_symbols p g ss) after) (placed_line line ss after)
  target_stands _ _ _ (IsTarget.scalar {name = x} {x = n} e f) line ss after shut = IsTarget.scalar (carries x (thing.Scalar n) e) shut
  target_stands _ _ _ (IsTarget.block {b = b} {ws = ws} {rest = rest} is) line ss after shut = IsTarget.block (block_stands b ws rest is line ss after)

  pub target_begins : (g : Target) (ws rest : List Word) → IsTarget s g ws rest → (line : ℕ) (ss : List Symbol) (after : List Word) → Begin line (placed_line line (target_symbols p g ss) after)
  target_begins _ _ _ (IsTarget.scalar {name = x} {x = n} e f) line ss after = record { what = Name (scalar_name p n); others = placed_line line ss after; are = refl; start = (refl, refl, refl) }
  target_begins _ _ _ (IsTarget.block {b = b} is) line ss after = record { what = Name (array_name p b.array); others = placed_line line (dims p b.at ss) after; are = refl; start = (refl, refl, refl) }

  pub access_said : (how : Access) (ws rest : List Word) → IsAccess how ws rest → (ss : List Symbol) → AreSaid ss → AreSaid (access_symbols how ss)
  access_said _ _ _ IsAccess.store ss said = (tt, said)
  access_said _ _ _ IsAccess.add ss said = (tt, said)
  access_said _ _ _ IsAccess.greatest ss said = (refl, (tt, said))

  pub access_stands : (how : Access) (ws rest : List Word) → IsAccess how ws rest → (line : ℕ) (ss : List Symbol) (after : List Word) → IsAccess how (placed_line line (access_symbols how ss) after) (placed_line line ss after)
  access_stands _ _ _ IsAccess.store line ss after = IsAccess.store
  access_stands _ _ _ IsAccess.add line ss after = IsAccess.add
  access_stands _ _ _ IsAccess.greatest line ss after = IsAccess.greatest
