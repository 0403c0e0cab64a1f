-- The parts of sound words are proper, and so are the words behind them: lists, blocks, operands, conditions.
use Rattle.std.proofs.Common.{◌≡◌, ℕ, ◌≤◌, List, Bool, true, false, ◌&&◌, nat_le, length, Some, refl, arith}
use Rattle.std.specs.Prelude.{IsTrue}
use Rattle.std.specs.List.{list_all}
use Rattle.std.proofs.lemmas.Bool.{lt-ltb, le-leb}
use Rattle.sial_syntax.specs.Limits.{most_rank, past_numbers}
use Rattle.sial_syntax.specs.Proper.{has_index, has_array, has_scalar, has_procedure, has_length, proper_block, proper_operand, proper_right, proper_target, proper_value, proper_cond, proper_slot, is_write, is_number}
use Rattle.sial_syntax.specs.Tree.{Tree}
use Rattle.sial_syntax.specs.declared.access.Access.{Access}
use Rattle.sial_syntax.specs.declared.condition.Cond.{Cond}
use Rattle.sial_syntax.specs.declared.condition.Value.{Value}
use Rattle.sial_syntax.specs.declared.operand.BlockRef.{BlockRef}
use Rattle.sial_syntax.specs.declared.operand.Operand.{Operand}
use Rattle.sial_syntax.specs.declared.operand.Right.{Right}
use Rattle.sial_syntax.specs.declared.operand.Slot.{Slot}
use Rattle.sial_syntax.specs.declared.operand.Target.{Target}
use Rattle.sial_parser.specs.Grammar.{negative, AreIndices, AreDims, IsBlock, IsSlot, AreSlots, IsNumber, IsOperand, IsRight, IsValue, IsCond, IsTarget, IsAccess, IsNamedEnd, IsListedEnd, AreWheres}
use Rattle.sial_parser.specs.Scope.{Scope, thing_of}
use Rattle.sial_parser.specs.Sound.{AreSound}
use Rattle.sial_parser.specs.declared.thing.Thing.{Thing}
use Rattle.sial_parser.specs.declared.thing.Thing.TheVariants as thing
use Rattle.sial_parser.specs.declared.word.Symbol.{Symbol}
use Rattle.sial_parser.specs.declared.word.Word.{Word}

pub both : (a b : Bool) → IsTrue a → IsTrue b → IsTrue (a && b)
both true b h g = g
both false b h g = absurd cc

-- a tree has what a name is declared as
abbrev pub Has : Tree → Thing → Type 0
Has p (thing.Index i) = IsTrue (has_index p i)
Has p (thing.Array a) = IsTrue (has_array p a)
Has p (thing.Scalar x) = IsTrue (has_scalar p x)
Has p (thing.Proc q) = IsTrue (has_procedure p q)

-- a tree has what a scope declares
abbrev pub Covers : Tree → Scope → Type 0
Covers p s = (x : List ℕ) (t : Thing) → thing_of s x ≡ Some t → Has p t

pub fits_length : {X : Type 0} (most : ℕ) (xs : List X) → 1 ≤ length xs → length xs ≤ most → IsTrue (has_length most xs)
fits_length most xs some few = both (nat_le 1 (length xs)) (nat_le (length xs) most) (le-leb 1 (length xs) some) (le-leb (length xs) most few)

module _ (p : Tree) (s : Scope) (covers : Covers p s) where
  -- indices that are there, at least one
  pub record Indexed (is : List ℕ) (rest : List Word) : Type 0 where
    pub all : IsTrue (list_all (has_index p) is)
    pub some : 1 ≤ length is
    pub sound : AreSound rest

  pub indices_proper : (closing : Symbol) (is : List ℕ) (ws rest : List Word) → AreIndices s closing is ws rest → AreSound ws → Indexed is rest
  indices_proper closing _ _ _ (AreIndices.last {name = x} {i = i} e) h = record { all = both (has_index p i) true (covers x (thing.Index i) e) refl; some = omega arith; sound = h.1.1 }
  indices_proper closing _ _ _ (AreIndices.more {name = x} {i = i} {is = is} {ws = ws} {rest = rest} e others) h =
      let o = indices_proper closing is ws rest others h.1.1 in
      record { all = both (has_index p i) (list_all (has_index p) is) (covers x (thing.Index i) e) o.all; some = omega arith; sound = o.sound }

  pub block_proper : (b : BlockRef) (ws rest : List Word) → IsBlock s b ws rest → AreSound ws → IsTrue (proper_block p b) × AreSound rest
  block_proper _ _ _ (IsBlock.block {name = x} {a = a} {is = is} {ws = ws} {rest = rest} e (AreDims.dims {ws = first} are few)) h =
      let o = indices_proper _ is first rest are h.1.1 in
      (both (has_array p a) (has_length most_rank is && list_all (has_index p) is) (covers x (thing.Array a) e) (both (has_length most_rank is) (list_all (has_index p) is) (fits_length most_rank is o.some few) o.all), o.sound)

  slot_proper : (x : Slot) (what : Symbol) → IsSlot s x what → IsTrue (proper_slot p x)
  slot_proper _ _ (IsSlot.one {name = x} {i = i} e) = covers x (thing.Index i) e
  slot_proper _ _ IsSlot.all = refl

  pub record Slotted (xs : List Slot) (rest : List Word) : Type 0 where
    pub all : IsTrue (list_all (proper_slot p) xs)
    pub some : 1 ≤ length xs
    pub sound : AreSound rest

  pub slots_proper : (xs : List Slot) (ws rest : List Word) → AreSlots s xs ws rest → AreSound ws → Slotted xs rest
  slots_proper _ _ _ (AreSlots.last {slot = x} {what = what} e) h = record { all = both (proper_slot p x) true (slot_proper x what e) refl; some = omega arith; sound = h.1.1 }
  slots_proper _ _ _ (AreSlots.more {slot = x} {what = what} {slots = xs} {ws = ws} {rest = rest} e others) h =
      let o = slots_proper xs ws rest others h.1.1 in
      record { all = both (proper_slot p x) (list_all (proper_slot p) xs) (slot_proper x what e) o.all; some = omega arith; sound = o.sound }

  pub number_proper : (n : ℕ) (ws rest : List Word) → IsNumber n ws rest → AreSound ws → IsTrue (is_number n) × AreSound rest
  number_proper _ _ _ (IsNumber.plain {n = n}) h = (lt-ltb n past_numbers h.0.1, h.1)
  number_proper _ _ _ (IsNumber.minus {n = n}) h = (lt-ltb (negative n) past_numbers (omega arith), h.1.1)

  pub operand_proper : (o : Operand) (ws rest : List Word) → IsOperand s o ws rest → AreSound ws → IsTrue (proper_operand p o) × AreSound rest
  operand_proper _ _ _ (IsOperand.number {n = n} {ws = ws} {rest = rest} e) h = (refl, (number_proper n ws rest e h).1)
  operand_proper _ _ _ (IsOperand.scalar {name = x} {x = n} e f) h = (covers x (thing.Scalar n) e, h.1)
  operand_proper _ _ _ (IsOperand.block {b = b} {ws = ws} {rest = rest} e) h = block_proper b ws rest e h

  pub right_proper : (r : Right) (ws rest : List Word) → IsRight s r ws rest → AreSound ws → IsTrue (proper_right p r) × AreSound rest
  right_proper _ _ _ (IsRight.one {a = a} {ws = ws} e) h = let o = operand_proper a ws _ e h in (o.0, o.1.1)
  right_proper _ _ _ (IsRight.two {a = a} {b = b} {ws = ws} {between = between} e is f) h =
      let o = operand_proper a ws _ e h in
      let q = operand_proper b between _ f o.1.1 in
      (both (proper_operand p a) (proper_operand p b) o.0 q.0, q.1.1)

  value_proper : (v : Value) (ws rest : List Word) → IsValue s v ws rest → AreSound ws → IsTrue (proper_value p v) × AreSound rest
  value_proper _ _ _ (IsValue.number {n = n} {ws = ws} {rest = rest} e) h = (refl, (number_proper n ws rest e h).1)
  value_proper _ _ _ (IsValue.scalar {name = x} {x = n} e) h = (covers x (thing.Scalar n) e, h.1)
  value_proper _ _ _ (IsValue.index {name = x} {i = i} e) h = (covers x (thing.Index i) e, h.1)

  pub cond_proper : (c : Cond) (ws rest : List Word) → IsCond s c ws rest → AreSound ws → IsTrue (proper_cond p c) × AreSound rest
  cond_proper _ _ _ (IsCond.cond {a = a} {b = b} {ws = ws} {between = between} e is f) h =
      let o = value_proper a ws _ e h in
      let q = value_proper b between _ f o.1.1 in
      (both (proper_value p a) (proper_value p b) o.0 q.0, q.1.1)

  pub target_proper : (t : Target) (ws rest : List Word) → IsTarget s t ws rest → AreSound ws → IsTrue (proper_target p t) × AreSound rest
  target_proper _ _ _ (IsTarget.scalar {name = x} {x = n} e f) h = (covers x (thing.Scalar n) e, h.1)
  target_proper _ _ _ (IsTarget.block {b = b} {ws = ws} {rest = rest} e) h = block_proper b ws rest e h

  pub access_proper : (how : Access) (ws rest : List Word) → IsAccess how ws rest → AreSound ws → IsTrue (is_write how) × AreSound rest
  access_proper _ _ _ IsAccess.store h = (refl, h.1)
  access_proper _ _ _ IsAccess.add h = (refl, h.1)
  access_proper _ _ _ IsAccess.greatest h = (refl, h.1.1)

  pub named_end_sound : (x : List ℕ) (ws rest : List Word) → IsNamedEnd x ws rest → AreSound ws → AreSound rest
  named_end_sound _ _ _ IsNamedEnd.bare h = h.1
  named_end_sound _ _ _ IsNamedEnd.named h = h.1.1

  pub listed_end_sound : (is : List ℕ) (ws rest : List Word) → IsListedEnd s is ws rest → AreSound ws → AreSound rest
  listed_end_sound _ _ _ IsListedEnd.bare h = h.1
  listed_end_sound _ _ _ (IsListedEnd.listed {ws = ws} {rest = rest} are) h = (indices_proper _ _ ws rest are h).sound

  pub wheres_proper : (cs : List Cond) (ws rest : List Word) → AreWheres s cs ws rest → AreSound ws → IsTrue (list_all (proper_cond p) cs) × AreSound rest
  wheres_proper _ _ _ (AreWheres.none e) h = (refl, h)
  wheres_proper _ _ _ (AreWheres.more {c = c} {cs = cs} {ws = ws} {between = between} {rest = rest} e others) h =
      let o = cond_proper c ws between e h.1 in
      let q = wheres_proper cs between rest others o.1 in
      (both (proper_cond p c) (list_all (proper_cond p) cs) o.0 q.0, q.1)
