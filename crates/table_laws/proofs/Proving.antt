-- Facts from tests that hold, and parts of statements that fit.
use Rattle.std.proofs.Common.{◌≡◌, ◌≢◌, ℕ, ◌^◌, ◌<◌, ◌≤◌, Bool, true, false, ◌&&◌, List, [], ◌∷◌, ◌++◌, length, refl, subst, arith, append_assoc}
use Rattle.std.specs.Prelude.{nat_le, nat_lt}
use Rattle.std.specs.List.{list_all, flat_map, AllByRecursion}
use Rattle.std.proofs.lemmas.Bool.{leb-true}
use Rattle.std.proofs.lemmas.Bool.Decides.{Decides-ltb}
use Rattle.sial_syntax.specs.declared.access.Access.{Access}
use Rattle.sial_syntax.specs.declared.access.Access.TheVariants as access
use Rattle.sial_syntax.specs.declared.condition.Cond.{Cond}
use Rattle.sial_syntax.specs.declared.condition.Value.{Value}
use Rattle.sial_syntax.specs.declared.condition.Value.TheVariants as value
use Rattle.sial_syntax.specs.declared.operand.BlockRef.{BlockRef}
use Rattle.sial_syntax.specs.declared.operand.Operand.{Operand}
use Rattle.sial_syntax.specs.declared.operand.Operand.TheVariants as operand
use Rattle.sial_syntax.specs.declared.operand.Right.{Right}
use Rattle.sial_syntax.specs.declared.operand.Right.TheVariants.{One, Two}
use Rattle.sial_syntax.specs.declared.operand.Slot.{Slot}
use Rattle.sial_syntax.specs.declared.operand.Slot.TheVariants.{At, All}
use Rattle.sial_syntax.specs.declared.operand.Target.{Target}
use Rattle.sial_syntax.specs.declared.operand.Target.TheVariants as target
use Rattle.sial_syntax.specs.Parts.{operand_number, operands, value_number, condition_numbers}
use Rattle.sial_syntax.specs.Proper.{has_index, has_array, has_scalar, has_procedure, has_length, proper_block, proper_operand, proper_right, proper_target, proper_value, proper_cond, proper_slot, is_write, is_number}
use Rattle.sial_syntax.specs.Tree.{Tree}
use Rattle.table_file.specs.Fits.{IsWithin, AreIndices, BlockFits, SlotFits, AreSlots, TargetFits, OperandFits, RightFits, ValueFits, CondFits}

-- ---- tests

pub both_true : (a b : Bool) → (a && b) ≡ true → (a ≡ true) × (b ≡ true)
both_true true b e = (refl, e)
both_true false b e = absurd cc

pub all_of : {X : Type 0} (q : X → Bool) (P : X → Type 0) → ((x : X) → q x ≡ true → P x) → (xs : List X) → list_all q xs ≡ true → AllByRecursion P xs
all_of q P step [] e = tt
all_of q P step (x ∷ xs) e = let b = both_true (q x) (list_all q xs) e in (step x b.0, all_of q P step xs b.1)

pub below : (a b : ℕ) → nat_lt a b ≡ true → a < b
below a b e = (Decides-ltb a b).0 e

-- ---- things of a program with at most 256 of each kind

pub record IsSmall (p : Tree) : Type 0 where
  pub indices : length p.indices ≤ 256
  pub arrays : length p.arrays ≤ 256
  pub scalars : length p.scalars ≤ 256
  pub procedures : length p.procedures ≤ 256

pub index_fits : (p : Tree) → IsSmall p → (i : ℕ) → has_index p i ≡ true → IsWithin 16 i
index_fits p small i e = let l = below i (length p.indices) e in omega (arith, l, small.indices)

pub array_fits : (p : Tree) → IsSmall p → (i : ℕ) → has_array p i ≡ true → IsWithin 16 i
array_fits p small i e = let l = below i (length p.arrays) e in omega (arith, l, small.arrays)

pub scalar_fits : (p : Tree) → IsSmall p → (i : ℕ) → has_scalar p i ≡ true → IsWithin 16 i
scalar_fits p small i e = let l = below i (length p.scalars) e in omega (arith, l, small.scalars)

pub procedure_fits : (p : Tree) → IsSmall p → (i : ℕ) → has_procedure p i ≡ true → IsWithin 16 i
procedure_fits p small i e = let l = below i (length p.procedures) e in omega (arith, l, small.procedures)

pub indices_fit : (p : Tree) → IsSmall p → (most : ℕ) (xs : List ℕ) → (has_length most xs && list_all (has_index p) xs) ≡ true → AreIndices most xs
indices_fit p small most xs e =
    let a = both_true (has_length most xs) _ e in
    let b = both_true (nat_le 1 (length xs)) _ a.0 in
    record { some = leb-true _ _ b.0; few = leb-true _ _ b.1; within = all_of (has_index p) (IsWithin 16) (index_fits p small) xs a.1 }

pub block_fits : (p : Tree) → IsSmall p → (b : BlockRef) → proper_block p b ≡ true → BlockFits b
block_fits p small b e = let a = both_true (has_array p b.array) _ e in record { array = array_fits p small b.array a.0; at = indices_fit p small 6 b.at a.1 }

slot_fits : (p : Tree) → IsSmall p → (s : Slot) → proper_slot p s ≡ true → SlotFits s
slot_fits p small (At i) e =
    let l = below i (length p.indices) e in
    (index_fits p small i e, λ same. absurd (omega (arith, l, small.indices, same)))
slot_fits p small All e = tt

pub slots_fit : (p : Tree) → IsSmall p → (xs : List Slot) → (has_length 6 xs && list_all (proper_slot p) xs) ≡ true → AreSlots xs
slots_fit p small xs e =
    let a = both_true (has_length 6 xs) _ e in
    let b = both_true (nat_le 1 (length xs)) _ a.0 in
    record { some = leb-true _ _ b.0; few = leb-true _ _ b.1; within = all_of (proper_slot p) SlotFits (slot_fits p small) xs a.1 }

pub target_fits : (p : Tree) → IsSmall p → (t : Target) → proper_target p t ≡ true → TargetFits t
target_fits p small (target.Scalar s) e = scalar_fits p small s e
target_fits p small (target.Block b) e = block_fits p small b e

-- ---- operands and values, with the numbers that they write out

operand_fits : (p : Tree) → IsSmall p → (a : Operand) (rest : List ℕ) → proper_operand p a ≡ true → list_all is_number (operand_number a ++ rest) ≡ true → OperandFits a × (list_all is_number rest ≡ true)
operand_fits p small (operand.Number n) rest e numbers = let b = both_true (is_number n) _ numbers in (below n (2 ^ 64) b.0, b.1)
operand_fits p small (operand.Scalar s) rest e numbers = (scalar_fits p small s e, numbers)
operand_fits p small (operand.Block b) rest e numbers = (block_fits p small b e, numbers)

pub right_fits : (p : Tree) → IsSmall p → (r : Right) → proper_right p r ≡ true → list_all is_number (flat_map operand_number (operands r)) ≡ true → RightFits r
right_fits p small (One a) e numbers = (operand_fits p small a [] e numbers).0
right_fits p small (Two a bin b) e numbers =
    let proper = both_true (proper_operand p a) _ e in
    let first = operand_fits p small a (operand_number b ++ []) proper.0 numbers in
    (first.0, (operand_fits p small b [] proper.1 first.1).0)

value_fits : (p : Tree) → IsSmall p → (v : Value) (rest : List ℕ) → proper_value p v ≡ true → list_all is_number (value_number v ++ rest) ≡ true → ValueFits v × (list_all is_number rest ≡ true)
value_fits p small (value.Number n) rest e numbers = let b = both_true (is_number n) _ numbers in (below n (2 ^ 64) b.0, b.1)
value_fits p small (value.Scalar s) rest e numbers = (scalar_fits p small s e, numbers)
value_fits p small (value.Index i) rest e numbers = (index_fits p small i e, numbers)

-- a condition, with the numbers behind its own
pub cond_fits : (p : Tree) → IsSmall p → (c : Cond) (rest : List ℕ) → proper_cond p c ≡ true → list_all is_number ((value_number c.left ++ value_number c.right) ++ rest) ≡ true → CondFits c × (list_all is_number rest ≡ true)
cond_fits p small c rest e numbers =
    let proper = both_true (proper_value p c.left) _ e in
    let first = value_fits p small c.left (value_number c.right ++ rest) proper.0 (subst (λ (xs : List ℕ). list_all is_number xs ≡ true) (append_assoc (value_number c.left) (value_number c.right) rest) numbers) in
    let second = value_fits p small c.right rest proper.1 first.1 in
    ((first.0, second.0), second.1)

pub conds_fit : (p : Tree) → IsSmall p → (cs : List Cond) → list_all (proper_cond p) cs ≡ true → list_all is_number (flat_map condition_numbers cs) ≡ true → AllByRecursion CondFits cs
conds_fit p small [] e numbers = tt
conds_fit p small (c ∷ cs) e numbers =
    let proper = both_true (proper_cond p c) _ e in
    let first = cond_fits p small c (flat_map condition_numbers cs) proper.0 numbers in
    (first.0, conds_fit p small cs proper.1 first.1)

-- an access that writes is none that reads
pub writes : (how : Access) → is_write how ≡ true → how ≢ access.Read
writes access.Read e = absurd cc
writes access.Add e = λ h. absurd cc
writes access.Max e = λ h. absurd cc
writes access.Store e = λ h. absurd cc
