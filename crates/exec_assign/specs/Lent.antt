-- Shared blocks that a right side reads from slots under leases.
use Rattle.std.specs.Prelude.{◌≡◌, ℕ, ◌≤◌, List, [], ◌++◌, map, take, length, true, is_some, Option, Some, None, IfSome}
use Rattle.std.specs.Borrow.{Bor}
use Rattle.std.specs.Option.{option_map}
use Rattle.block_pool.specs.declared.state.State.TheVariants.{Cached}
use Rattle.block_pool.specs.Changes.{Stands}
use Rattle.block_pool.specs.Memory.{Memory, words_at}
use Rattle.sial_syntax.specs.declared.operand.BlockRef.{BlockRef}
use Rattle.sial_syntax.specs.declared.operand.Operand.{Operand}
use Rattle.sial_syntax.specs.declared.operand.Operand.TheVariants.{Number, Scalar, Block}
use Rattle.sial_syntax.specs.declared.operand.Right.{Right}
use Rattle.sial_syntax.specs.declared.operand.Right.TheVariants.{One, Two}
use Rattle.sial_meaning.specs.LocalStep.{is_shared_kind, shared_operand}
use Rattle.sial_meaning.specs.Setting.{Setting, array_kind}
use Rattle.exec_sides.specs.Short.{volume_now}
use Rattle.exec_assign.specs.declared.leases.Leases.{Leases}

-- the slot of a lease
abbrev pub slot_of : Option (Bor ℕ) → Option ℕ
slot_of lease = option_map (λ (l : Bor ℕ). l.now) lease

-- the elements of a block with so many: those at the front of the slot of its lease
abbrev pub lent_words : Memory → (len : ℕ) → (lease : Option ℕ) → List ℕ
lent_words p len None = []
lent_words p len (Some slot) = take len (words_at p.words slot)

-- the value of an operand, where it is a shared block
abbrev pub operand_values : Setting → Memory → (values : List ℕ) → (lease : Option ℕ) → Operand → List (List ℕ)
operand_values g p values lease operand = map (λ (b : BlockRef). lent_words p (volume_now g.spaces values b.at) lease) (shared_operand g operand)

-- the values of the shared blocks that a right side names, in order
abbrev pub side_values : Setting → Memory → (values : List ℕ) → Leases → Right → List (List ℕ)
side_values g p values leases (One a) = operand_values g p values (slot_of leases.first) a
side_values g p values leases (Two a bin b) = operand_values g p values (slot_of leases.first) a ++ operand_values g p values (slot_of leases.second) b

-- a slot with a block that was asked for, which has at least so many elements
pub record IsLent (p : Memory) (len slot : ℕ) : Type 0 where
  pub stands : Stands p Cached slot
  pub wide : len ≤ length (words_at p.words slot)

-- if there is a lease for an operand, its slot has an element for each position of the block
abbrev pub OperandLent : Setting → Memory → (values : List ℕ) → (lease : Option ℕ) → Operand → Type 0
OperandLent g p values lease (Number n) = Unit {0}
OperandLent g p values lease (Scalar s) = Unit {0}
OperandLent g p values lease (Block b) = IfSome lease (IsLent p (volume_now g.spaces values b.at))

-- so it is with each operand of a right side
abbrev pub AreLent : Setting → Memory → (values : List ℕ) → Leases → Right → Type 0
AreLent g p values leases (One a) = OperandLent g p values (slot_of leases.first) a
AreLent g p values leases (Two a bin b) = OperandLent g p values (slot_of leases.first) a × OperandLent g p values (slot_of leases.second) b

-- there is a lease for an operand that is a shared block
abbrev pub OperandLeased : Setting → (lease : Option ℕ) → Operand → Type 0
OperandLeased g lease (Number n) = Unit {0}
OperandLeased g lease (Scalar s) = Unit {0}
OperandLeased g lease (Block b) = is_shared_kind (array_kind g b.array) ≡ true → is_some lease ≡ true

-- and for each such operand of a right side
abbrev pub AreLeased : Setting → Leases → Right → Type 0
AreLeased g leases (One a) = OperandLeased g (slot_of leases.first) a
AreLeased g leases (Two a bin b) = OperandLeased g (slot_of leases.first) a × OperandLeased g (slot_of leases.second) b
