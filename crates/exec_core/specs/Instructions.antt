-- What an instruction names, as its statement does.
use Rattle.std.specs.Prelude.{◌≡◌, ℕ, List, [], ◌∷◌, map, true, if◌then◌else◌, Option, Some, None, Result}
use Rattle.std.specs.List.{list_any}
use Rattle.sial_syntax.specs.declared.operand.BlockRef.{BlockRef}
use Rattle.sial_meaning.specs.declared.trap.Trap.{Trap}
use Rattle.sial_meaning.specs.declared.trap.TrapKind.{TrapKind}
use Rattle.sial_meaning.specs.declared.trap.TrapKind.TheVariants.{NotCreated, AlreadyCreated}
use Rattle.sial_meaning.specs.LocalStep.{is_shared_kind, shared_in}
use Rattle.sial_meaning.specs.Own.{Own, is_created}
use Rattle.sial_meaning.specs.Setting.{Setting, array_kind}
use Rattle.sial_meaning.specs.Statement.{Named, named, is_missing}
use Rattle.sip_tables.specs.declared.instruction.Operation.{Operation}
use Rattle.sip_tables.specs.declared.instruction.Operation.TheVariants as op
use Rattle.exec_blocks.specs.Standing.{IsNamed}
use Rattle.exec_core.specs.Sending.{sent_words}
use Rattle.exec_core.specs.Shared.{blocks_unless}

-- the shared blocks that it reads
abbrev pub op_reads : Setting → Operation → List BlockRef
op_reads g (op.Assign target combining right) = shared_in g right
op_reads g (op.Get block) = block ∷ []
op_reads g (op.Request block) = block ∷ []
op_reads g _ = []

-- the arrays that it wants created
abbrev pub op_wants : Setting → Operation → List ℕ
op_wants g (op.Put block how from) = block.array ∷ []
op_wants g (op.Delete array) = array ∷ []
op_wants g operation = map (λ (b : BlockRef). b.array) (op_reads g operation)

-- the trap of its created flags
abbrev pub op_trap : Setting → Operation → Own → Option TrapKind
op_trap g (op.Create array) own = if is_created own array then Some AlreadyCreated else None
op_trap g operation own = if list_any (is_missing g own) (op_wants g operation) then Some NotCreated else None

-- the shared blocks that it needs, or that trap
abbrev pub op_needed : Setting → (line : ℕ) → Operation → Own → Result (List Named) Trap
op_needed g line operation own = blocks_unless line (op_trap g operation own) (map (named g own) (op_reads g operation))

-- the shared block that it fetches or changes
abbrev pub op_transferred : Operation → Option BlockRef
op_transferred (op.Get block) = Some block
op_transferred (op.Request block) = Some block
op_transferred (op.Put block how from) = Some block
op_transferred (op.Prepare block how from) = Some block
op_transferred _ = None

-- a block of a shared array, one of the array's
pub record IsShared (g : Setting) (values : List ℕ) (block : BlockRef) : Type 0 where
  pub named : IsNamed g values block
  pub shared : is_shared_kind (array_kind g block.array) ≡ true

-- each of these is one
abbrev pub AreShared : Setting → (values : List ℕ) → List BlockRef → Type 0
AreShared g values [] = Unit {0}
AreShared g values (b ∷ bs) = IsShared g values b × AreShared g values bs

-- the block that it sends
abbrev pub op_sent : Operation → Option BlockRef
op_sent (op.Put block how from) = Some from
op_sent (op.Prepare block how from) = Some from
op_sent _ = None

-- the elements that it sends, or its trap
abbrev pub op_sending : Setting → (line : ℕ) → Operation → Own → Result (List ℕ) Trap
op_sending g line operation own = sent_words g line (op_sent operation) own
