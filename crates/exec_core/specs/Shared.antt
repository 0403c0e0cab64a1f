-- The shared blocks that a worker names, and those that it needs before it does what comes next.
use Rattle.std.specs.Prelude.{◌≡◌, ℕ, List, [], ◌∷◌, ◌++◌, map, Option, Some, None, Result, Ok, Err}
use Rattle.sial_syntax.specs.declared.operand.BlockRef.{BlockRef}
use Rattle.sial_syntax.specs.Tree.{Plain, Get, Request, Put, Prepare}
use Rattle.sial_meaning.specs.declared.trap.Trap.{Trap}
use Rattle.sial_meaning.specs.declared.trap.TrapKind.{TrapKind}
use Rattle.sial_meaning.specs.Next as next
use Rattle.sial_meaning.specs.Next.{Task}
use Rattle.sial_meaning.specs.Own.{Own}
use Rattle.sial_meaning.specs.Setting.{Setting}
use Rattle.sial_meaning.specs.Statement.{Named, named, created_trap, reads_of, trap_at}
use Rattle.exec_core.specs.declared.shared.Needs.{Needs}
use Rattle.exec_core.specs.declared.shared.SharedBlock.{SharedBlock}

-- a shared block, as the definitions have it
abbrev pub named_of : SharedBlock → Named
named_of b = record { class = b.class; block = b.block }

-- a shared block that may be there
abbrev pub listed : Option SharedBlock → List Named
listed None = []
listed (Some b) = named_of b ∷ []

-- all of a statement's, in order
abbrev pub blocks_of : Needs → List Named
blocks_of needs = listed needs.first ++ listed needs.second

-- these blocks, unless created flags trap
abbrev pub blocks_unless : (line : ℕ) → Option TrapKind → List Named → Result (List Named) Trap
blocks_unless line None blocks = Ok blocks
blocks_unless line (Some kind) blocks = Err (trap_at line kind)

-- the shared blocks that what comes next needs: those that a statement reads, or the trap of its created flags
abbrev pub needed : Setting → Task → Own → Result (List Named) Trap
needed g (next.Statement line form more) own = blocks_unless line (created_trap g form own) (map (named g own) (reads_of g form))
needed g _ own = Ok []

-- these are the blocks, or this is the trap
abbrev pub AreNeeds : Result Needs Trap → Result (List Named) Trap → Type 0
AreNeeds (Ok needs) (Ok blocks) = blocks_of needs ≡ blocks
AreNeeds (Ok needs) (Err trap) = ⊥
AreNeeds (Err trap) (Ok blocks) = ⊥
AreNeeds (Err trap) (Err other) = trap ≡ other

-- the shared block that a statement fetches or changes
abbrev pub transferred : Plain → Option BlockRef
transferred (Get block) = Some block
transferred (Request block) = Some block
transferred (Put block how from) = Some block
transferred (Prepare block how from) = Some block
transferred _ = None

-- that of what comes next
abbrev pub transferred_next : Task → Option BlockRef
transferred_next (next.Statement line form more) = transferred form
transferred_next _ = None
