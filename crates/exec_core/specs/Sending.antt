-- The elements that what comes next sends.
use Rattle.std.specs.Prelude.{ℕ, List, [], Option, Some, None, Result, Ok, Err}
use Rattle.sial_syntax.specs.declared.operand.BlockRef.{BlockRef}
use Rattle.sial_syntax.specs.Tree.{Plain, Put, Prepare}
use Rattle.sial_meaning.specs.declared.trap.Trap.{Trap}
use Rattle.sial_meaning.specs.LocalStep.{Answer, words_of}
use Rattle.sial_meaning.specs.Next as next
use Rattle.sial_meaning.specs.Next.{Task}
use Rattle.sial_meaning.specs.Own.{Own}
use Rattle.sial_meaning.specs.Setting.{Setting}
use Rattle.sial_meaning.specs.Statement.{trap_at}

-- elements, or a trap at a line
abbrev pub at_line : (line : ℕ) → Answer (List ℕ) → Result (List ℕ) Trap
at_line line (Ok words) = Ok words
at_line line (Err kind) = Err (trap_at line kind)

-- the block that a statement sends
abbrev pub sent : Plain → Option BlockRef
sent (Put block how from) = Some from
sent (Prepare block how from) = Some from
sent _ = None

-- that of what comes next
abbrev pub sent_next : Task → Option BlockRef
sent_next (next.Statement line form more) = sent form
sent_next _ = None

-- the elements of the block that is sent, none where no block is
abbrev pub sent_words : Setting → (line : ℕ) → Option BlockRef → Own → Result (List ℕ) Trap
sent_words g line None own = Ok []
sent_words g line (Some from) own = at_line line (words_of g own from [])

-- those that what comes next sends, or its trap
abbrev pub sending : Setting → Task → Own → Result (List ℕ) Trap
sending g (next.Statement line form more) own = sent_words g line (sent form) own
sending g _ own = Ok []
