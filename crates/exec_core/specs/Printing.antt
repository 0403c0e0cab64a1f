-- What a statement that a worker does alone leads to, and the lines that it prints.
use Rattle.std.specs.Prelude.{◌≡◌, ℕ, List, [], ◌∷◌, slice_index_or, Result, Ok, Err}
use Rattle.block_pool.specs.Memory.{Memory}
use Rattle.sial_syntax.specs.Tree.{Plain, Print, PrintScalar}
use Rattle.sial_meaning.specs.declared.trap.Trap.{Trap}
use Rattle.sial_meaning.specs.LocalStep.{Answer, Done, local_step, scalar_line}
use Rattle.sial_meaning.specs.Next as next
use Rattle.sial_meaning.specs.Next.{Task}
use Rattle.sial_meaning.specs.Own.{Own}
use Rattle.sial_meaning.specs.Rest.{Rest}
use Rattle.sial_meaning.specs.Setting.{Setting}
use Rattle.sial_meaning.specs.Statement.{trap_at}
use Rattle.sip_tables.specs.Flatten.{flatten}
use Rattle.exec_core.specs.declared.printed.Printed.{Printed}
use Rattle.exec_core.specs.declared.printed.Printed.TheVariants.{Nothing, Text, Scalar}
use Rattle.exec_core.specs.Parts.{Parts}
use Rattle.exec_core.specs.Stands.{LocalStands}

-- the lines that were printed
abbrev pub lines_of : Setting → Printed → List (List ℕ)
lines_of g Nothing = []
lines_of g (Text text) = slice_index_or (flatten g.program).texts text [] ∷ []
lines_of g (Scalar scalar value) = scalar_line g scalar value ∷ []

-- past a statement, with what it left and printed; or a trap, and then the worker is as it was
abbrev pub Ends : Setting → Memory → (before after : Parts) → (line : ℕ) → (more : Rest) → Answer Done → Result Printed Trap → Type 0
Ends g p before after line more (Ok done) (Ok printed) = LocalStands g p after more done.own done.partials × (lines_of g printed ≡ done.printed)
Ends g p before after line more (Ok done) (Err trap) = ⊥
Ends g p before after line more (Err kind) (Ok printed) = ⊥
Ends g p before after line more (Err kind) (Err trap) = (trap ≡ trap_at line kind) × (after ≡ before)

-- a statement that prints
abbrev pub Prints : Plain → Type 0
Prints (Print text) = Unit {0}
Prints (PrintScalar scalar) = Unit {0}
Prints _ = ⊥

-- one comes next
abbrev pub IsPrinting : Task → Type 0
IsPrinting (next.Statement line form more) = Prints form
IsPrinting _ = ⊥

-- the statement that comes next was done as the definitions do it
abbrev pub Does : Setting → Memory → (before after : Parts) → Own → (partials : List ℕ) → (values : List (List ℕ)) → Result Printed Trap → Task → Type 0
Does g p before after own partials values result (next.Statement line form more) = Ends g p before after line more (local_step g form values own partials) result
Does g p before after own partials values result _ = Unit {0}
