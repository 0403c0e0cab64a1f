-- Statements that print, as the definitions do them.
use Rattle.std.proofs.Common.{◌≡◌, ℕ, List, [], ◌∷◌, Option, Some, None, slice_get, Ok, Err, refl, sym, ap, subst}
use Rattle.std.proofs.lemmas.Option.{get_or_from_slice_get}
use Rattle.block_pool.specs.Memory.{Memory}
use Rattle.sial_syntax.specs.Tree.{Plain, Print, PrintScalar}
use Rattle.sial_meaning.specs.declared.trap.TrapKind.TheVariants.{UnsetScalar}
use Rattle.sial_meaning.specs.LocalStep.{and_then, local_step, or_trap, scalar_line}
use Rattle.sial_meaning.specs.Next as next
use Rattle.sial_meaning.specs.Next.{Task, next_of}
use Rattle.sial_meaning.specs.Own.{Own, scalar_of}
use Rattle.sial_meaning.specs.Rest.{Rest}
use Rattle.sial_meaning.specs.Setting.{Setting}
use Rattle.sial_meaning.specs.Statement.{trap_at}
use Rattle.sip_tables.specs.Flatten.{flatten}
use Rattle.exec_control.specs.Position.{Position}
use Rattle.exec_control.specs.Stands as stands
use Rattle.exec_core.specs.declared.printed.Printed.TheVariants.{Text, Scalar}
use Rattle.exec_core.specs.Moves.{Passes}
use Rattle.exec_core.specs.Parts.{Parts}
use Rattle.exec_core.specs.Printing.{Ends}
use Rattle.exec_core.specs.Stands.{LocalStands}
use Rattle.exec_core.proofs.StepLemmas.{passed_on}

-- past a statement that came next
pub passed_next : (g : Setting) (p : Memory) (l : Parts) (rest more : Rest) (own : Own) (partials : List ℕ) (c : Position) (line : ℕ) (form : Plain) → LocalStands g p l rest own partials → next_of rest ≡ next.Statement line form more
    → stands.Passes g c own (next_of rest) → LocalStands g p (record l { control = c }) more own partials
passed_next g p l rest more own partials c line form st is passes =
    subst (λ (t : Task). Passes g p (record l { control = c }) own partials t) is (passed_on g p l rest own partials c (next_of rest) st passes)

-- a text
pub text_printed : (g : Setting) (p : Memory) (before after : Parts) (line text : ℕ) (more : Rest) (own : Own) (partials printed : List ℕ) (values : List (List ℕ)) → slice_get (flatten g.program).texts text ≡ Some printed
    → LocalStands g p after more own partials → Ends g p before after line more (local_step g (Print printed) values own partials) (Ok (Text text))
text_printed g p before after line text more own partials printed values is st = (st, ap (λ (t : List ℕ). t ∷ []) (get_or_from_slice_get (flatten g.program).texts text printed [] is))

-- a scalar's number
pub scalar_printed : (g : Setting) (p : Memory) (before after : Parts) (line scalar value : ℕ) (more : Rest) (own : Own) (partials : List ℕ) (values : List (List ℕ)) → scalar_of own scalar ≡ Some value
    → LocalStands g p after more own partials → Ends g p before after line more (local_step g (PrintScalar scalar) values own partials) (Ok (Scalar scalar value))
scalar_printed g p before after line scalar value more own partials values is st =
    subst (λ (o : Option ℕ). Ends g p before after line more (and_then (or_trap UnsetScalar o) (λ n. Ok (record { own = own; partials = partials; printed = scalar_line g scalar n ∷ [] }))) (Ok (Scalar scalar value))) (sym is) (st, refl)

-- a scalar that isn't set
pub scalar_unset : (g : Setting) (p : Memory) (before after : Parts) (line scalar : ℕ) (more : Rest) (own : Own) (partials : List ℕ) (values : List (List ℕ)) → scalar_of own scalar ≡ None
    → after ≡ before → Ends g p before after line more (local_step g (PrintScalar scalar) values own partials) (Err (trap_at line UnsetScalar))
scalar_unset g p before after line scalar more own partials values is same =
    subst (λ (o : Option ℕ). Ends g p before after line more (and_then (or_trap UnsetScalar o) (λ n. Ok (record { own = own; partials = partials; printed = scalar_line g scalar n ∷ [] }))) (Err (trap_at line UnsetScalar))) (sym is) (refl, same)
