-- Where the head of a pardo comes next, control enters it; where none does, control unsets nothing.
use Rattle.std.proofs.Common.{◌≡◌, ℕ, List, refl, ap}
use Rattle.sial_syntax.specs.Tree.{Do, DoIn, Pardo, If, IfElse, Call, Assign, Get, Request, Put, Prepare, Create, Delete, Allocate, Deallocate, Collective, SipBarrier, ServerBarrier, Print, PrintScalar, Integrals}
use Rattle.sial_meaning.specs.Control.{Led, Goes, Halts, control}
use Rattle.sial_meaning.specs.Next as next
use Rattle.sial_meaning.specs.Next.{next_of}
use Rattle.sial_meaning.specs.Own.{Own}
use Rattle.sial_meaning.specs.Rest.{Rest, Over, Next, Turn, Join, Back, Within}
use Rattle.sial_meaning.specs.Setting.{Setting}
use Rattle.sip_tables.specs.declared.instruction.Instruction.{Instruction}
use Rattle.sip_tables.specs.declared.instruction.Operation.{Operation}
use Rattle.sip_tables.specs.declared.instruction.Operation.TheVariants as op
use Rattle.code_places.specs.Head.{Says}
use Rattle.exec_control.specs.Stands.{IsControl, entering}

-- control goes on to other work
abbrev pub IsGoing : Led → Type 0
IsGoing (Goes rest own) = Unit {0}
IsGoing (Halts trap) = ⊥

-- a pardo is entered without a trap
pub pardo_goes : (g : Setting) (rest : Rest) (own : Own) → next_of rest ≡ next.Pardo → IsGoing (control g rest own)
pardo_goes g (Over at) own is = absurd cc
pardo_goes g (Next at line (Do index body) rest) own is = absurd cc
pardo_goes g (Next at line (DoIn sub index body) rest) own is = absurd cc
pardo_goes g (Next at line (Pardo indices wheres body) rest) own is = tt
pardo_goes g (Next at line (If test body) rest) own is = absurd cc
pardo_goes g (Next at line (IfElse test body other) rest) own is = absurd cc
pardo_goes g (Next at line (Call procedure) rest) own is = absurd cc
pardo_goes g (Next at line (Assign target combining right) rest) own is = absurd cc
pardo_goes g (Next at line (Get block) rest) own is = absurd cc
pardo_goes g (Next at line (Request block) rest) own is = absurd cc
pardo_goes g (Next at line (Put block how from) rest) own is = absurd cc
pardo_goes g (Next at line (Prepare block how from) rest) own is = absurd cc
pardo_goes g (Next at line (Create array) rest) own is = absurd cc
pardo_goes g (Next at line (Delete array) rest) own is = absurd cc
pardo_goes g (Next at line (Allocate array slots) rest) own is = absurd cc
pardo_goes g (Next at line (Deallocate array slots) rest) own is = absurd cc
pardo_goes g (Next at line (Collective into from) rest) own is = absurd cc
pardo_goes g (Next at line SipBarrier rest) own is = absurd cc
pardo_goes g (Next at line ServerBarrier rest) own is = absurd cc
pardo_goes g (Next at line (Print text) rest) own is = absurd cc
pardo_goes g (Next at line (PrintScalar scalar) rest) own is = absurd cc
pardo_goes g (Next at line (Integrals block) rest) own is = absurd cc
pardo_goes g (Turn loop last rest) own is = absurd cc
pardo_goes g (Join at rest) own is = absurd cc
pardo_goes g (Back at values rest) own is = absurd cc
pardo_goes g (Within pardo number rest) own is = absurd cc

-- what the instruction of a pardo's head isn't
same_operation : (i : Instruction) (line : ℕ) (o : Operation) → i ≡ record { line = line; operation = o } → i.operation ≡ o
same_operation i line o is = ap (λ (j : Instruction). j.operation) is

-- at no pardo's head, control leaves all but index numbers
pub not_entering : (g : Setting) (rest : Rest) (i : Instruction) (own : Own) → Says g.program rest i → ((indices : List ℕ) (end_at : ℕ) → i.operation ≡ op.Pardo indices end_at → ⊥) → IsControl (next_of rest) → entering g (next_of rest) own ≡ own
not_entering g (Over at) i own says no_head control = absurd control
not_entering g (Next at line (Do index body) rest) i own says no_head control = refl
not_entering g (Next at line (DoIn sub index body) rest) i own says no_head control = refl
not_entering g (Next at line (Pardo indices wheres body) rest) i own says no_head control = absurd (no_head indices _ (same_operation i line _ says.is))
not_entering g (Next at line (If test body) rest) i own says no_head control = refl
not_entering g (Next at line (IfElse test body other) rest) i own says no_head control = refl
not_entering g (Next at line (Call procedure) rest) i own says no_head control = refl
not_entering g (Next at line (Assign target combining right) rest) i own says no_head control = absurd control
not_entering g (Next at line (Get block) rest) i own says no_head control = absurd control
not_entering g (Next at line (Request block) rest) i own says no_head control = absurd control
not_entering g (Next at line (Put block how from) rest) i own says no_head control = absurd control
not_entering g (Next at line (Prepare block how from) rest) i own says no_head control = absurd control
not_entering g (Next at line (Create array) rest) i own says no_head control = absurd control
not_entering g (Next at line (Delete array) rest) i own says no_head control = absurd control
not_entering g (Next at line (Allocate array slots) rest) i own says no_head control = absurd control
not_entering g (Next at line (Deallocate array slots) rest) i own says no_head control = absurd control
not_entering g (Next at line (Collective into from) rest) i own says no_head control = absurd control
not_entering g (Next at line SipBarrier rest) i own says no_head control = absurd control
not_entering g (Next at line ServerBarrier rest) i own says no_head control = absurd control
not_entering g (Next at line (Print text) rest) i own says no_head control = absurd control
not_entering g (Next at line (PrintScalar scalar) rest) i own says no_head control = absurd control
not_entering g (Next at line (Integrals block) rest) i own says no_head control = absurd control
not_entering g (Turn loop last rest) i own says no_head control = refl
not_entering g (Join at rest) i own says no_head control = refl
not_entering g (Back at values rest) i own says no_head control = refl
not_entering g (Within pardo number rest) i own says no_head control = absurd control
