-- What the instruction at the cursor names is what the statement names that comes next.
use Rattle.std.proofs.Common.{◌≡◌, ℕ, List, Some, refl, sym, ap, subst}
use Rattle.sial_syntax.specs.declared.access.Access.{Access}
use Rattle.std.specs.Prelude.{IfSome}
use Rattle.sial_syntax.specs.declared.operand.BlockRef.{BlockRef}
use Rattle.sial_syntax.specs.Tree.{Do, DoIn, Pardo, If, IfElse, Call, Assign, Get, Request, Put, Prepare, Create, Delete, Allocate, Deallocate, Collective, SipBarrier, ServerBarrier, Print, PrintScalar, Integrals}
use Rattle.sial_meaning.specs.Next.{next_of}
use Rattle.sial_meaning.specs.Own.{Own}
use Rattle.sial_meaning.specs.Rest.{Rest, Over, Next, Turn, Join, Back, Within, place}
use Rattle.sial_meaning.specs.Setting.{Setting}
use Rattle.sial_meaning.specs.Sound.{IsSound}
use Rattle.sial_meaning.proofs.Granted.Ranges.{InRange}
use Rattle.sial_meaning.proofs.StatesAreWhole.Rest.{GoodRest}
use Rattle.sip_tables.specs.declared.instruction.Instruction.{Instruction}
use Rattle.sip_tables.specs.declared.instruction.Operation.{Operation}
use Rattle.sip_tables.specs.declared.instruction.Operation.TheVariants as op
use Rattle.code_places.specs.Follows.{Joins}
use Rattle.code_places.specs.Head.{Says}
use Rattle.exec_core.specs.Instructions.{AreShared, IsShared, op_needed, op_reads, op_transferred}
use Rattle.exec_core.specs.Shared.{needed, transferred_next}
use Rattle.exec_core.proofs.SharedLemmas.{assigned_shared, fetched_shared, requested_shared, put_shared, prepared_shared}

-- the end of a branch is one of two instructions
pub joins_are : (P : Operation → Type 0) (o : Operation) (at to : ℕ) → Joins o at to → ((past : ℕ) → P (op.Else past)) → P op.EndIf → P o
joins_are P op.Stop at to joins one other = absurd joins
joins_are P op.Return at to joins one other = absurd joins
joins_are P (op.Do index past) at to joins one other = absurd joins
joins_are P (op.DoIn sub index past) at to joins one other = absurd joins
joins_are P (op.EndDo head) at to joins one other = absurd joins
joins_are P (op.If cond otherwise) at to joins one other = absurd joins
joins_are P (op.Else past) at to joins one other = one past
joins_are P op.EndIf at to joins one other = other
joins_are P (op.Pardo indices end_at) at to joins one other = absurd joins
joins_are P (op.Where cond) at to joins one other = absurd joins
joins_are P (op.EndPardo head) at to joins one other = absurd joins
joins_are P (op.Call procedure entry) at to joins one other = absurd joins
joins_are P (op.Assign target combining right) at to joins one other = absurd joins
joins_are P (op.Get block) at to joins one other = absurd joins
joins_are P (op.Request block) at to joins one other = absurd joins
joins_are P (op.Put block how from) at to joins one other = absurd joins
joins_are P (op.Prepare block how from) at to joins one other = absurd joins
joins_are P (op.Create array) at to joins one other = absurd joins
joins_are P (op.Delete array) at to joins one other = absurd joins
joins_are P (op.Allocate array slots) at to joins one other = absurd joins
joins_are P (op.Deallocate array slots) at to joins one other = absurd joins
joins_are P (op.Collective into from) at to joins one other = absurd joins
joins_are P op.SipBarrier at to joins one other = absurd joins
joins_are P op.ServerBarrier at to joins one other = absurd joins
joins_are P (op.Print text) at to joins one other = absurd joins
joins_are P (op.PrintScalar scalar) at to joins one other = absurd joins
joins_are P (op.Integrals block) at to joins one other = absurd joins

-- what comes next needs what the instruction does
pub needs_told : (g : Setting) (rest : Rest) (i : Instruction) (own : Own) → Says g.program rest i → needed g (next_of rest) own ≡ op_needed g i.line i.operation own
needs_told g (Over at) i own says = sym (ap (λ (j : Instruction). op_needed g j.line j.operation own) says)
needs_told g (Next at line (Do index body) rest) i own says = sym (ap (λ (j : Instruction). op_needed g j.line j.operation own) says.is)
needs_told g (Next at line (DoIn sub index body) rest) i own says = sym (ap (λ (j : Instruction). op_needed g j.line j.operation own) says.is)
needs_told g (Next at line (Pardo indices wheres body) rest) i own says = sym (ap (λ (j : Instruction). op_needed g j.line j.operation own) says.is)
needs_told g (Next at line (If test body) rest) i own says = sym (ap (λ (j : Instruction). op_needed g j.line j.operation own) says.is)
needs_told g (Next at line (IfElse test body other) rest) i own says = sym (ap (λ (j : Instruction). op_needed g j.line j.operation own) says.is)
needs_told g (Next at line (Call procedure) rest) i own says = sym (ap (λ (j : Instruction). op_needed g j.line j.operation own) says.is)
needs_told g (Next at line (Assign target combining right) rest) i own says = sym (ap (λ (j : Instruction). op_needed g j.line j.operation own) says.is)
needs_told g (Next at line (Get block) rest) i own says = sym (ap (λ (j : Instruction). op_needed g j.line j.operation own) says.is)
needs_told g (Next at line (Request block) rest) i own says = sym (ap (λ (j : Instruction). op_needed g j.line j.operation own) says.is)
needs_told g (Next at line (Put block how from) rest) i own says = sym (ap (λ (j : Instruction). op_needed g j.line j.operation own) says.is)
needs_told g (Next at line (Prepare block how from) rest) i own says = sym (ap (λ (j : Instruction). op_needed g j.line j.operation own) says.is)
needs_told g (Next at line (Create array) rest) i own says = sym (ap (λ (j : Instruction). op_needed g j.line j.operation own) says.is)
needs_told g (Next at line (Delete array) rest) i own says = sym (ap (λ (j : Instruction). op_needed g j.line j.operation own) says.is)
needs_told g (Next at line (Allocate array slots) rest) i own says = sym (ap (λ (j : Instruction). op_needed g j.line j.operation own) says.is)
needs_told g (Next at line (Deallocate array slots) rest) i own says = sym (ap (λ (j : Instruction). op_needed g j.line j.operation own) says.is)
needs_told g (Next at line (Collective into from) rest) i own says = sym (ap (λ (j : Instruction). op_needed g j.line j.operation own) says.is)
needs_told g (Next at line SipBarrier rest) i own says = sym (ap (λ (j : Instruction). op_needed g j.line j.operation own) says.is)
needs_told g (Next at line ServerBarrier rest) i own says = sym (ap (λ (j : Instruction). op_needed g j.line j.operation own) says.is)
needs_told g (Next at line (Print text) rest) i own says = sym (ap (λ (j : Instruction). op_needed g j.line j.operation own) says.is)
needs_told g (Next at line (PrintScalar scalar) rest) i own says = sym (ap (λ (j : Instruction). op_needed g j.line j.operation own) says.is)
needs_told g (Next at line (Integrals block) rest) i own says = sym (ap (λ (j : Instruction). op_needed g j.line j.operation own) says.is)
needs_told g (Turn loop last rest) i own says = sym (ap (λ (o : Operation). op_needed g i.line o own) says)
needs_told g (Join at rest) i own says = joins_are (λ (o : Operation). needed g (next_of (Join at rest)) own ≡ op_needed g i.line o own) i.operation at (place rest) says (λ past. refl) refl
needs_told g (Back at values rest) i own says = sym (ap (λ (j : Instruction). op_needed g j.line j.operation own) says)
needs_told g (Within pardo number rest) i own says = sym (ap (λ (o : Operation). op_needed g i.line o own) says)

-- so it is with the block that is fetched or changed
pub transferred_told : (g : Setting) (rest : Rest) (i : Instruction) → Says g.program rest i → transferred_next (next_of rest) ≡ op_transferred i.operation
transferred_told g (Over at) i says = sym (ap (λ (j : Instruction). op_transferred j.operation) says)
transferred_told g (Next at line (Do index body) rest) i says = sym (ap (λ (j : Instruction). op_transferred j.operation) says.is)
transferred_told g (Next at line (DoIn sub index body) rest) i says = sym (ap (λ (j : Instruction). op_transferred j.operation) says.is)
transferred_told g (Next at line (Pardo indices wheres body) rest) i says = sym (ap (λ (j : Instruction). op_transferred j.operation) says.is)
transferred_told g (Next at line (If test body) rest) i says = sym (ap (λ (j : Instruction). op_transferred j.operation) says.is)
transferred_told g (Next at line (IfElse test body other) rest) i says = sym (ap (λ (j : Instruction). op_transferred j.operation) says.is)
transferred_told g (Next at line (Call procedure) rest) i says = sym (ap (λ (j : Instruction). op_transferred j.operation) says.is)
transferred_told g (Next at line (Assign target combining right) rest) i says = sym (ap (λ (j : Instruction). op_transferred j.operation) says.is)
transferred_told g (Next at line (Get block) rest) i says = sym (ap (λ (j : Instruction). op_transferred j.operation) says.is)
transferred_told g (Next at line (Request block) rest) i says = sym (ap (λ (j : Instruction). op_transferred j.operation) says.is)
transferred_told g (Next at line (Put block how from) rest) i says = sym (ap (λ (j : Instruction). op_transferred j.operation) says.is)
transferred_told g (Next at line (Prepare block how from) rest) i says = sym (ap (λ (j : Instruction). op_transferred j.operation) says.is)
transferred_told g (Next at line (Create array) rest) i says = sym (ap (λ (j : Instruction). op_transferred j.operation) says.is)
transferred_told g (Next at line (Delete array) rest) i says = sym (ap (λ (j : Instruction). op_transferred j.operation) says.is)
transferred_told g (Next at line (Allocate array slots) rest) i says = sym (ap (λ (j : Instruction). op_transferred j.operation) says.is)
transferred_told g (Next at line (Deallocate array slots) rest) i says = sym (ap (λ (j : Instruction). op_transferred j.operation) says.is)
transferred_told g (Next at line (Collective into from) rest) i says = sym (ap (λ (j : Instruction). op_transferred j.operation) says.is)
transferred_told g (Next at line SipBarrier rest) i says = sym (ap (λ (j : Instruction). op_transferred j.operation) says.is)
transferred_told g (Next at line ServerBarrier rest) i says = sym (ap (λ (j : Instruction). op_transferred j.operation) says.is)
transferred_told g (Next at line (Print text) rest) i says = sym (ap (λ (j : Instruction). op_transferred j.operation) says.is)
transferred_told g (Next at line (PrintScalar scalar) rest) i says = sym (ap (λ (j : Instruction). op_transferred j.operation) says.is)
transferred_told g (Next at line (Integrals block) rest) i says = sym (ap (λ (j : Instruction). op_transferred j.operation) says.is)
transferred_told g (Turn loop last rest) i says = sym (ap (λ (o : Operation). op_transferred o) says)
transferred_told g (Join at rest) i says = joins_are (λ (o : Operation). transferred_next (next_of (Join at rest)) ≡ op_transferred o) i.operation at (place rest) says (λ past. refl) refl
transferred_told g (Back at values rest) i says = sym (ap (λ (j : Instruction). op_transferred j.operation) says)
transferred_told g (Within pardo number rest) i says = sym (ap (λ (o : Operation). op_transferred o) says)

-- the blocks that it reads are shared ones
pub reads_shared : (g : Setting) → IsSound g → (bound values : List ℕ) (rest : Rest) (i : Instruction) → InRange g bound values → GoodRest g bound rest → Says g.program rest i → AreShared g values (op_reads g i.operation)
reads_shared g sound bound held (Over at) i in-range good says = subst (λ (j : Instruction). AreShared g held (op_reads g j.operation)) (sym says) tt
reads_shared g sound bound held (Next at line (Do index body) rest) i in-range good says = subst (λ (j : Instruction). AreShared g held (op_reads g j.operation)) (sym says.is) tt
reads_shared g sound bound held (Next at line (DoIn sub index body) rest) i in-range good says = subst (λ (j : Instruction). AreShared g held (op_reads g j.operation)) (sym says.is) tt
reads_shared g sound bound held (Next at line (Pardo indices wheres body) rest) i in-range good says = subst (λ (j : Instruction). AreShared g held (op_reads g j.operation)) (sym says.is) tt
reads_shared g sound bound held (Next at line (If test body) rest) i in-range good says = subst (λ (j : Instruction). AreShared g held (op_reads g j.operation)) (sym says.is) tt
reads_shared g sound bound held (Next at line (IfElse test body other) rest) i in-range good says = subst (λ (j : Instruction). AreShared g held (op_reads g j.operation)) (sym says.is) tt
reads_shared g sound bound held (Next at line (Call procedure) rest) i in-range good says = subst (λ (j : Instruction). AreShared g held (op_reads g j.operation)) (sym says.is) tt
reads_shared g sound bound held (Next at line (Assign target combining right) rest) i in-range good says = subst (λ (j : Instruction). AreShared g held (op_reads g j.operation)) (sym says.is) (assigned_shared g sound line bound held good.0 target combining right in-range good.1)
reads_shared g sound bound held (Next at line (Get block) rest) i in-range good says = subst (λ (j : Instruction). AreShared g held (op_reads g j.operation)) (sym says.is) (fetched_shared g sound line bound held good.0 block in-range good.1, tt)
reads_shared g sound bound held (Next at line (Request block) rest) i in-range good says = subst (λ (j : Instruction). AreShared g held (op_reads g j.operation)) (sym says.is) (requested_shared g sound line bound held good.0 block in-range good.1, tt)
reads_shared g sound bound held (Next at line (Put block how from) rest) i in-range good says = subst (λ (j : Instruction). AreShared g held (op_reads g j.operation)) (sym says.is) tt
reads_shared g sound bound held (Next at line (Prepare block how from) rest) i in-range good says = subst (λ (j : Instruction). AreShared g held (op_reads g j.operation)) (sym says.is) tt
reads_shared g sound bound held (Next at line (Create array) rest) i in-range good says = subst (λ (j : Instruction). AreShared g held (op_reads g j.operation)) (sym says.is) tt
reads_shared g sound bound held (Next at line (Delete array) rest) i in-range good says = subst (λ (j : Instruction). AreShared g held (op_reads g j.operation)) (sym says.is) tt
reads_shared g sound bound held (Next at line (Allocate array slots) rest) i in-range good says = subst (λ (j : Instruction). AreShared g held (op_reads g j.operation)) (sym says.is) tt
reads_shared g sound bound held (Next at line (Deallocate array slots) rest) i in-range good says = subst (λ (j : Instruction). AreShared g held (op_reads g j.operation)) (sym says.is) tt
reads_shared g sound bound held (Next at line (Collective into from) rest) i in-range good says = subst (λ (j : Instruction). AreShared g held (op_reads g j.operation)) (sym says.is) tt
reads_shared g sound bound held (Next at line SipBarrier rest) i in-range good says = subst (λ (j : Instruction). AreShared g held (op_reads g j.operation)) (sym says.is) tt
reads_shared g sound bound held (Next at line ServerBarrier rest) i in-range good says = subst (λ (j : Instruction). AreShared g held (op_reads g j.operation)) (sym says.is) tt
reads_shared g sound bound held (Next at line (Print text) rest) i in-range good says = subst (λ (j : Instruction). AreShared g held (op_reads g j.operation)) (sym says.is) tt
reads_shared g sound bound held (Next at line (PrintScalar scalar) rest) i in-range good says = subst (λ (j : Instruction). AreShared g held (op_reads g j.operation)) (sym says.is) tt
reads_shared g sound bound held (Next at line (Integrals block) rest) i in-range good says = subst (λ (j : Instruction). AreShared g held (op_reads g j.operation)) (sym says.is) tt
reads_shared g sound bound held (Turn loop last rest) i in-range good says = subst (λ (o : Operation). AreShared g held (op_reads g o)) (sym says) tt
reads_shared g sound bound held (Join at rest) i in-range good says = joins_are (λ (o : Operation). AreShared g held (op_reads g o)) i.operation at (place rest) says (λ past. tt) tt
reads_shared g sound bound held (Back at values rest) i in-range good says = subst (λ (j : Instruction). AreShared g held (op_reads g j.operation)) (sym says) tt
reads_shared g sound bound held (Within pardo number rest) i in-range good says = subst (λ (o : Operation). AreShared g held (op_reads g o)) (sym says) tt

-- and so is the block that it fetches or changes
pub transferred_shared : (g : Setting) → IsSound g → (bound values : List ℕ) (rest : Rest) (i : Instruction) → InRange g bound values → GoodRest g bound rest → Says g.program rest i → IfSome (op_transferred i.operation) (IsShared g values)
transferred_shared g sound bound held (Over at) i in-range good says = subst (λ (j : Instruction). IfSome (op_transferred j.operation) (IsShared g held)) (sym says) tt
transferred_shared g sound bound held (Next at line (Do index body) rest) i in-range good says = subst (λ (j : Instruction). IfSome (op_transferred j.operation) (IsShared g held)) (sym says.is) tt
transferred_shared g sound bound held (Next at line (DoIn sub index body) rest) i in-range good says = subst (λ (j : Instruction). IfSome (op_transferred j.operation) (IsShared g held)) (sym says.is) tt
transferred_shared g sound bound held (Next at line (Pardo indices wheres body) rest) i in-range good says = subst (λ (j : Instruction). IfSome (op_transferred j.operation) (IsShared g held)) (sym says.is) tt
transferred_shared g sound bound held (Next at line (If test body) rest) i in-range good says = subst (λ (j : Instruction). IfSome (op_transferred j.operation) (IsShared g held)) (sym says.is) tt
transferred_shared g sound bound held (Next at line (IfElse test body other) rest) i in-range good says = subst (λ (j : Instruction). IfSome (op_transferred j.operation) (IsShared g held)) (sym says.is) tt
transferred_shared g sound bound held (Next at line (Call procedure) rest) i in-range good says = subst (λ (j : Instruction). IfSome (op_transferred j.operation) (IsShared g held)) (sym says.is) tt
transferred_shared g sound bound held (Next at line (Assign target combining right) rest) i in-range good says = subst (λ (j : Instruction). IfSome (op_transferred j.operation) (IsShared g held)) (sym says.is) tt
transferred_shared g sound bound held (Next at line (Get block) rest) i in-range good says = subst (λ (j : Instruction). IfSome (op_transferred j.operation) (IsShared g held)) (sym says.is) (fetched_shared g sound line bound held good.0 block in-range good.1)
transferred_shared g sound bound held (Next at line (Request block) rest) i in-range good says = subst (λ (j : Instruction). IfSome (op_transferred j.operation) (IsShared g held)) (sym says.is) (requested_shared g sound line bound held good.0 block in-range good.1)
transferred_shared g sound bound held (Next at line (Put block how from) rest) i in-range good says = subst (λ (j : Instruction). IfSome (op_transferred j.operation) (IsShared g held)) (sym says.is) (put_shared g sound line bound held good.0 block how from in-range good.1)
transferred_shared g sound bound held (Next at line (Prepare block how from) rest) i in-range good says = subst (λ (j : Instruction). IfSome (op_transferred j.operation) (IsShared g held)) (sym says.is) (prepared_shared g sound line bound held good.0 block how from in-range good.1)
transferred_shared g sound bound held (Next at line (Create array) rest) i in-range good says = subst (λ (j : Instruction). IfSome (op_transferred j.operation) (IsShared g held)) (sym says.is) tt
transferred_shared g sound bound held (Next at line (Delete array) rest) i in-range good says = subst (λ (j : Instruction). IfSome (op_transferred j.operation) (IsShared g held)) (sym says.is) tt
transferred_shared g sound bound held (Next at line (Allocate array slots) rest) i in-range good says = subst (λ (j : Instruction). IfSome (op_transferred j.operation) (IsShared g held)) (sym says.is) tt
transferred_shared g sound bound held (Next at line (Deallocate array slots) rest) i in-range good says = subst (λ (j : Instruction). IfSome (op_transferred j.operation) (IsShared g held)) (sym says.is) tt
transferred_shared g sound bound held (Next at line (Collective into from) rest) i in-range good says = subst (λ (j : Instruction). IfSome (op_transferred j.operation) (IsShared g held)) (sym says.is) tt
transferred_shared g sound bound held (Next at line SipBarrier rest) i in-range good says = subst (λ (j : Instruction). IfSome (op_transferred j.operation) (IsShared g held)) (sym says.is) tt
transferred_shared g sound bound held (Next at line ServerBarrier rest) i in-range good says = subst (λ (j : Instruction). IfSome (op_transferred j.operation) (IsShared g held)) (sym says.is) tt
transferred_shared g sound bound held (Next at line (Print text) rest) i in-range good says = subst (λ (j : Instruction). IfSome (op_transferred j.operation) (IsShared g held)) (sym says.is) tt
transferred_shared g sound bound held (Next at line (PrintScalar scalar) rest) i in-range good says = subst (λ (j : Instruction). IfSome (op_transferred j.operation) (IsShared g held)) (sym says.is) tt
transferred_shared g sound bound held (Next at line (Integrals block) rest) i in-range good says = subst (λ (j : Instruction). IfSome (op_transferred j.operation) (IsShared g held)) (sym says.is) tt
transferred_shared g sound bound held (Turn loop last rest) i in-range good says = subst (λ (o : Operation). IfSome (op_transferred o) (IsShared g held)) (sym says) tt
transferred_shared g sound bound held (Join at rest) i in-range good says = joins_are (λ (o : Operation). IfSome (op_transferred o) (IsShared g held)) i.operation at (place rest) says (λ past. tt) tt
transferred_shared g sound bound held (Back at values rest) i in-range good says = subst (λ (j : Instruction). IfSome (op_transferred j.operation) (IsShared g held)) (sym says) tt
transferred_shared g sound bound held (Within pardo number rest) i in-range good says = subst (λ (o : Operation). IfSome (op_transferred o) (IsShared g held)) (sym says) tt

-- no other instruction fetches or changes a block
pub transfers_four : (o : Operation) (b : BlockRef) → op_transferred o ≡ Some b → ((block : BlockRef) → o ≡ op.Get block → ⊥) → ((block : BlockRef) → o ≡ op.Request block → ⊥) → ((block : BlockRef) (how : Access) (from : BlockRef) → o ≡ op.Put block how from → ⊥) → ((block : BlockRef) (how : Access) (from : BlockRef) → o ≡ op.Prepare block how from → ⊥) → ⊥
transfers_four op.Stop b is n1 n2 n3 n4 = absurd cc
transfers_four op.Return b is n1 n2 n3 n4 = absurd cc
transfers_four (op.Do index past) b is n1 n2 n3 n4 = absurd cc
transfers_four (op.DoIn sub index past) b is n1 n2 n3 n4 = absurd cc
transfers_four (op.EndDo head) b is n1 n2 n3 n4 = absurd cc
transfers_four (op.If cond otherwise) b is n1 n2 n3 n4 = absurd cc
transfers_four (op.Else past) b is n1 n2 n3 n4 = absurd cc
transfers_four op.EndIf b is n1 n2 n3 n4 = absurd cc
transfers_four (op.Pardo indices end_at) b is n1 n2 n3 n4 = absurd cc
transfers_four (op.Where cond) b is n1 n2 n3 n4 = absurd cc
transfers_four (op.EndPardo head) b is n1 n2 n3 n4 = absurd cc
transfers_four (op.Call procedure entry) b is n1 n2 n3 n4 = absurd cc
transfers_four (op.Assign target combining right) b is n1 n2 n3 n4 = absurd cc
transfers_four (op.Get block) b is n1 n2 n3 n4 = n1 block refl
transfers_four (op.Request block) b is n1 n2 n3 n4 = n2 block refl
transfers_four (op.Put block how from) b is n1 n2 n3 n4 = n3 block how from refl
transfers_four (op.Prepare block how from) b is n1 n2 n3 n4 = n4 block how from refl
transfers_four (op.Create array) b is n1 n2 n3 n4 = absurd cc
transfers_four (op.Delete array) b is n1 n2 n3 n4 = absurd cc
transfers_four (op.Allocate array slots) b is n1 n2 n3 n4 = absurd cc
transfers_four (op.Deallocate array slots) b is n1 n2 n3 n4 = absurd cc
transfers_four (op.Collective into from) b is n1 n2 n3 n4 = absurd cc
transfers_four op.SipBarrier b is n1 n2 n3 n4 = absurd cc
transfers_four op.ServerBarrier b is n1 n2 n3 n4 = absurd cc
transfers_four (op.Print text) b is n1 n2 n3 n4 = absurd cc
transfers_four (op.PrintScalar scalar) b is n1 n2 n3 n4 = absurd cc
transfers_four (op.Integrals block) b is n1 n2 n3 n4 = absurd cc
