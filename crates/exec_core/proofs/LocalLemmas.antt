-- Local blocks allocated and taken away, as the definitions do it.
use Rattle.std.proofs.Common.{◌≡◌, ℕ, List, [], ◌∷◌, Bool, true, false, not, Result, Ok, Err, refl, sym, ap, ◌∙◌, subst}
use Rattle.std.specs.Prelude.{if◌then◌else◌, IfErr, OnErr}
use Rattle.std.specs.List.{list_any}
use Rattle.block_pool.specs.Memory.{Memory}
use Rattle.sial_syntax.specs.declared.array.ArrayKind.TheVariants.{Local}
use Rattle.sial_syntax.specs.declared.operand.Slot.{Slot}
use Rattle.sial_syntax.specs.Agreeing.{has_kind}
use Rattle.sial_syntax.specs.Tree.{Tree, Do, DoIn, Pardo, If, IfElse, Call, Assign, Get, Request, Put, Prepare, Create, Delete, Allocate, Deallocate, Collective, SipBarrier, ServerBarrier, Print, PrintScalar, Integrals}
use Rattle.sial_meaning.specs.declared.trap.Trap.{Trap}
use Rattle.sial_meaning.specs.declared.trap.TrapKind.{TrapKind}
use Rattle.sial_meaning.specs.declared.trap.TrapKind.TheVariants.{LocalMissing, LocalTwice}
use Rattle.sial_meaning.specs.LocalStep.{Answer, Done, all_allocated, all_deallocated, allocated, deallocated, is_allocated, matched, quiet}
use Rattle.sial_meaning.specs.Next.{next_of}
use Rattle.sial_meaning.specs.Own.{Own}
use Rattle.sial_meaning.specs.Rest.{Rest, Over, Next, Turn, Join, Back, Within, place}
use Rattle.sial_meaning.specs.Setting.{Setting, array_kind}
use Rattle.sial_meaning.specs.Sound.{IsSound}
use Rattle.sial_meaning.specs.Statement.{trap_at}
use Rattle.sial_meaning.proofs.AcceptedInOtherWords.Pairs.{holds-so}
use Rattle.sial_meaning.proofs.Granted.Ranges.{InRange}
use Rattle.sial_meaning.proofs.Granted.Sameness.{kind-one}
use Rattle.sial_meaning.proofs.StatesAreWhole.Effects.{array-right}
use Rattle.sial_meaning.proofs.StatesAreWhole.Rest.{GoodRest}
use Rattle.sip_tables.specs.declared.instruction.Instruction.{Instruction}
use Rattle.sip_tables.specs.declared.instruction.Operation.{Operation}
use Rattle.sip_tables.specs.declared.instruction.Operation.TheVariants as op
use Rattle.code_places.specs.Head.{Says}
use Rattle.code_places.specs.Items.{ItemOf}
use Rattle.exec_names.proofs.SlotLemmas.{allocate-fits, deallocate-fits}
use Rattle.exec_blocks.specs.Allocating.{Answers}
use Rattle.exec_blocks.specs.Kept.{Kept}
use Rattle.exec_blocks.specs.Standing.{AreIn, BlocksStand}
use Rattle.exec_control.specs.Position.{Position}
use Rattle.exec_control.specs.Stands.{ControlStands}
use Rattle.exec_control.specs.Stands as stands
use Rattle.exec_core.specs.declared.printed.Printed.{Printed}
use Rattle.exec_core.specs.declared.printed.Printed.TheVariants.{Nothing}
use Rattle.exec_core.specs.Locals.{IsOfLocals, OpMatches, OpOfLocals, op_changed}
use Rattle.exec_core.specs.Parts.{Parts}
use Rattle.exec_core.specs.Printing.{Does, Ends}
use Rattle.exec_core.specs.Stands.{LocalStands}

-- where such a statement comes next, the instruction is one of two
pub op_of_locals : (p : Tree) (rest : Rest) (i : Instruction) → Says p rest i → IsOfLocals (next_of rest) → OpOfLocals i.operation
op_of_locals p (Over at) i says is = absurd is
op_of_locals p (Next at line (Do index body) rest) i says is = absurd is
op_of_locals p (Next at line (DoIn sub index body) rest) i says is = absurd is
op_of_locals p (Next at line (Pardo indices wheres body) rest) i says is = absurd is
op_of_locals p (Next at line (If test body) rest) i says is = absurd is
op_of_locals p (Next at line (IfElse test body other) rest) i says is = absurd is
op_of_locals p (Next at line (Call procedure) rest) i says is = absurd is
op_of_locals p (Next at line (Assign target combining right) rest) i says is = absurd is
op_of_locals p (Next at line (Get block) rest) i says is = absurd is
op_of_locals p (Next at line (Request block) rest) i says is = absurd is
op_of_locals p (Next at line (Put block how from) rest) i says is = absurd is
op_of_locals p (Next at line (Prepare block how from) rest) i says is = absurd is
op_of_locals p (Next at line (Create array) rest) i says is = absurd is
op_of_locals p (Next at line (Delete array) rest) i says is = absurd is
op_of_locals p (Next at line (Allocate array slots) rest) i says is = subst (λ (j : Instruction). OpOfLocals j.operation) (sym says.is) tt
op_of_locals p (Next at line (Deallocate array slots) rest) i says is = subst (λ (j : Instruction). OpOfLocals j.operation) (sym says.is) tt
op_of_locals p (Next at line (Collective into from) rest) i says is = absurd is
op_of_locals p (Next at line SipBarrier rest) i says is = absurd is
op_of_locals p (Next at line ServerBarrier rest) i says is = absurd is
op_of_locals p (Next at line (Print text) rest) i says is = absurd is
op_of_locals p (Next at line (PrintScalar scalar) rest) i says is = absurd is
op_of_locals p (Next at line (Integrals block) rest) i says is = absurd is
op_of_locals p (Turn loop last rest) i says is = absurd is
op_of_locals p (Join at rest) i says is = absurd is
op_of_locals p (Back at values rest) i says is = absurd is
op_of_locals p (Within pardo number rest) i says is = absurd is

-- what holds of both statements holds of whatever comes next where one of these instructions stands
pub of_either : (P : Rest → Operation → Type 0) (p : Tree) (rest : Rest) (line : ℕ) (o : Operation) → OpOfLocals o → ItemOf p rest line o
    → ((at array : ℕ) (slots : List Slot) (more : Rest) → P (Next at line (Allocate array slots) more) (op.Allocate array slots))
    → ((at array : ℕ) (slots : List Slot) (more : Rest) → P (Next at line (Deallocate array slots) more) (op.Deallocate array slots)) → P rest o
of_either P p rest line op.Stop is item one other = absurd is
of_either P p rest line op.Return is item one other = absurd is
of_either P p rest line (op.Do index past) is item one other = absurd is
of_either P p rest line (op.DoIn sub index past) is item one other = absurd is
of_either P p rest line (op.EndDo head) is item one other = absurd is
of_either P p rest line (op.If cond otherwise) is item one other = absurd is
of_either P p rest line (op.Else past) is item one other = absurd is
of_either P p rest line op.EndIf is item one other = absurd is
of_either P p rest line (op.Pardo indices end_at) is item one other = absurd is
of_either P p rest line (op.Where cond) is item one other = absurd is
of_either P p rest line (op.EndPardo head) is item one other = absurd is
of_either P p rest line (op.Call procedure entry) is item one other = absurd is
of_either P p rest line (op.Assign target combining right) is item one other = absurd is
of_either P p rest line (op.Get block) is item one other = absurd is
of_either P p rest line (op.Request block) is item one other = absurd is
of_either P p rest line (op.Put block how from) is item one other = absurd is
of_either P p rest line (op.Prepare block how from) is item one other = absurd is
of_either P p rest line (op.Create array) is item one other = absurd is
of_either P p rest line (op.Delete array) is item one other = absurd is
of_either P p rest line (op.Allocate array slots) is item one other = subst (λ r. P r (op.Allocate array slots)) (sym item.next.is) (one (place rest) array slots item.more)
of_either P p rest line (op.Deallocate array slots) is item one other = subst (λ r. P r (op.Deallocate array slots)) (sym item.next.is) (other (place rest) array slots item.more)
of_either P p rest line (op.Collective into from) is item one other = absurd is
of_either P p rest line op.SipBarrier is item one other = absurd is
of_either P p rest line op.ServerBarrier is item one other = absurd is
of_either P p rest line (op.Print text) is item one other = absurd is
of_either P p rest line (op.PrintScalar scalar) is item one other = absurd is
of_either P p rest line (op.Integrals block) is item one other = absurd is

-- the slots of one that is good match blocks of its array
pub locals_match : (g : Setting) → IsSound g → (bound values : List ℕ) (rest : Rest) (line : ℕ) (o : Operation) → InRange g bound values → GoodRest g bound rest → OpOfLocals o → ItemOf g.program rest line o → OpMatches g values o
locals_match g sound bound values rest line o in-range good is item =
    of_either (λ r q. GoodRest g bound r → OpMatches g values q) g.program rest line o is item
    (λ at array slots more here. record {
      kind = kind-one (array_kind g array) Local (holds-so (has_kind g.program Local array) (array-right g (record { line = line; form = Allocate array slots; bound = bound; within = here.0 }) here.1));
      fits = allocate-fits g values bound line here.0 array slots sound in-range here.1;
    })
    (λ at array slots more here. record {
      kind = kind-one (array_kind g array) Local (holds-so (has_kind g.program Local array) (array-right g (record { line = line; form = Deallocate array slots; bound = bound; within = here.0 }) here.1));
      fits = deallocate-fits g values bound line here.0 array slots sound in-range here.1;
    })
    good

-- a worker holds the same apart from blocks
record SameBeside (own held : Own) : Type 0 where
  values : held.values ≡ own.values
  scalars : held.scalars ≡ own.scalars
  created : held.created ≡ own.created

-- a statement that prints nothing and changes blocks alone
abbrev ChangesBlocks : Own → (partials : List ℕ) → Answer Done → Type 0
ChangesBlocks own partials (Ok done) = SameBeside own done.own × (done.partials ≡ partials) × (done.printed ≡ [])
ChangesBlocks own partials (Err kind) = Unit {0}

all_allocated_beside : (g : Setting) (array : ℕ) (numbers : List ℕ) (own : Own) → SameBeside own (all_allocated g array numbers own)
all_allocated_beside g array [] own = record { values = refl; scalars = refl; created = refl }
all_allocated_beside g array (n ∷ ns) own = let rest = all_allocated_beside g array ns _ in record { values = rest.values; scalars = rest.scalars; created = rest.created }

all_deallocated_beside : (array : ℕ) (numbers : List ℕ) (own : Own) → SameBeside own (all_deallocated array numbers own)
all_deallocated_beside array [] own = record { values = refl; scalars = refl; created = refl }
all_deallocated_beside array (n ∷ ns) own = let rest = all_deallocated_beside array ns _ in record { values = rest.values; scalars = rest.scalars; created = rest.created }

unless_beside : (own held : Own) (partials : List ℕ) (kind : TrapKind) (trapped : Bool) → SameBeside own held → ChangesBlocks own partials (if trapped then Err kind else quiet held partials)
unless_beside own held partials kind true same = tt
unless_beside own held partials kind false same = (same, refl, refl)

allocated_beside : (g : Setting) (array : ℕ) (numbers : List ℕ) (own : Own) (partials : List ℕ) → ChangesBlocks own partials (allocated g array numbers own partials)
allocated_beside g array numbers own partials = unless_beside own (all_allocated g array numbers own) partials LocalTwice (list_any (is_allocated own array) numbers) (all_allocated_beside g array numbers own)

deallocated_beside : (array : ℕ) (numbers : List ℕ) (own : Own) (partials : List ℕ) → ChangesBlocks own partials (deallocated array numbers own partials)
deallocated_beside array numbers own partials = unless_beside own (all_deallocated array numbers own) partials LocalMissing (list_any (λ n. not (is_allocated own array n)) numbers) (all_deallocated_beside array numbers own)

-- past a statement that changed blocks alone, or its trap
module _ (g : Setting) (old new : Memory) (l : Parts) (c : Position) (k : Kept) (line : ℕ) (own : Own) (partials : List ℕ) (done : Result (Unit {0}) TrapKind) (result : Result Printed Trap)
    (seated : AreIn g new k) (ok : done ≡ Ok tt → result ≡ Ok Nothing) (err : IfErr done (λ kind. (c ≡ l.control) × (result ≡ Err (trap_at line kind)))) (kept : IfErr done (λ kind. k ≡ l.blocks)) where
  ends_by : (rest more : Rest) (answer : Answer Done) (gives : Result (Unit {0}) TrapKind) → gives ≡ done → LocalStands g old l rest own partials → ChangesBlocks own partials answer → Answers answer (BlocksStand g new k) gives
      → (done ≡ Ok tt → (held : Own) → held.values ≡ own.values → ControlStands g c more held) → Ends g new l (record l { control = c; blocks = k }) line more answer result
  ends_by rest more (Ok d) (Ok x) is st beside answers passes =
      subst (λ (r : Result Printed Trap). Ends g new l (record l { control = c; blocks = k }) line more (Ok d) r) (sym (ok (sym is))) (
        record {
          control = passes (sym is) d.own beside.0.values;
          scalars = record { scalars = st.scalars.scalars ∙ sym beside.0.scalars; partials_are = st.scalars.partials_are ∙ sym beside.1 };
          seated = seated;
          blocks = answers;
          created = st.created ∙ sym beside.0.created;
        },
        sym beside.2,
      )
  ends_by rest more (Ok d) (Err kind) is st beside answers passes = absurd answers
  ends_by rest more (Err kind) (Ok x) is st beside answers passes = absurd answers
  ends_by rest more (Err kind) (Err trap) is st beside answers passes =
      let stopped = subst (λ (d : Result (Unit {0}) TrapKind). IfErr d (λ t. (c ≡ l.control) × (result ≡ Err (trap_at line t)))) (sym is) err in
      let same = subst (λ (d : Result (Unit {0}) TrapKind). IfErr d (λ t. k ≡ l.blocks)) (sym is) kept in
      subst (λ (r : Result Printed Trap). Ends g new l (record l { control = c; blocks = k }) line more (Err kind) r) (sym stopped.1)
      (ap (trap_at line) answers, ap (λ (q : Position). record l { control = q; blocks = k }) stopped.0 ∙ ap (λ (q : Kept). record l { blocks = q }) same)

  -- so it is with both statements
  pub locals_changed : (values : List (List ℕ)) (rest : Rest) (o : Operation) → OpOfLocals o → ItemOf g.program rest line o → LocalStands g old l rest own partials → Answers (op_changed g o own partials) (BlocksStand g new k) done
      → (done ≡ Ok tt → (held : Own) → held.values ≡ own.values → stands.Passes g c held (next_of rest)) → Does g new l (record l { control = c; blocks = k }) own partials values result (next_of rest)
  locals_changed values rest o is item st answers passes =
      of_either (λ r q. LocalStands g old l r own partials → Answers (op_changed g q own partials) (BlocksStand g new k) done → (done ≡ Ok tt → (held : Own) → held.values ≡ own.values → stands.Passes g c held (next_of r))
      → Does g new l (record l { control = c; blocks = k }) own partials values result (next_of r)) g.program rest line o is item
      (λ at array slots more here made goes. ends_by _ more (allocated g array (matched g own array slots) own partials) done refl here (allocated_beside g array (matched g own array slots) own partials) made goes)
      (λ at array slots more here made goes. ends_by _ more (deallocated array (matched g own array slots) own partials) done refl here (deallocated_beside array (matched g own array slots) own partials) made goes)
      st answers passes

-- what a trap left unchanged
pub left_unchanged : (done : Result (Unit {0}) TrapKind) (result : Result Printed Trap) (P : Type 0) → (done ≡ Ok tt → result ≡ Ok Nothing) → OnErr done P → OnErr result P
left_unchanged (Ok x) result P ok held = subst (λ (r : Result Printed Trap). OnErr r P) (sym (ok refl)) tt
left_unchanged (Err kind) (Ok printed) P ok held = tt
left_unchanged (Err kind) (Err trap) P ok held = held
