-- What the instruction at the cursor sends or prints is what the statement does that comes next.
use Rattle.std.proofs.Common.{◌≡◌, ℕ, ◌<◌, inl, inr, List, ◌++◌, Bool, true, ◌&&◌, nat_lt, length, Some, refl, sym, ap, subst, arith}
use Rattle.std.proofs.lemmas.Bool.Decides.{nat_tests}
use Rattle.std.specs.Prelude.{IfSome, flat_map}
use Rattle.std.specs.List.{list_all}
use Rattle.sial_syntax.specs.declared.access.Access.{Access}
use Rattle.sial_syntax.specs.declared.operand.BlockRef.{BlockRef}
use Rattle.sial_syntax.specs.Agreeing.{all_in}
use Rattle.sial_syntax.specs.Limits.{most_rank}
use Rattle.sial_syntax.specs.Parts.{blocks_named, condition_indices, conditions, indices_used, slot_index, slots_named}
use Rattle.sial_syntax.specs.Proper.{has_array, has_index, has_length, is_write, proper_block}
use Rattle.sial_syntax.specs.Tree.{Plain, Do, DoIn, Pardo, If, IfElse, Call, Assign, Get, Request, Put, Prepare, Create, Delete, Allocate, Deallocate, Collective, SipBarrier, ServerBarrier, Print, PrintScalar, Integrals}
use Rattle.sial_syntax.specs.Visits.{Visit}
use Rattle.sial_syntax.proofs.AmongLemmas.{Among}
use Rattle.sial_meaning.specs.Next.{next_of}
use Rattle.sial_meaning.specs.Own.{Own}
use Rattle.sial_meaning.specs.Rest.{Rest, Over, Next, Turn, Join, Back, Within, place}
use Rattle.sial_meaning.specs.Setting.{Setting}
use Rattle.sial_meaning.specs.Sound.{IsSound}
use Rattle.sial_meaning.proofs.AcceptedInOtherWords.Pairs.{first-holds, second-holds, holds-so}
use Rattle.sial_meaning.proofs.Granted.Ranges.{InRange}
use Rattle.sial_meaning.proofs.Granted.Visits.{Good}
use Rattle.sial_meaning.proofs.StatesAreWhole.Rest.{GoodRest}
use Rattle.sial_meaning.proofs.WritesFitTheirBlocks.Blocks.{fit-named, front-in}
use Rattle.sip_tables.specs.declared.instruction.Instruction.{Instruction}
use Rattle.sip_tables.specs.declared.instruction.Operation.{Operation}
use Rattle.sip_tables.specs.declared.instruction.Operation.TheVariants as op
use Rattle.code_places.specs.Head.{Says}
use Rattle.exec_blocks.specs.Standing.{IsNamed}
use Rattle.exec_blocks.proofs.NamedLemmas.{named-is}
use Rattle.exec_core.specs.Instructions.{op_sending, op_sent}
use Rattle.exec_core.specs.Printing.{IsPrinting}
use Rattle.exec_core.specs.Sending.{sending, sent_next}
use Rattle.exec_core.proofs.InstructionLemmas.{joins_are}

-- a block of a good statement whose array is declared
named_good : (g : Setting) → IsSound g → (line : ℕ) (bound held : List ℕ) (within : Bool) (form : Plain) (b : BlockRef) → InRange g bound held → Good g (record { line = line; form = form; bound = bound; within = within })
    → all_in (flat_map (λ (x : BlockRef). x.at) (blocks_named form) ++ (flat_map slot_index (slots_named form) ++ flat_map condition_indices (conditions form))) bound ≡ true → Among b (blocks_named form) → proper_block g.program b ≡ true
    → IsNamed g held b
named_good g sound line bound held within form b in-range good used at proper =
    let v : Visit = record { line = line; form = form; bound = bound; within = within } in
    let mine = (front-in (flat_map (λ (x : BlockRef). x.at) (blocks_named form)) (flat_map slot_index (slots_named form) ++ flat_map condition_indices (conditions form)) bound used).0 in
    named-is g bound held b sound in-range (fit-named g v bound b good mine at)
    (below b.array (length g.program.arrays) (first-holds (has_array g.program b.array) (has_length most_rank b.at && list_all (has_index g.program) b.at) proper))
  where
    below : (a n : ℕ) → nat_lt a n ≡ true → a < n
    below a n is = grind (arith, nat_tests)

-- the source of `put`
put_source : (g : Setting) → IsSound g → (line : ℕ) (bound held : List ℕ) (within : Bool) (block : BlockRef) (how : Access) (from : BlockRef) → InRange g bound held
    → Good g (record { line = line; form = Put block how from; bound = bound; within = within }) → IsNamed g held from
put_source g sound line bound held within block how from in-range good =
    named_good g sound line bound held within (Put block how from) from in-range good (holds-so (all_in (indices_used (Put block how from)) bound) good.unbound) (inr (inl refl))
    (second-holds (is_write how) (proper_block g.program from) (second-holds (proper_block g.program block) (is_write how && proper_block g.program from) good.proper))

-- that of `prepare`
prepare_source : (g : Setting) → IsSound g → (line : ℕ) (bound held : List ℕ) (within : Bool) (block : BlockRef) (how : Access) (from : BlockRef) → InRange g bound held
    → Good g (record { line = line; form = Prepare block how from; bound = bound; within = within }) → IsNamed g held from
prepare_source g sound line bound held within block how from in-range good =
    named_good g sound line bound held within (Prepare block how from) from in-range good (holds-so (all_in (indices_used (Prepare block how from)) bound) good.unbound) (inr (inl refl))
    (second-holds (is_write how) (proper_block g.program from) (second-holds (proper_block g.program block) (is_write how && proper_block g.program from) good.proper))

-- what comes next sends what the instruction does
pub sending_told : (g : Setting) (rest : Rest) (i : Instruction) (own : Own) → Says g.program rest i → sending g (next_of rest) own ≡ op_sending g i.line i.operation own
sending_told g (Over at) i own says = sym (ap (λ (j : Instruction). op_sending g j.line j.operation own) says)
sending_told g (Next at line (Do index body) rest) i own says = sym (ap (λ (j : Instruction). op_sending g j.line j.operation own) says.is)
sending_told g (Next at line (DoIn sub index body) rest) i own says = sym (ap (λ (j : Instruction). op_sending g j.line j.operation own) says.is)
sending_told g (Next at line (Pardo indices wheres body) rest) i own says = sym (ap (λ (j : Instruction). op_sending g j.line j.operation own) says.is)
sending_told g (Next at line (If test body) rest) i own says = sym (ap (λ (j : Instruction). op_sending g j.line j.operation own) says.is)
sending_told g (Next at line (IfElse test body other) rest) i own says = sym (ap (λ (j : Instruction). op_sending g j.line j.operation own) says.is)
sending_told g (Next at line (Call procedure) rest) i own says = sym (ap (λ (j : Instruction). op_sending g j.line j.operation own) says.is)
sending_told g (Next at line (Assign target combining right) rest) i own says = sym (ap (λ (j : Instruction). op_sending g j.line j.operation own) says.is)
sending_told g (Next at line (Get block) rest) i own says = sym (ap (λ (j : Instruction). op_sending g j.line j.operation own) says.is)
sending_told g (Next at line (Request block) rest) i own says = sym (ap (λ (j : Instruction). op_sending g j.line j.operation own) says.is)
sending_told g (Next at line (Put block how from) rest) i own says = sym (ap (λ (j : Instruction). op_sending g j.line j.operation own) says.is)
sending_told g (Next at line (Prepare block how from) rest) i own says = sym (ap (λ (j : Instruction). op_sending g j.line j.operation own) says.is)
sending_told g (Next at line (Create array) rest) i own says = sym (ap (λ (j : Instruction). op_sending g j.line j.operation own) says.is)
sending_told g (Next at line (Delete array) rest) i own says = sym (ap (λ (j : Instruction). op_sending g j.line j.operation own) says.is)
sending_told g (Next at line (Allocate array slots) rest) i own says = sym (ap (λ (j : Instruction). op_sending g j.line j.operation own) says.is)
sending_told g (Next at line (Deallocate array slots) rest) i own says = sym (ap (λ (j : Instruction). op_sending g j.line j.operation own) says.is)
sending_told g (Next at line (Collective into from) rest) i own says = sym (ap (λ (j : Instruction). op_sending g j.line j.operation own) says.is)
sending_told g (Next at line SipBarrier rest) i own says = sym (ap (λ (j : Instruction). op_sending g j.line j.operation own) says.is)
sending_told g (Next at line ServerBarrier rest) i own says = sym (ap (λ (j : Instruction). op_sending g j.line j.operation own) says.is)
sending_told g (Next at line (Print text) rest) i own says = sym (ap (λ (j : Instruction). op_sending g j.line j.operation own) says.is)
sending_told g (Next at line (PrintScalar scalar) rest) i own says = sym (ap (λ (j : Instruction). op_sending g j.line j.operation own) says.is)
sending_told g (Next at line (Integrals block) rest) i own says = sym (ap (λ (j : Instruction). op_sending g j.line j.operation own) says.is)
sending_told g (Turn loop last rest) i own says = sym (ap (λ (o : Operation). op_sending g i.line o own) says)
sending_told g (Join at rest) i own says = joins_are (λ (o : Operation). sending g (next_of (Join at rest)) own ≡ op_sending g i.line o own) i.operation at (place rest) says (λ past. refl) refl
sending_told g (Back at values rest) i own says = sym (ap (λ (j : Instruction). op_sending g j.line j.operation own) says)
sending_told g (Within pardo number rest) i own says = sym (ap (λ (o : Operation). op_sending g i.line o own) says)

-- so it is with the block that is sent
pub sent_told : (g : Setting) (rest : Rest) (i : Instruction) → Says g.program rest i → sent_next (next_of rest) ≡ op_sent i.operation
sent_told g (Over at) i says = sym (ap (λ (j : Instruction). op_sent j.operation) says)
sent_told g (Next at line (Do index body) rest) i says = sym (ap (λ (j : Instruction). op_sent j.operation) says.is)
sent_told g (Next at line (DoIn sub index body) rest) i says = sym (ap (λ (j : Instruction). op_sent j.operation) says.is)
sent_told g (Next at line (Pardo indices wheres body) rest) i says = sym (ap (λ (j : Instruction). op_sent j.operation) says.is)
sent_told g (Next at line (If test body) rest) i says = sym (ap (λ (j : Instruction). op_sent j.operation) says.is)
sent_told g (Next at line (IfElse test body other) rest) i says = sym (ap (λ (j : Instruction). op_sent j.operation) says.is)
sent_told g (Next at line (Call procedure) rest) i says = sym (ap (λ (j : Instruction). op_sent j.operation) says.is)
sent_told g (Next at line (Assign target combining right) rest) i says = sym (ap (λ (j : Instruction). op_sent j.operation) says.is)
sent_told g (Next at line (Get block) rest) i says = sym (ap (λ (j : Instruction). op_sent j.operation) says.is)
sent_told g (Next at line (Request block) rest) i says = sym (ap (λ (j : Instruction). op_sent j.operation) says.is)
sent_told g (Next at line (Put block how from) rest) i says = sym (ap (λ (j : Instruction). op_sent j.operation) says.is)
sent_told g (Next at line (Prepare block how from) rest) i says = sym (ap (λ (j : Instruction). op_sent j.operation) says.is)
sent_told g (Next at line (Create array) rest) i says = sym (ap (λ (j : Instruction). op_sent j.operation) says.is)
sent_told g (Next at line (Delete array) rest) i says = sym (ap (λ (j : Instruction). op_sent j.operation) says.is)
sent_told g (Next at line (Allocate array slots) rest) i says = sym (ap (λ (j : Instruction). op_sent j.operation) says.is)
sent_told g (Next at line (Deallocate array slots) rest) i says = sym (ap (λ (j : Instruction). op_sent j.operation) says.is)
sent_told g (Next at line (Collective into from) rest) i says = sym (ap (λ (j : Instruction). op_sent j.operation) says.is)
sent_told g (Next at line SipBarrier rest) i says = sym (ap (λ (j : Instruction). op_sent j.operation) says.is)
sent_told g (Next at line ServerBarrier rest) i says = sym (ap (λ (j : Instruction). op_sent j.operation) says.is)
sent_told g (Next at line (Print text) rest) i says = sym (ap (λ (j : Instruction). op_sent j.operation) says.is)
sent_told g (Next at line (PrintScalar scalar) rest) i says = sym (ap (λ (j : Instruction). op_sent j.operation) says.is)
sent_told g (Next at line (Integrals block) rest) i says = sym (ap (λ (j : Instruction). op_sent j.operation) says.is)
sent_told g (Turn loop last rest) i says = sym (ap (λ (o : Operation). op_sent o) says)
sent_told g (Join at rest) i says = joins_are (λ (o : Operation). sent_next (next_of (Join at rest)) ≡ op_sent o) i.operation at (place rest) says (λ past. refl) refl
sent_told g (Back at values rest) i says = sym (ap (λ (j : Instruction). op_sent j.operation) says)
sent_told g (Within pardo number rest) i says = sym (ap (λ (o : Operation). op_sent o) says)

-- the block that it sends is one of its array
pub sent_named : (g : Setting) → IsSound g → (bound held : List ℕ) (rest : Rest) (i : Instruction) → InRange g bound held → GoodRest g bound rest → Says g.program rest i → IfSome (op_sent i.operation) (IsNamed g held)
sent_named g sound bound held (Over at) i in-range good says = subst (λ (j : Instruction). IfSome (op_sent j.operation) (IsNamed g held)) (sym says) tt
sent_named g sound bound held (Next at line (Do index body) rest) i in-range good says = subst (λ (j : Instruction). IfSome (op_sent j.operation) (IsNamed g held)) (sym says.is) tt
sent_named g sound bound held (Next at line (DoIn sub index body) rest) i in-range good says = subst (λ (j : Instruction). IfSome (op_sent j.operation) (IsNamed g held)) (sym says.is) tt
sent_named g sound bound held (Next at line (Pardo indices wheres body) rest) i in-range good says = subst (λ (j : Instruction). IfSome (op_sent j.operation) (IsNamed g held)) (sym says.is) tt
sent_named g sound bound held (Next at line (If test body) rest) i in-range good says = subst (λ (j : Instruction). IfSome (op_sent j.operation) (IsNamed g held)) (sym says.is) tt
sent_named g sound bound held (Next at line (IfElse test body other) rest) i in-range good says = subst (λ (j : Instruction). IfSome (op_sent j.operation) (IsNamed g held)) (sym says.is) tt
sent_named g sound bound held (Next at line (Call procedure) rest) i in-range good says = subst (λ (j : Instruction). IfSome (op_sent j.operation) (IsNamed g held)) (sym says.is) tt
sent_named g sound bound held (Next at line (Assign target combining right) rest) i in-range good says = subst (λ (j : Instruction). IfSome (op_sent j.operation) (IsNamed g held)) (sym says.is) tt
sent_named g sound bound held (Next at line (Get block) rest) i in-range good says = subst (λ (j : Instruction). IfSome (op_sent j.operation) (IsNamed g held)) (sym says.is) tt
sent_named g sound bound held (Next at line (Request block) rest) i in-range good says = subst (λ (j : Instruction). IfSome (op_sent j.operation) (IsNamed g held)) (sym says.is) tt
sent_named g sound bound held (Next at line (Put block how from) rest) i in-range good says = subst (λ (j : Instruction). IfSome (op_sent j.operation) (IsNamed g held)) (sym says.is) (put_source g sound line bound held good.0 block how from in-range good.1)
sent_named g sound bound held (Next at line (Prepare block how from) rest) i in-range good says = subst (λ (j : Instruction). IfSome (op_sent j.operation) (IsNamed g held)) (sym says.is) (prepare_source g sound line bound held good.0 block how from in-range good.1)
sent_named g sound bound held (Next at line (Create array) rest) i in-range good says = subst (λ (j : Instruction). IfSome (op_sent j.operation) (IsNamed g held)) (sym says.is) tt
sent_named g sound bound held (Next at line (Delete array) rest) i in-range good says = subst (λ (j : Instruction). IfSome (op_sent j.operation) (IsNamed g held)) (sym says.is) tt
sent_named g sound bound held (Next at line (Allocate array slots) rest) i in-range good says = subst (λ (j : Instruction). IfSome (op_sent j.operation) (IsNamed g held)) (sym says.is) tt
sent_named g sound bound held (Next at line (Deallocate array slots) rest) i in-range good says = subst (λ (j : Instruction). IfSome (op_sent j.operation) (IsNamed g held)) (sym says.is) tt
sent_named g sound bound held (Next at line (Collective into from) rest) i in-range good says = subst (λ (j : Instruction). IfSome (op_sent j.operation) (IsNamed g held)) (sym says.is) tt
sent_named g sound bound held (Next at line SipBarrier rest) i in-range good says = subst (λ (j : Instruction). IfSome (op_sent j.operation) (IsNamed g held)) (sym says.is) tt
sent_named g sound bound held (Next at line ServerBarrier rest) i in-range good says = subst (λ (j : Instruction). IfSome (op_sent j.operation) (IsNamed g held)) (sym says.is) tt
sent_named g sound bound held (Next at line (Print text) rest) i in-range good says = subst (λ (j : Instruction). IfSome (op_sent j.operation) (IsNamed g held)) (sym says.is) tt
sent_named g sound bound held (Next at line (PrintScalar scalar) rest) i in-range good says = subst (λ (j : Instruction). IfSome (op_sent j.operation) (IsNamed g held)) (sym says.is) tt
sent_named g sound bound held (Next at line (Integrals block) rest) i in-range good says = subst (λ (j : Instruction). IfSome (op_sent j.operation) (IsNamed g held)) (sym says.is) tt
sent_named g sound bound held (Turn loop last rest) i in-range good says = subst (λ (o : Operation). IfSome (op_sent o) (IsNamed g held)) (sym says) tt
sent_named g sound bound held (Join at rest) i in-range good says = joins_are (λ (o : Operation). IfSome (op_sent o) (IsNamed g held)) i.operation at (place rest) says (λ past. tt) tt
sent_named g sound bound held (Back at values rest) i in-range good says = subst (λ (j : Instruction). IfSome (op_sent j.operation) (IsNamed g held)) (sym says) tt
sent_named g sound bound held (Within pardo number rest) i in-range good says = subst (λ (o : Operation). IfSome (op_sent o) (IsNamed g held)) (sym says) tt

-- no other instruction sends a block
pub sends_two : (o : Operation) (b : BlockRef) → op_sent o ≡ Some b → ((block : BlockRef) (how : Access) (from : BlockRef) → o ≡ op.Put block how from → ⊥) → ((block : BlockRef) (how : Access) (from : BlockRef) → o ≡ op.Prepare block how from → ⊥) → ⊥
sends_two op.Stop b is n1 n2 = absurd cc
sends_two op.Return b is n1 n2 = absurd cc
sends_two (op.Do index past) b is n1 n2 = absurd cc
sends_two (op.DoIn sub index past) b is n1 n2 = absurd cc
sends_two (op.EndDo head) b is n1 n2 = absurd cc
sends_two (op.If cond otherwise) b is n1 n2 = absurd cc
sends_two (op.Else past) b is n1 n2 = absurd cc
sends_two op.EndIf b is n1 n2 = absurd cc
sends_two (op.Pardo indices end_at) b is n1 n2 = absurd cc
sends_two (op.Where cond) b is n1 n2 = absurd cc
sends_two (op.EndPardo head) b is n1 n2 = absurd cc
sends_two (op.Call procedure entry) b is n1 n2 = absurd cc
sends_two (op.Assign target combining right) b is n1 n2 = absurd cc
sends_two (op.Get block) b is n1 n2 = absurd cc
sends_two (op.Request block) b is n1 n2 = absurd cc
sends_two (op.Put block how from) b is n1 n2 = n1 block how from refl
sends_two (op.Prepare block how from) b is n1 n2 = n2 block how from refl
sends_two (op.Create array) b is n1 n2 = absurd cc
sends_two (op.Delete array) b is n1 n2 = absurd cc
sends_two (op.Allocate array slots) b is n1 n2 = absurd cc
sends_two (op.Deallocate array slots) b is n1 n2 = absurd cc
sends_two (op.Collective into from) b is n1 n2 = absurd cc
sends_two op.SipBarrier b is n1 n2 = absurd cc
sends_two op.ServerBarrier b is n1 n2 = absurd cc
sends_two (op.Print text) b is n1 n2 = absurd cc
sends_two (op.PrintScalar scalar) b is n1 n2 = absurd cc
sends_two (op.Integrals block) b is n1 n2 = absurd cc

-- where a statement that prints comes next, the instruction is one of two
pub printing_told : (g : Setting) (rest : Rest) (i : Instruction) → Says g.program rest i → IsPrinting (next_of rest) → ((text : ℕ) → i.operation ≡ op.Print text → ⊥) → ((scalar : ℕ) → i.operation ≡ op.PrintScalar scalar → ⊥) → ⊥
printing_told g (Over at) i says prints n1 n2 = absurd prints
printing_told g (Next at line (Do index body) rest) i says prints n1 n2 = absurd prints
printing_told g (Next at line (DoIn sub index body) rest) i says prints n1 n2 = absurd prints
printing_told g (Next at line (Pardo indices wheres body) rest) i says prints n1 n2 = absurd prints
printing_told g (Next at line (If test body) rest) i says prints n1 n2 = absurd prints
printing_told g (Next at line (IfElse test body other) rest) i says prints n1 n2 = absurd prints
printing_told g (Next at line (Call procedure) rest) i says prints n1 n2 = absurd prints
printing_told g (Next at line (Assign target combining right) rest) i says prints n1 n2 = absurd prints
printing_told g (Next at line (Get block) rest) i says prints n1 n2 = absurd prints
printing_told g (Next at line (Request block) rest) i says prints n1 n2 = absurd prints
printing_told g (Next at line (Put block how from) rest) i says prints n1 n2 = absurd prints
printing_told g (Next at line (Prepare block how from) rest) i says prints n1 n2 = absurd prints
printing_told g (Next at line (Create array) rest) i says prints n1 n2 = absurd prints
printing_told g (Next at line (Delete array) rest) i says prints n1 n2 = absurd prints
printing_told g (Next at line (Allocate array slots) rest) i says prints n1 n2 = absurd prints
printing_told g (Next at line (Deallocate array slots) rest) i says prints n1 n2 = absurd prints
printing_told g (Next at line (Collective into from) rest) i says prints n1 n2 = absurd prints
printing_told g (Next at line SipBarrier rest) i says prints n1 n2 = absurd prints
printing_told g (Next at line ServerBarrier rest) i says prints n1 n2 = absurd prints
printing_told g (Next at line (Print text) rest) i says prints n1 n2 = n1 says.text (ap (λ (j : Instruction). j.operation) says.is)
printing_told g (Next at line (PrintScalar scalar) rest) i says prints n1 n2 = n2 scalar (ap (λ (j : Instruction). j.operation) says.is)
printing_told g (Next at line (Integrals block) rest) i says prints n1 n2 = absurd prints
printing_told g (Turn loop last rest) i says prints n1 n2 = absurd prints
printing_told g (Join at rest) i says prints n1 n2 = absurd prints
printing_told g (Back at values rest) i says prints n1 n2 = absurd prints
printing_told g (Within pardo number rest) i says prints n1 n2 = absurd prints
