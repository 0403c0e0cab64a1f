-- Each step goes where the instruction at the cursor leads.
use Rattle.std.proofs.Common.{inl, inr, ◌∙◌, ◌≡◌, ℕ, zero, suc, ◌+◌, List, [], ◌∷◌, ◌++◌, length, Bool, true, false, nat_lt, Ok, Err, refl, ap, sym, subst}
use Rattle.sial_syntax.specs.declared.condition.Cond.{Cond}
use Rattle.sial_syntax.specs.Boxes.{volume, tuple_at}
use Rattle.sial_syntax.specs.Numbering.{size, sizes, entry_of}
use Rattle.sial_syntax.specs.Spaces.{first_of, count_of, box_of, pieces_of}
use Rattle.sial_syntax.specs.Tree.{Tree, Plain, Block, Do, DoIn, Pardo, If, IfElse, Call, Assign, Get, Request, Put, Prepare, Create, Delete, Allocate, Deallocate, Collective, SipBarrier, ServerBarrier, Print, PrintScalar, Integrals}
use Rattle.sial_meaning.specs.Control.{control, form_control, loop_at, entered, turned, branched, called, begun, went_within}
use Rattle.sial_meaning.specs.LocalStep.{Answer}
use Rattle.sial_meaning.specs.Meaning.{condition, all_met, taken_up, call_depth}
use Rattle.sial_meaning.specs.Own.{Own, value_of}
use Rattle.sial_meaning.specs.Rest.{LoopAt, PardoAt, Rest, Over, Next, Turn, Join, Back, Within, place, push, depth}
use Rattle.sial_meaning.specs.Setting.{Setting, procedure_body}
use Rattle.sip_tables.specs.declared.instruction.Instruction.{Instruction}
use Rattle.sip_tables.specs.declared.instruction.Operation.TheVariants as op
use Rattle.code_places.specs.Follows.{Follows, LoopStands, PardoStands}
use Rattle.code_places.proofs.ControlLemmas.{loop_body}
use Rattle.code_places.proofs.HeadLemmas.{told}
use Rattle.code_places.proofs.Pushing.{place_push, returns_push}
use Rattle.sip_tables.specs.declared.instruction.Operation.{Operation}
use Rattle.code_places.specs.Follows.{Joins, return_places}
use Rattle.code_places.specs.Head.{Says, operation_of}
use Rattle.code_places.specs.Leads.{Cursor, cursor, moved_to, Leads, LeadsControl, ControlIsLed}

-- the cursor by its parts
cursor_is : (at n : ℕ) (before after : List ℕ) → n ≡ at → after ≡ before → ◌≡◌ {A = Cursor} (record { at = n; returns = after }) (record { at = at; returns = before })
cursor_is at n before after place_is returns_are = ap (λ (m : ℕ). record { at = m; returns = after }) place_is ∙ ap (λ (r : List ℕ). record { at = at; returns = r }) returns_are

-- the cursor at a body that was put before the rest
pushed : (at : ℕ) (body : Block) (rest : Rest) (from : Cursor) → place rest ≡ at + sizes body → return_places rest ≡ from.returns → cursor (push at body rest) ≡ moved_to at from
pushed at body rest from e r = cursor_is at (place (push at body rest)) from.returns (return_places (push at body rest)) (place_push at body rest e) (returns_push at body rest ∙ r)

-- the cursor at the rest itself
went : (at : ℕ) (rest : Rest) (from : Cursor) → place rest ≡ at → return_places rest ≡ from.returns → cursor rest ≡ moved_to at from
went at rest from e r = cursor_is at (place rest) from.returns (return_places rest) e r

entered_led : (p : Tree) (from : Cursor) (loop : LoopAt) (first count past : ℕ) (rest : Rest) (own : Own) → from.at ≡ loop.head → loop.at ≡ (loop.head + 1) + sizes loop.body → place rest ≡ past → return_places rest ≡ from.returns → LeadsControl p (op.Do loop.index past) from (entered loop first count rest own)
entered_led p from loop first zero past rest own at_is end_is e r = inr (went past rest from e r)
entered_led p from loop first (suc n) past rest own at_is end_is e r =
    inl (pushed (loop.head + 1) loop.body (Turn loop (first + n) rest) from end_is r ∙ ap (λ m. moved_to (m + 1) from) (sym at_is))

turned_led : (p : Tree) (more : Bool) (loop : LoopAt) (last : ℕ) (rest : Rest) (own : Own) → LoopStands p loop → place rest ≡ loop.at + 1 → LeadsControl p (op.EndDo loop.head) (cursor (Turn loop last rest)) (turned more loop last rest own)
turned_led p true loop last rest own s e = inl (pushed (loop.head + 1) loop.body (Turn loop last rest) (cursor (Turn loop last rest)) (loop_body p loop s).end_is refl)
turned_led p false loop last rest own s e = inr (went (loop.at + 1) rest (cursor (Turn loop last rest)) e refl)

branched_led : (p : Tree) (from : Cursor) (line : ℕ) (cond : Cond) (otherwise : ℕ) (answer : Answer Bool) (met unmet : Rest) (own : Own) → cursor met ≡ moved_to (from.at + 1) from → cursor unmet ≡ moved_to otherwise from → LeadsControl p (op.If cond otherwise) from (branched line answer met unmet own)
branched_led p from line cond otherwise (Ok true) met unmet own first second = inl first
branched_led p from line cond otherwise (Ok false) met unmet own first second = inr second
branched_led p from line cond otherwise (Err kind) met unmet own first second = tt

called_led : (g : Setting) (more : Bool) (from : Cursor) (procedure : ℕ) (rest : Rest) (own : Own) → place rest ≡ from.at + 1 → return_places rest ≡ from.returns → LeadsControl g.program (op.Call procedure (entry_of g.program procedure)) from (called g more procedure rest own)
called_led g true from procedure rest own e r =
    let at = entry_of g.program procedure in
    let body = procedure_body g procedure in
    let back = Back (at + sizes body) own.values rest in
    inl (cursor_is at (place (push at body back)) (from.returns ++ (from.at + 1) ∷ []) (return_places (push at body back)) (place_push at body back refl) (returns_push at body back ∙ (ap (λ n. return_places rest ++ n ∷ []) e ∙ ap (λ (l : List ℕ). l ++ (from.at + 1) ∷ []) r)))
called_led g false from procedure rest own e r = inr (went (from.at + 1) rest from e r)

begun_led : (p : Tree) (met : Bool) (from : Cursor) (pardo : PardoAt) (number : ℕ) (rest : Rest) (own : Own) → PardoStands p pardo → from.at ≡ pardo.at → return_places rest ≡ from.returns → LeadsControl p (op.EndPardo pardo.head) from (begun met pardo number rest own)
begun_led p true from pardo number rest own s at_is r =
    let end_is : pardo.at ≡ pardo.head + 1 + length pardo.wheres + sizes pardo.body = ap (λ (x : PardoAt). x.at) s.is_pardo in
    inl (record { pardo = pardo; stands = s; head_is = refl; to_is = pushed (pardo.head + 1 + length pardo.wheres) pardo.body (Within pardo (number + 1) rest) from end_is r })
begun_led p false from pardo number rest own s at_is r = inr (inl (went from.at (Within pardo (number + 1) rest) from (sym at_is) r))

within_led : (g : Setting) (more : Bool) (from : Cursor) (pardo : PardoAt) (number : ℕ) (rest : Rest) (own : Own) → PardoStands g.program pardo → from.at ≡ pardo.at → place rest ≡ pardo.at + 1 → return_places rest ≡ from.returns → LeadsControl g.program (op.EndPardo pardo.head) from (went_within g more pardo number rest own)
within_led g true from pardo number rest own s at_is e r =
    let held = taken_up g pardo.indices (tuple_at (box_of g.spaces pardo.indices) number) own in
    begun_led g.program (all_met held pardo.wheres) from pardo number rest held s at_is r
within_led g false from pardo number rest own s at_is e r = inr (inr (went (from.at + 1) rest from (e ∙ ap (λ m. m + 1) (sym at_is)) r))

form_led : (g : Setting) (at line text : ℕ) (form : Plain) (rest : Rest) (own : Own) → place rest ≡ at + size form → LeadsControl g.program (operation_of g.program at text form) (cursor (Next at line form rest)) (form_control g at line form rest own)
form_led g at line text (Do index body) rest own e = entered_led g.program (cursor (Next at line (Do index body) rest)) (loop_at at index body) (first_of g.spaces index) (count_of g.spaces index) (at + size (Do index body)) rest own refl refl e refl
form_led g at line text (DoIn sub index body) rest own e = entered_led g.program (cursor (Next at line (DoIn sub index body) rest)) (loop_at at sub body) 1 (pieces_of g.spaces sub (value_of own index)) (at + size (DoIn sub index body)) rest own refl refl e refl
form_led g at line text (Pardo indices wheres body) rest own e = refl
form_led g at line text (If test body) rest own e =
    let join = Join (at + 1 + sizes body) rest in
    let from = cursor (Next at line (If test body) rest) in
    branched_led g.program from line test (at + size (If test body)) (condition own test) (push (at + 1) body join) rest own (pushed (at + 1) body join from refl refl) (went (at + size (If test body)) rest from e refl)
form_led g at line text (IfElse test body other) rest own e =
    let join = Join (at + 1 + sizes body) rest in
    let other_join = Join (at + 2 + sizes body + sizes other) rest in
    let from = cursor (Next at line (IfElse test body other) rest) in
    branched_led g.program from line test (at + 2 + sizes body) (condition own test) (push (at + 1) body join) (push (at + 2 + sizes body) other other_join) own (pushed (at + 1) body join from refl refl) (pushed (at + 2 + sizes body) other other_join from refl refl)
form_led g at line text (Call procedure) rest own e = called_led g (nat_lt (depth rest) call_depth) (cursor (Next at line (Call procedure) rest)) procedure rest own e refl
form_led g at line text (Assign target combining right) rest own e = went (at + 1) rest (cursor (Next at line (Assign target combining right) rest)) e refl
form_led g at line text (Get block) rest own e = went (at + 1) rest (cursor (Next at line (Get block) rest)) e refl
form_led g at line text (Request block) rest own e = went (at + 1) rest (cursor (Next at line (Request block) rest)) e refl
form_led g at line text (Put block how from) rest own e = went (at + 1) rest (cursor (Next at line (Put block how from) rest)) e refl
form_led g at line text (Prepare block how from) rest own e = went (at + 1) rest (cursor (Next at line (Prepare block how from) rest)) e refl
form_led g at line text (Create array) rest own e = went (at + 1) rest (cursor (Next at line (Create array) rest)) e refl
form_led g at line text (Delete array) rest own e = went (at + 1) rest (cursor (Next at line (Delete array) rest)) e refl
form_led g at line text (Allocate array slots) rest own e = went (at + 1) rest (cursor (Next at line (Allocate array slots) rest)) e refl
form_led g at line text (Deallocate array slots) rest own e = went (at + 1) rest (cursor (Next at line (Deallocate array slots) rest)) e refl
form_led g at line text (Collective into from) rest own e = went (at + 1) rest (cursor (Next at line (Collective into from) rest)) e refl
form_led g at line text SipBarrier rest own e = went (at + 1) rest (cursor (Next at line SipBarrier rest)) e refl
form_led g at line text ServerBarrier rest own e = went (at + 1) rest (cursor (Next at line ServerBarrier rest)) e refl
form_led g at line text (Print printed) rest own e = went (at + 1) rest (cursor (Next at line (Print printed) rest)) e refl
form_led g at line text (PrintScalar scalar) rest own e = went (at + 1) rest (cursor (Next at line (PrintScalar scalar) rest)) e refl
form_led g at line text (Integrals block) rest own e = went (at + 1) rest (cursor (Next at line (Integrals block) rest)) e refl

joined_led : (p : Tree) (at : ℕ) (operation : Operation) (rest : Rest) → Joins operation at (place rest) → Leads p operation (cursor (Join at rest)) (cursor rest)
joined_led p at (op.Else past) rest joins = went past rest (cursor (Join at rest)) joins refl
joined_led p at op.EndIf rest joins = went (at + 1) rest (cursor (Join at rest)) joins refl
joined_led p at operation rest joins = absurd joins

said_led : (g : Setting) (rest : Rest) (own : Own) (i : Instruction) → Follows g.program rest → Says g.program rest i → LeadsControl g.program i.operation (cursor rest) (control g rest own)
said_led g (Over at) own i follows said = subst (λ (j : Instruction). LeadsControl g.program j.operation (cursor (Over at)) (control g (Over at) own)) (sym said) refl
said_led g (Next at line form rest) own i follows said =
    subst (λ (j : Instruction). LeadsControl g.program j.operation (cursor (Next at line form rest)) (control g (Next at line form rest) own)) (sym said.is) (form_led g at line said.text form rest own follows.1)
said_led g (Turn loop last rest) own i follows said =
    subst (λ (o : Operation). LeadsControl g.program o (cursor (Turn loop last rest)) (control g (Turn loop last rest) own)) (sym said) (turned_led g.program (nat_lt (value_of own loop.index) last) loop last rest own follows.0 follows.1)
said_led g (Join at rest) own i follows said = joined_led g.program at i.operation rest said
said_led g (Back at values rest) own i follows said = subst (λ (j : Instruction). LeadsControl g.program j.operation (cursor (Back at values rest)) (control g (Back at values rest) own)) (sym said) refl
said_led g (Within pardo number rest) own i follows said =
    subst (λ (o : Operation). LeadsControl g.program o (cursor (Within pardo number rest)) (control g (Within pardo number rest) own)) (sym said) (within_led g (nat_lt number (volume (box_of g.spaces pardo.indices))) (cursor (Within pardo number rest)) pardo number rest own follows.0 refl follows.1 refl)

pub control_is_led : ControlIsLed
control_is_led g rest own i proper follows has = said_led g rest own i follows (told g.program rest i proper follows has)
