-- Control keeps to the code.
use Rattle.std.proofs.Common.{◌≡◌, ℕ, zero, suc, ◌+◌, ◌<◌, List, [], ◌∷◌, ◌++◌, length, Bool, true, false, nat_lt, Ok, Err, refl, ap, sym, subst, arith, length-append, append_assoc}
use Rattle.std.proofs.lemmas.Bool.{ltb-true}
use Rattle.sial_syntax.specs.declared.condition.Cond.{Cond}
use Rattle.sial_syntax.specs.Boxes.{volume, tuple_at}
use Rattle.sial_syntax.specs.Numbering.{size, sizes, entry_of}
use Rattle.sial_syntax.specs.Proper.{IsProper}
use Rattle.sial_syntax.specs.Spaces.{first_of, count_of, box_of, pieces_of}
use Rattle.sial_syntax.specs.Tree.{Tree, Plain, Block, Do, DoIn, Pardo, If, IfElse, Call, Assign, Get, Request, Put, Prepare, Create, Delete, Allocate, Deallocate, Collective, SipBarrier, ServerBarrier, Print, PrintScalar, Integrals}
use Rattle.sial_meaning.specs.Control.{form_control, loop_at, entered, turned, branched, called, begun, went_within}
use Rattle.sial_meaning.specs.LocalStep.{Answer}
use Rattle.sial_meaning.specs.Meaning.{condition, all_met, taken_up, call_depth}
use Rattle.sial_meaning.specs.Own.{Own, value_of}
use Rattle.sial_meaning.specs.Rest.{LoopAt, PardoAt, Rest, Over, Next, Turn, Join, Back, Within, place, push, depth}
use Rattle.sial_meaning.specs.Setting.{Setting, procedure_body}
use Rattle.sip_tables.specs.Code.{instruction, alone, form_code, body_code, entries_of}
use Rattle.sip_tables.specs.declared.instruction.Instruction.{Instruction}
use Rattle.sip_tables.specs.declared.instruction.Operation.TheVariants as op
use Rattle.sip_tables.specs.Flatten.{flatten}
use Rattle.sip_tables.specs.Texts.{body_prints}
use Rattle.sip_tables.proofs.CodeLemmas.{length-body_code}
use Rattle.code_places.proofs.Bodies.{body_moved, do_body, do_in_body, pardo_body, if_body, met_body, unmet_body}
use Rattle.code_places.proofs.Pieces.{within, get_first}
use Rattle.code_places.proofs.Procedures.{procedures_follow}
use Rattle.code_places.proofs.Pushing.{follows_push}
use Rattle.code_places.specs.Follows.{Follows, IsLoop, LoopStands, PardoStands, BranchEnds}
use Rattle.code_places.specs.Standing.{FormStands, BodyStands}
use Rattle.code_places.specs.StepLaws.{LedFollows, ControlFollows}

-- the body of a loop in progress, and the place of the loop's end
pub record LoopBody (p : Tree) (loop : LoopAt) : Type 0 where
  pub body_stands : BodyStands p (loop.head + 1) loop.body
  pub end_is : loop.at ≡ (loop.head + 1) + sizes loop.body

pub loop_body : (p : Tree) (loop : LoopAt) → LoopStands p loop → LoopBody p loop
loop_body p loop s = by_form loop s.line s.form s.is_loop s.form_stands
  where
    from : (l : LoopAt) (index : ℕ) (body : Block) → l ≡ loop_at l.head index body → BodyStands p (l.head + 1) body → LoopBody p l
    from l index body is stands =
        let at_is : l.at ≡ l.head + 1 + sizes body = ap (λ (x : LoopAt). x.at) is in
        let size_is : sizes l.body ≡ sizes body = ap (λ (x : LoopAt). sizes x.body) is in
        record {
          body_stands = subst (λ (b : Block). BodyStands p (l.head + 1) b) (sym (ap (λ (x : LoopAt). x.body) is)) stands;
          end_is = omega (arith, at_is, size_is);
        }

    by_form : (l : LoopAt) (line : ℕ) (form : Plain) → IsLoop l form → FormStands p l.head line form → LoopBody p l
    by_form l line (Do index body) is stands = from l index body is (do_body p l.head line index body stands)
    by_form l line (DoIn sub index body) is stands = from l sub body is (do_in_body p l.head line sub index body stands)
    by_form l line form is stands = absurd is

-- a loop's body, run again
loop_again : (p : Tree) (loop : LoopAt) (last : ℕ) (rest : Rest) → LoopStands p loop → place rest ≡ loop.at + 1 → Follows p rest → Follows p (push (loop.head + 1) loop.body (Turn loop last rest))
loop_again p loop last rest s e follows =
    let b = loop_body p loop s in
    follows_push p (loop.head + 1) loop.body (Turn loop last rest) b.body_stands b.end_is (s, e, follows)

entered_follows : (p : Tree) (loop : LoopAt) (first count : ℕ) (rest : Rest) (own : Own) → LoopStands p loop → place rest ≡ loop.at + 1 → Follows p rest → LedFollows p (entered loop first count rest own)
entered_follows p loop first zero rest own s e follows = follows
entered_follows p loop first (suc n) rest own s e follows = loop_again p loop (first + n) rest s e follows

turned_follows : (p : Tree) (more : Bool) (loop : LoopAt) (last : ℕ) (rest : Rest) (own : Own) → LoopStands p loop → place rest ≡ loop.at + 1 → Follows p rest → LedFollows p (turned more loop last rest own)
turned_follows p true loop last rest own s e follows = loop_again p loop last rest s e follows
turned_follows p false loop last rest own s e follows = follows

branched_follows : (p : Tree) (line : ℕ) (answer : Answer Bool) (met unmet : Rest) (own : Own) → Follows p met → Follows p unmet → LedFollows p (branched line answer met unmet own)
branched_follows p line (Ok true) met unmet own first second = first
branched_follows p line (Ok false) met unmet own first second = second
branched_follows p line (Err kind) met unmet own first second = tt

called_follows : (g : Setting) (more : Bool) (procedure : ℕ) (rest : Rest) (own : Own) → IsProper g.program → procedure < length g.program.procedures → Follows g.program rest → LedFollows g.program (called g more procedure rest own)
called_follows g true procedure rest own proper below follows =
    let s = procedures_follow g procedure proper below in
    let at = entry_of g.program procedure in
    let body = procedure_body g procedure in
    follows_push g.program at body (Back (at + sizes body) own.values rest) s.body refl (s.ends, follows)
called_follows g false procedure rest own proper below follows = follows

begun_follows : (p : Tree) (met : Bool) (pardo : PardoAt) (number : ℕ) (rest : Rest) (own : Own) → PardoStands p pardo → place rest ≡ pardo.at + 1 → Follows p rest → LedFollows p (begun met pardo number rest own)
begun_follows p true pardo number rest own s e follows =
    let at_is : pardo.at ≡ pardo.head + 1 + length pardo.wheres + sizes pardo.body = ap (λ (x : PardoAt). x.at) s.is_pardo in
    let stands = body_moved p (pardo.head + (1 + length pardo.wheres)) (pardo.head + 1 + length pardo.wheres) pardo.body (omega arith) (pardo_body p pardo.head s.line pardo.indices pardo.wheres pardo.body s.form_stands) in
    follows_push p (pardo.head + 1 + length pardo.wheres) pardo.body (Within pardo (number + 1) rest) stands at_is (s, e, follows)
begun_follows p false pardo number rest own s e follows = (s, e, follows)

within_follows : (g : Setting) (more : Bool) (pardo : PardoAt) (number : ℕ) (rest : Rest) (own : Own) → PardoStands g.program pardo → place rest ≡ pardo.at + 1 → Follows g.program rest → LedFollows g.program (went_within g more pardo number rest own)
within_follows g true pardo number rest own s e follows =
    let held = taken_up g pardo.indices (tuple_at (box_of g.spaces pardo.indices) number) own in
    begun_follows g.program (all_met held pardo.wheres) pardo number rest held s e follows
within_follows g false pardo number rest own s e follows = follows

-- the end of an `if` without `else`
if_end : (p : Tree) (at line to : ℕ) (cond : Cond) (body : Block) → FormStands p at line (If cond body) → to ≡ at + size (If cond body) → BranchEnds p (at + 1 + sizes body) to
if_end p at line to cond body s e =
    let code = body_code (entries_of p) (at + 1) s.text body in
    let len = length-body_code (entries_of p) (at + 1) s.text body in
    record {
      line = line;
      operation = op.EndIf;
      stands = get_first (at + 1 + sizes body) (instruction line op.EndIf) [] (flatten p).code (within at (at + 1 + sizes body) (form_code (entries_of p) at s.text line (If cond body)) (flatten p).code (instruction line (op.If cond (at + size (If cond body))) ∷ code) (alone line op.EndIf) [] s.code refl (omega (arith, len)));
      joins = omega (arith, e);
    }

-- the `else` behind a first branch
met_end : (p : Tree) (at line to : ℕ) (cond : Cond) (body other : Block) → FormStands p at line (IfElse cond body other) → to ≡ at + size (IfElse cond body other) → BranchEnds p (at + 1 + sizes body) to
met_end p at line to cond body other s e =
    let code = body_code (entries_of p) (at + 1) s.text body in
    let len = length-body_code (entries_of p) (at + 1) s.text body in
    let second = body_code (entries_of p) (at + (sizes body + 2)) (s.text + length (body_prints body)) other ++ alone line op.EndIf in
    let middle = instruction line (op.Else (at + size (IfElse cond body other))) in
    record {
      line = line;
      operation = op.Else (at + size (IfElse cond body other));
      stands = get_first (at + 1 + sizes body) middle [] (flatten p).code (within at (at + 1 + sizes body) (form_code (entries_of p) at s.text line (IfElse cond body other)) (flatten p).code (instruction line (op.If cond (at + (sizes body + 2))) ∷ code) (middle ∷ []) second s.code refl (omega (arith, len)));
      joins = e;
    }

-- the end of the other branch
unmet_end : (p : Tree) (at line to : ℕ) (cond : Cond) (body other : Block) → FormStands p at line (IfElse cond body other) → to ≡ at + size (IfElse cond body other) → BranchEnds p (at + 2 + sizes body + sizes other) to
unmet_end p at line to cond body other s e =
    let head = instruction line (op.If cond (at + (sizes body + 2))) in
    let middle = instruction line (op.Else (at + size (IfElse cond body other))) in
    let first = body_code (entries_of p) (at + 1) s.text body in
    let second = body_code (entries_of p) (at + (sizes body + 2)) (s.text + length (body_prints body)) other in
    let last = alone line op.EndIf in
    let len1 = length-body_code (entries_of p) (at + 1) s.text body in
    let len2 = length-body_code (entries_of p) (at + (sizes body + 2)) (s.text + length (body_prints body)) other in
    let both = length-append first (middle ∷ second) in
    record {
      line = line;
      operation = op.EndIf;
      stands = get_first (at + 2 + sizes body + sizes other) (instruction line op.EndIf) [] (flatten p).code (within at (at + 2 + sizes body + sizes other) (form_code (entries_of p) at s.text line (IfElse cond body other)) (flatten p).code (head ∷ (first ++ middle ∷ second)) last [] s.code (ap (λ (x : List Instruction). head ∷ x) (sym (append_assoc first (middle ∷ second) last))) (omega (arith, len1, len2, both)));
      joins = omega (arith, e);
    }

-- control at a statement
form_follows : (g : Setting) (at line : ℕ) (form : Plain) (rest : Rest) (own : Own) → IsProper g.program → FormStands g.program at line form → place rest ≡ at + size form → Follows g.program rest → LedFollows g.program (form_control g at line form rest own)
form_follows g at line (Do index body) rest own proper s e follows =
    let loop = loop_at at index body in
    entered_follows g.program loop (first_of g.spaces index) (count_of g.spaces index) rest own (record { line = line; form = Do index body; is_loop = refl; form_stands = s }) (omega (arith, e)) follows
form_follows g at line (DoIn sub index body) rest own proper s e follows =
    let loop = loop_at at sub body in
    entered_follows g.program loop 1 (pieces_of g.spaces sub (value_of own index)) rest own (record { line = line; form = DoIn sub index body; is_loop = refl; form_stands = s }) (omega (arith, e)) follows
form_follows g at line (Pardo indices wheres body) rest own proper s e follows =
    (record { line = line; is_pardo = refl; form_stands = s }, omega (arith, e), follows)
form_follows g at line (If test body) rest own proper s e follows =
    let join = Join (at + 1 + sizes body) rest in
    branched_follows g.program line (condition own test) (push (at + 1) body join) rest own
    (follows_push g.program (at + 1) body join (if_body g.program at line test body s) refl (if_end g.program at line (place rest) test body s e, follows))
    follows
form_follows g at line (IfElse test body other) rest own proper s e follows =
    let join = Join (at + 1 + sizes body) rest in
    let other_join = Join (at + 2 + sizes body + sizes other) rest in
    let second = body_moved g.program (at + (sizes body + 2)) (at + 2 + sizes body) other (omega arith) (unmet_body g.program at line test body other s) in
    branched_follows g.program line (condition own test) (push (at + 1) body join) (push (at + 2 + sizes body) other other_join) own
    (follows_push g.program (at + 1) body join (met_body g.program at line test body other s) refl (met_end g.program at line (place rest) test body other s e, follows))
    (follows_push g.program (at + 2 + sizes body) other other_join second refl (unmet_end g.program at line (place rest) test body other s e, follows))
form_follows g at line (Call procedure) rest own proper s e follows =
    called_follows g (nat_lt (depth rest) call_depth) procedure rest own proper (ltb-true procedure (length g.program.procedures) s.proper) follows
form_follows g at line (Assign target combining right) rest own proper s e follows = follows
form_follows g at line (Get block) rest own proper s e follows = follows
form_follows g at line (Request block) rest own proper s e follows = follows
form_follows g at line (Put block how from) rest own proper s e follows = follows
form_follows g at line (Prepare block how from) rest own proper s e follows = follows
form_follows g at line (Create array) rest own proper s e follows = follows
form_follows g at line (Delete array) rest own proper s e follows = follows
form_follows g at line (Allocate array slots) rest own proper s e follows = follows
form_follows g at line (Deallocate array slots) rest own proper s e follows = follows
form_follows g at line (Collective into from) rest own proper s e follows = follows
form_follows g at line SipBarrier rest own proper s e follows = follows
form_follows g at line ServerBarrier rest own proper s e follows = follows
form_follows g at line (Print printed) rest own proper s e follows = follows
form_follows g at line (PrintScalar scalar) rest own proper s e follows = follows
form_follows g at line (Integrals block) rest own proper s e follows = follows

pub control_follows : ControlFollows
control_follows g (Over at) own proper follows = follows
control_follows g (Next at line form rest) own proper follows = form_follows g at line form rest own proper follows.0 follows.1 follows.2
control_follows g (Turn loop last rest) own proper follows = turned_follows g.program (nat_lt (value_of own loop.index) last) loop last rest own follows.0 follows.1 follows.2
control_follows g (Join at rest) own proper follows = follows.1
control_follows g (Back at values rest) own proper follows = follows.1
control_follows g (Within pardo number rest) own proper follows = within_follows g (nat_lt number (volume (box_of g.spaces pardo.indices))) pardo number rest own follows.0 follows.1 follows.2
