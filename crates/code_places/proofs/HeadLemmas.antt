-- The instruction at which the cursor stands is the one that the first item says.
use Rattle.std.proofs.Common.{subst, ◌≡◌, ℕ, ◌+◌, List, [], ◌∷◌, ◌++◌, length, Some, slice_get, slice_index, refl, ap, sym, ◌∙◌, arith, length-append, append_assoc}
use Rattle.std.proofs.lemmas.Bool.{ltb-true}
use Rattle.sial_syntax.specs.Numbering.{size, sizes, entry_of}
use Rattle.sial_syntax.specs.Tree.{Tree, Plain, Block, Do, DoIn, Pardo, If, IfElse, Call, Assign, Get, Request, Put, Prepare, Create, Delete, Allocate, Deallocate, Collective, SipBarrier, ServerBarrier, Print, PrintScalar, Integrals}
use Rattle.sial_syntax.specs.Proper.{IsProper}
use Rattle.sial_meaning.specs.Rest.{LoopAt, PardoAt, Rest, Over, Next, Turn, Join, Back, Within, place}
use Rattle.sip_tables.specs.Code.{instruction, alone, wheres_code, form_code, body_code, entries_of}
use Rattle.sip_tables.specs.declared.instruction.Instruction.{Instruction}
use Rattle.sip_tables.specs.declared.instruction.Operation.{Operation}
use Rattle.sip_tables.specs.declared.instruction.Operation.TheVariants as op
use Rattle.sip_tables.specs.Flatten.{flatten}
use Rattle.sip_tables.proofs.CodeLemmas.{length-wheres_code, length-body_code}
use Rattle.sip_tables.proofs.PlaceLemmas.{entries_are_numbers}
use Rattle.code_places.proofs.Pieces.{within, get_first}
use Rattle.code_places.specs.Follows.{Follows, IsLoop, LoopStands, PardoStands}
use Rattle.code_places.specs.Head.{Says, Prints, operation_of}
use Rattle.code_places.specs.Standing.{FormStands, HasAt}
use Rattle.code_places.specs.StartLaws.{HeadIs}

-- an instruction found by an equal operation
same_operation : (p : Tree) (at line : ℕ) (a b : Operation) → a ≡ b → HasAt p at (instruction line a) → HasAt p at (instruction line b)
same_operation p at line a b e has = has ∙ ap (λ o. Some (instruction line o)) e

-- the first instruction of a statement
pub form_first : (p : Tree) (at line : ℕ) (form : Plain) (s : FormStands p at line form) → HasAt p at (instruction line (operation_of p at s.text form))
form_first p at line (Do index body) s = get_first at _ _ (flatten p).code s.code
form_first p at line (DoIn sub index body) s = get_first at _ _ (flatten p).code s.code
form_first p at line (Pardo indices wheres body) s =
    same_operation p at line (op.Pardo indices (at + (1 + (length wheres + sizes body)))) (op.Pardo indices (at + 1 + length wheres + sizes body)) (ap (λ n. op.Pardo indices n) (omega arith)) (get_first at _ _ (flatten p).code s.code)
form_first p at line (If cond body) s = get_first at _ _ (flatten p).code s.code
form_first p at line (IfElse cond body other) s =
    same_operation p at line (op.If cond (at + (sizes body + 2))) (op.If cond (at + 2 + sizes body)) (ap (λ n. op.If cond n) (omega arith)) (get_first at _ _ (flatten p).code s.code)
form_first p at line (Call procedure) s =
    same_operation p at line (op.Call procedure (slice_index (entries_of p) procedure)) (op.Call procedure (entry_of p procedure)) (ap (λ n. op.Call procedure n) (entries_are_numbers p procedure (ltb-true procedure (length p.procedures) s.proper))) (get_first at _ _ (flatten p).code s.code)
form_first p at line (Assign target combining right) s = get_first at _ _ (flatten p).code s.code
form_first p at line (Get block) s = get_first at _ _ (flatten p).code s.code
form_first p at line (Request block) s = get_first at _ _ (flatten p).code s.code
form_first p at line (Put block how from) s = get_first at _ _ (flatten p).code s.code
form_first p at line (Prepare block how from) s = get_first at _ _ (flatten p).code s.code
form_first p at line (Create array) s = get_first at _ _ (flatten p).code s.code
form_first p at line (Delete array) s = get_first at _ _ (flatten p).code s.code
form_first p at line (Allocate array slots) s = get_first at _ _ (flatten p).code s.code
form_first p at line (Deallocate array slots) s = get_first at _ _ (flatten p).code s.code
form_first p at line (Collective into from) s = get_first at _ _ (flatten p).code s.code
form_first p at line SipBarrier s = get_first at _ _ (flatten p).code s.code
form_first p at line ServerBarrier s = get_first at _ _ (flatten p).code s.code
form_first p at line (Print printed) s = get_first at _ _ (flatten p).code s.code
form_first p at line (PrintScalar scalar) s = get_first at _ _ (flatten p).code s.code
form_first p at line (Integrals block) s = get_first at _ _ (flatten p).code s.code

-- what a statement prints
pub form_prints : (p : Tree) (at line : ℕ) (form : Plain) (s : FormStands p at line form) → Prints p s.text form
form_prints p at line (Print printed) s = get_first s.text printed [] (flatten p).texts s.texts
form_prints p at line form s = tt

-- the end of a loop
pub loop_end : (p : Tree) (loop : LoopAt) (s : LoopStands p loop) → HasAt p loop.at (instruction s.line (op.EndDo loop.head))
loop_end p loop s = by_form loop s.line s.form s.is_loop s.form_stands
  where
    over : (at line index : ℕ) (body : Block) → FormStands p at line (Do index body) → HasAt p (at + 1 + sizes body) (instruction line (op.EndDo at))
    over at line index body stands =
        let len = length-body_code (entries_of p) (at + 1) stands.text body in
        get_first (at + 1 + sizes body) (instruction line (op.EndDo at)) [] (flatten p).code (within at (at + 1 + sizes body) (form_code (entries_of p) at stands.text line (Do index body)) (flatten p).code (instruction line (op.Do index (at + size (Do index body))) ∷ body_code (entries_of p) (at + 1) stands.text body) (alone line (op.EndDo at)) [] stands.code refl (omega (arith, len)))

    over_pieces : (at line sub index : ℕ) (body : Block) → FormStands p at line (DoIn sub index body) → HasAt p (at + 1 + sizes body) (instruction line (op.EndDo at))
    over_pieces at line sub index body stands =
        let len = length-body_code (entries_of p) (at + 1) stands.text body in
        get_first (at + 1 + sizes body) (instruction line (op.EndDo at)) [] (flatten p).code (within at (at + 1 + sizes body) (form_code (entries_of p) at stands.text line (DoIn sub index body)) (flatten p).code (instruction line (op.DoIn sub index (at + size (DoIn sub index body))) ∷ body_code (entries_of p) (at + 1) stands.text body) (alone line (op.EndDo at)) [] stands.code refl (omega (arith, len)))

    by_form : (l : LoopAt) (line : ℕ) (form : Plain) → IsLoop l form → FormStands p l.head line form → HasAt p l.at (instruction line (op.EndDo l.head))
    by_form l line (Do index body) is stands = ap (λ (x : LoopAt). slice_get (flatten p).code x.at) is ∙ over l.head line index body stands
    by_form l line (DoIn sub index body) is stands = ap (λ (x : LoopAt). slice_get (flatten p).code x.at) is ∙ over_pieces l.head line sub index body stands
    by_form l line form is stands = absurd is

-- the end of a pardo
pub pardo_end : (p : Tree) (pardo : PardoAt) (s : PardoStands p pardo) → HasAt p pardo.at (instruction s.line (op.EndPardo pardo.head))
pardo_end p pardo s =
    let at = pardo.head in
    let stands = s.form_stands in
    let tests = length-wheres_code s.line pardo.wheres in
    let len = length-body_code (entries_of p) (at + (1 + length pardo.wheres)) stands.text pardo.body in
    let head = instruction s.line (op.Pardo pardo.indices (at + (1 + (length pardo.wheres + sizes pardo.body)))) in
    let first = wheres_code s.line pardo.wheres in
    let second = body_code (entries_of p) (at + (1 + length pardo.wheres)) stands.text pardo.body in
    let last = alone s.line (op.EndPardo at) in
    let both = length-append first second in
    let place_is = at + 1 + length pardo.wheres + sizes pardo.body in
    ap (λ (x : PardoAt). slice_get (flatten p).code x.at) s.is_pardo
    ∙ get_first place_is (instruction s.line (op.EndPardo at)) [] (flatten p).code (within at place_is (form_code (entries_of p) at stands.text s.line (Pardo pardo.indices pardo.wheres pardo.body)) (flatten p).code (head ∷ (first ++ second)) last [] stands.code (ap (λ (x : List Instruction). head ∷ x) (sym (append_assoc first second last))) (omega (arith, len, tests, both)))

pub head_is : HeadIs
head_is p (Over at) proper follows = (instruction 0 op.Stop, follows, refl)
head_is p (Next at line form rest) proper follows =
    let s = follows.0 in
    (instruction line (operation_of p at s.text form), form_first p at line form s, record { text = s.text; is = refl; prints = form_prints p at line form s })
head_is p (Turn loop last rest) proper follows = (instruction follows.0.line (op.EndDo loop.head), loop_end p loop follows.0, refl)
head_is p (Join at rest) proper follows = (instruction follows.0.line follows.0.operation, follows.0.stands, follows.0.joins)
head_is p (Back at values rest) proper follows = (instruction 0 op.Return, follows.0, refl)
head_is p (Within pardo number rest) proper follows = (instruction follows.0.line (op.EndPardo pardo.head), pardo_end p pardo follows.0, refl)

-- what the first item says of the instruction that is there
pub told : (p : Tree) (rest : Rest) (i : Instruction) → IsProper p → Follows p rest → HasAt p (place rest) i → Says p rest i
told p rest i proper follows has =
    let head = head_is p rest proper follows in
    let same : head.0 ≡ i = same_instruction (place rest) head.0 i head.1 has in
    subst (λ (j : Instruction). Says p rest j) same head.2
  where
    same_instruction : (at : ℕ) (a b : Instruction) → HasAt p at a → HasAt p at b → a ≡ b
    same_instruction at a b first second = cc
