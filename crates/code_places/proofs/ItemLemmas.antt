-- The instruction at the cursor tells the first item.
use Rattle.std.proofs.Common.{◌≡◌, ℕ, zero, suc, ◌+◌, List, [], ◌∷◌, ◌++◌, length, Some, slice_get, inl, inr, refl, ap, sym, ◌∙◌, subst, arith}
use Rattle.sial_syntax.specs.declared.condition.Cond.{Cond}
use Rattle.sial_syntax.specs.Numbering.{size, sizes}
use Rattle.sial_syntax.specs.Tree.{Tree, Plain, Block, Do, DoIn, Pardo, If, IfElse, Call, Assign, Get, Request, Put, Prepare, Create, Delete, Allocate, Deallocate, Collective, SipBarrier, ServerBarrier, Print, PrintScalar, Integrals}
use Rattle.sial_meaning.specs.Control.{loop_at}
use Rattle.sial_meaning.specs.Rest.{LoopAt, PardoAt, Rest, Over, Next, Turn, Join, Back, Within, place}
use Rattle.sip_tables.specs.Code.{instruction, alone, wheres_code, form_code, body_code, entries_of}
use Rattle.sip_tables.specs.declared.instruction.Instruction.{Instruction}
use Rattle.sip_tables.specs.declared.instruction.Operation.{Operation}
use Rattle.sip_tables.specs.declared.instruction.Operation.TheVariants as op
use Rattle.sip_tables.specs.Flatten.{flatten}
use Rattle.code_places.proofs.HeadLemmas.{told, form_first}
use Rattle.code_places.proofs.Pieces.{within, get_inside}
use Rattle.code_places.specs.Follows.{Follows, IsLoop, Joins}
use Rattle.code_places.specs.Head.{Says, Prints, operation_of}
use Rattle.code_places.specs.ItemLaws.{ItemTold, IsHeadOf, LoopsHaveHeads, PardosHaveHeads, WheresStand}
use Rattle.code_places.specs.Items.{ItemOf, IsNext, IsSingle}
use Rattle.code_places.specs.Standing.{FormStands, HasAt}

-- the first item, where it is a statement
next_item : (p : Tree) (at line : ℕ) (form : Plain) (more : Rest) → Follows p (Next at line form more) → IsNext p (Next at line form more) line form more
next_item p at line form more follows = record { is = refl; stands = follows.0; behind = follows.1; follows = follows.2 }

-- one that is one instruction
single_item : (p : Tree) (at line : ℕ) (form : Plain) (more : Rest) → Follows p (Next at line form more) → IsSingle p (Next at line form more) line form
single_item p at line form more follows = record { more = more; next = next_item p at line form more follows }

form_item : (p : Tree) (at line : ℕ) (form : Plain) (more : Rest) (text : ℕ) → Prints p text form → Follows p (Next at line form more) → ItemOf p (Next at line form more) line (operation_of p at text form)
form_item p at line (Do index body) more text prints f = record { body = body; more = more; next = next_item p at line (Do index body) more f; past_is = sym f.1 }
form_item p at line (DoIn sub index body) more text prints f = record { body = body; more = more; next = next_item p at line (DoIn sub index body) more f; past_is = sym f.1 }
form_item p at line (Pardo indices wheres body) more text prints f = record { wheres = wheres; body = body; more = more; next = next_item p at line (Pardo indices wheres body) more f; end_is = refl }
form_item p at line (If cond body) more text prints f = inl (record { body = body; more = more; next = next_item p at line (If cond body) more f; past_is = sym f.1 })
form_item p at line (IfElse cond body other) more text prints f = inr (record { body = body; other = other; more = more; next = next_item p at line (IfElse cond body other) more f; otherwise_is = refl })
form_item p at line (Call procedure) more text prints f = record { more = more; next = next_item p at line (Call procedure) more f; entry_is = refl }
form_item p at line (Assign target combining right) more text prints f = single_item p at line (Assign target combining right) more f
form_item p at line (Get block) more text prints f = single_item p at line (Get block) more f
form_item p at line (Request block) more text prints f = single_item p at line (Request block) more f
form_item p at line (Put block how from) more text prints f = single_item p at line (Put block how from) more f
form_item p at line (Prepare block how from) more text prints f = single_item p at line (Prepare block how from) more f
form_item p at line (Create array) more text prints f = single_item p at line (Create array) more f
form_item p at line (Delete array) more text prints f = single_item p at line (Delete array) more f
form_item p at line (Allocate array slots) more text prints f = single_item p at line (Allocate array slots) more f
form_item p at line (Deallocate array slots) more text prints f = single_item p at line (Deallocate array slots) more f
form_item p at line (Collective into from) more text prints f = single_item p at line (Collective into from) more f
form_item p at line SipBarrier more text prints f = single_item p at line SipBarrier more f
form_item p at line ServerBarrier more text prints f = single_item p at line ServerBarrier more f
form_item p at line (Print printed) more text prints f = record { printed = printed; more = more; next = next_item p at line (Print printed) more f; text_is = prints }
form_item p at line (PrintScalar scalar) more text prints f = single_item p at line (PrintScalar scalar) more f
form_item p at line (Integrals block) more text prints f = single_item p at line (Integrals block) more f

-- the end of a branch
join_item : (p : Tree) (at line : ℕ) (operation : Operation) (more : Rest) → Joins operation at (place more) → Follows p more → ItemOf p (Join at more) line operation
join_item p at line (op.Else past) more joins f = record { more = more; is = refl; behind = joins; follows = f }
join_item p at line op.EndIf more joins f = record { more = more; is = refl; behind = joins; follows = f }
join_item p at line operation more joins f = absurd joins

-- what is said of an instruction tells the item
said_item : (p : Tree) (rest : Rest) (i : Instruction) → Follows p rest → Says p rest i → ItemOf p rest i.line i.operation
said_item p (Over at) i follows said = subst (λ (j : Instruction). ItemOf p (Over at) j.line j.operation) (sym said) refl
said_item p (Next at line form more) i follows said =
    subst (λ (j : Instruction). ItemOf p (Next at line form more) j.line j.operation) (sym said.is) (form_item p at line form more said.text said.prints follows)
said_item p (Turn loop last more) i follows said =
    subst (λ (o : Operation). ItemOf p (Turn loop last more) i.line o) (sym said)
    (record { loop = loop; last = last; more = more; is = refl; head_is = refl; stands = follows.0; behind = follows.1; follows = follows.2 })
said_item p (Join at more) i follows said = join_item p at i.line i.operation more said follows.1
said_item p (Back at values more) i follows said =
    subst (λ (j : Instruction). ItemOf p (Back at values more) j.line j.operation) (sym said) (record { values = values; more = more; is = refl; follows = follows.1 })
said_item p (Within pardo number more) i follows said =
    subst (λ (o : Operation). ItemOf p (Within pardo number more) i.line o) (sym said)
    (record { pardo = pardo; number = number; more = more; is = refl; head_is = refl; stands = follows.0; behind = follows.1; follows = follows.2 })

pub item_told : ItemTold
item_told p rest i proper follows has = said_item p rest i follows (told p rest i proper follows has)

pub loops_have_heads : LoopsHaveHeads
loops_have_heads p loop s = by_form loop s.line s.form s.is_loop s.form_stands
  where
    past_is : (l : LoopAt) (index : ℕ) (body : Block) → l ≡ loop_at l.head index body → l.head + (sizes body + 2) ≡ l.at + 1
    past_is l index body is = let e : l.at ≡ l.head + 1 + sizes body = ap (λ (x : LoopAt). x.at) is in omega (arith, e)

    by_form : (l : LoopAt) (line : ℕ) (form : Plain) → IsLoop l form → FormStands p l.head line form → (i : Instruction) × HasAt p l.head i × IsHeadOf l i.operation
    by_form l line (Do index body) is stands =
        (instruction line (op.Do index (l.head + size (Do index body))), form_first p l.head line (Do index body) stands, (sym (ap (λ (x : LoopAt). x.index) is), past_is l index body is))
    by_form l line (DoIn sub index body) is stands =
        (instruction line (op.DoIn sub index (l.head + size (DoIn sub index body))), form_first p l.head line (DoIn sub index body) stands, (sym (ap (λ (x : LoopAt). x.index) is), past_is l sub body is))
    by_form l line form is stands = absurd is

pub pardos_have_heads : PardosHaveHeads
pardos_have_heads p pardo s =
    form_first p pardo.head s.line (Pardo pardo.indices pardo.wheres pardo.body) s.form_stands
    ∙ ap (λ (x : PardoAt). Some (instruction s.line (op.Pardo pardo.indices x.at))) (sym s.is_pardo)

-- a `where` line among the others
where_at : (line : ℕ) (wheres : List Cond) (number : ℕ) (cond : Cond) → slice_get wheres number ≡ Some cond → slice_get (wheres_code line wheres) number ≡ Some (instruction line (op.Where cond))
where_at line [] number cond is = absurd cc
where_at line (w ∷ ws) zero cond is = let same : w ≡ cond = cc in ap (λ c. Some (instruction line (op.Where c))) same
where_at line (w ∷ ws) (suc n) cond is = where_at line ws n cond is

pub wheres_stand : WheresStand
wheres_stand p pardo s number cond is =
    let at = pardo.head in
    let stands = s.form_stands in
    let head = instruction s.line (op.Pardo pardo.indices (at + (1 + (length pardo.wheres + sizes pardo.body)))) in
    let behind = body_code (entries_of p) (at + (1 + length pardo.wheres)) stands.text pardo.body ++ alone s.line (op.EndPardo at) in
    get_inside (at + 1) number (wheres_code s.line pardo.wheres) (flatten p).code (instruction s.line (op.Where cond))
    (within at (at + 1) (form_code (entries_of p) at stands.text s.line (Pardo pardo.indices pardo.wheres pardo.body)) (flatten p).code (head ∷ []) (wheres_code s.line pardo.wheres) behind stands.code refl refl)
    (where_at s.line pardo.wheres number cond is)
