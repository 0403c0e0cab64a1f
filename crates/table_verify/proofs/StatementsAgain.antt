-- Statements are read again from their code and their texts.
use Rattle.std.proofs.Common.{◌≡◌, ℕ, zero, suc, ◌+◌, ◌<◌, ◌≤◌, List, [], ◌∷◌, ◌++◌, Bool, true, false, ◌==◌, length, slice_index, Some, None, refl, sym, ap, subst, ◌∙◌, arith, append_assoc, append-nil}
use Rattle.std.proofs.lemmas.Bool.{eq-eqb}
use Rattle.sial_syntax.specs.declared.condition.Cond.{Cond}
use Rattle.sial_syntax.specs.Numbering.{size, sizes}
use Rattle.sial_syntax.specs.Proper.{body_nesting}
use Rattle.sial_syntax.specs.Tree.{Block, End, Then, Plain, Do, DoIn, Pardo, IfElse, Call, Print}
use Rattle.sip_tables.specs.Code.{instruction, wheres_code, form_code, body_code}
use Rattle.sip_tables.specs.Texts.{prints, body_prints}
use Rattle.sip_tables.specs.declared.instruction.Instruction.{Instruction}
use Rattle.sip_tables.specs.declared.instruction.Operation.{Operation}
use Rattle.sip_tables.specs.declared.instruction.Operation.TheVariants as op
use Rattle.table_verify.specs.Rest.{Left, Read, next, numbered}
use Rattle.table_verify.specs.Closings.{begins, begin, where_of, where_at, more, wheres, end_do, end_pardo, end_if}
use Rattle.table_verify.specs.Statements.{Inner, over_segments, over_pieces, pardo, second, after_branch, branch, print, call, form, statement}

-- what is left, part by part
abbrev pub state : (at text : ℕ) → List Instruction → List (List ℕ) → Left
state at text code texts = record { at = at; text = text; code = code; texts = texts }

-- bodies in which less nests, with no more instructions than so many, are read again
abbrev pub Again : (entries : List ℕ) → (most depth : ℕ) → Inner → Type 0
Again entries most depth inner = (at text : ℕ) (b : Block) (code : List Instruction) (texts : List (List ℕ)) → body_nesting b < depth → sizes b ≤ most → begin code ≡ false
    → inner (state at text (body_code entries at text b ++ code) (body_prints b ++ texts)) ≡ Some (b, state (at + sizes b) (text + length (body_prints b)) code texts)

-- the same, where one instruction stands behind the body
pub closed_again : (entries : List ℕ) (most depth : ℕ) (inner : Inner) → Again entries most depth inner → (at text : ℕ) (b : Block) (last : Instruction) (code : List Instruction) (texts : List (List ℕ)) → body_nesting b < depth → sizes b ≤ most
    → begins last.operation ≡ false → inner (state at text ((body_code entries at text b ++ last ∷ []) ++ code) (body_prints b ++ texts)) ≡ Some (b, state (at + sizes b) (text + length (body_prints b)) (last ∷ code) texts)
closed_again entries most depth inner again at text b last code texts deep small ends =
    ap (λ (c : List Instruction). inner (state at text c (body_prints b ++ texts))) (append_assoc (body_code entries at text b) (last ∷ []) code) ∙ again at text b (last ∷ code) texts deep small ends

-- ---- closings

pub same : (n : ℕ) → (n == n) ≡ true
same n = eq-eqb n n refl

end_do_again : (line head at text : ℕ) (code : List Instruction) (texts : List (List ℕ)) → end_do line head (state at text (instruction line (op.EndDo head) ∷ code) texts) ≡ Some (state (at + 1) text code texts)
unfolding end_do
end_do_again line head at text code texts = rw (same line, same head) refl

end_pardo_again : (line head at text : ℕ) (code : List Instruction) (texts : List (List ℕ)) → end_pardo line head (state at text (instruction line (op.EndPardo head) ∷ code) texts) ≡ Some (state (at + 1) text code texts)
unfolding end_pardo
end_pardo_again line head at text code texts = rw (same line, same head) refl

pub end_if_again : (line at text : ℕ) (code : List Instruction) (texts : List (List ℕ)) → end_if line (state at text (instruction line op.EndIf ∷ code) texts) ≡ Some (state (at + 1) text code texts)
unfolding end_if
end_if_again line at text code texts = rw (same line) refl

-- ---- one step of each statement

do_by : (inner : Inner) (at line index past : ℕ) (left : Left) (b : Block) (mid new : Left) → inner left ≡ Some (b, mid) → end_do line at mid ≡ Some new → past ≡ new.at → over_segments inner at line index past left ≡ Some (Do index b, new)
unfolding over_segments
do_by inner at line index past left b mid new first last jump = rw (first, last, eq-eqb past new.at jump) refl

do_in_by : (inner : Inner) (at line sub index past : ℕ) (left : Left) (b : Block) (mid new : Left) → inner left ≡ Some (b, mid) → end_do line at mid ≡ Some new → past ≡ new.at → over_pieces inner at line sub index past left ≡ Some (DoIn sub index b, new)
unfolding over_pieces
do_in_by inner at line sub index past left b mid new first last jump = rw (first, last, eq-eqb past new.at jump) refl

pardo_by : (inner : Inner) (most at line : ℕ) (indices : List ℕ) (last : ℕ) (left : Left) (ws : List Cond) (tests : Left) (b : Block) (mid new : Left) → wheres line most [] left ≡ Some (ws, tests) → inner tests ≡ Some (b, mid) → end_pardo line at mid ≡ Some new
    → last ≡ mid.at → pardo inner most at line indices last left ≡ Some (Pardo indices ws b, new)
unfolding pardo
pardo_by inner most at line indices last left ws tests b mid new found first closing jump = rw (found, first, closing, eq-eqb last mid.at jump) refl

pub second_by : (inner : Inner) (line : ℕ) (test : Cond) (b : Block) (past : ℕ) (left : Left) (o : Block) (mid new : Left) → inner left ≡ Some (o, mid) → end_if line mid ≡ Some new → past ≡ new.at → second inner line test b past left ≡ Some (IfElse test b o, new)
unfolding second
second_by inner line test b past left o mid new first last jump = rw (first, last, eq-eqb past new.at jump) refl

pub branch_by : (inner : Inner) (line : ℕ) (test : Cond) (otherwise : ℕ) (left : Left) (b : Block) (mid : Left) (o : Operation) (new : Left) → inner left ≡ Some (b, mid) → next mid ≡ Some (instruction line o, new) → otherwise ≡ new.at
    → branch inner line test otherwise left ≡ after_branch inner line test b o new
unfolding branch
branch_by inner line test otherwise left b mid o new first last jump = rw (first, last, same line, eq-eqb otherwise new.at jump) refl

pub call_by : (entries : List ℕ) (procedure : ℕ) (left : Left) → call entries procedure (slice_index entries procedure) left ≡ Some (Call procedure, left)
unfolding call
call_by entries procedure left = rw (same (slice_index entries procedure)) refl

pub numbered_by : (at number : ℕ) (t : List ℕ) (code : List Instruction) (texts : List (List ℕ)) → numbered number (state at number code (t ∷ texts)) ≡ Some (t, state at (number + 1) code texts)
unfolding numbered
numbered_by at number t code texts = rw (same number) refl

pub print_by : (at number : ℕ) (t : List ℕ) (code : List Instruction) (texts : List (List ℕ)) → print number (state at number code (t ∷ texts)) ≡ Some (Print t, state at (number + 1) code texts)
unfolding print
print_by at number t code texts = rw (numbered_by at number t code texts) refl

pub statement_by : (entries : List ℕ) (most : ℕ) (inner : Inner) (at text line : ℕ) (o : Operation) (code : List Instruction) (texts : List (List ℕ)) (f : Plain) (new : Left)
    → form entries most inner at line o (state (at + 1) text code texts) ≡ Some (f, new) → statement entries most inner (state at text (instruction line o ∷ code) texts) ≡ Some ((line, f), new)
unfolding statement
statement_by entries most inner at text line o code texts f new e = rw e refl

-- ---- conditions

no_where : (b : Bool) (o : Operation) (left : Left) → begins o ≡ true → where_of b o left ≡ None
no_where true (op.Where test) left e = absurd cc
no_where true _ left e = refl
no_where false o left e = refl

ends_wheres : (b : Bool) (head : ℕ) (left : Left) → where_of b (op.EndPardo head) left ≡ None
ends_wheres true head left = refl
ends_wheres false head left = refl

-- no condition stands at the front of code
abbrev NoWhere : (line : ℕ) → List Instruction → Type 0
NoWhere line code = (at text : ℕ) (texts : List (List ℕ)) → where_at line (state at text code texts) ≡ None

pub begins_form : (entries : List ℕ) (at text line : ℕ) (f : Plain) (code : List Instruction) → begin (form_code entries at text line f ++ code) ≡ true
begins_form entries at text line (Do index b) code = refl
begins_form entries at text line _ code = refl

no_where_at : (line : ℕ) (code : List Instruction) → begin code ≡ true → NoWhere line code
no_where_at line [] e at text texts = absurd cc
no_where_at line (i ∷ rest) e at text texts = no_where (i.line == line) i.operation (state (at + 1) text rest texts) e

body_has_no_where : (entries : List ℕ) (at text line head : ℕ) (b : Block) (code : List Instruction) → NoWhere line ((body_code entries at text b ++ instruction line (op.EndPardo head) ∷ []) ++ code)
body_has_no_where entries at text line head End code = λ a t texts. ends_wheres (line == line) head (state (a + 1) t code texts)
body_has_no_where entries at text line head (Then l f rest) code =
    let rc = body_code entries (at + size f) (text + length (prints f)) rest in
    let fc = form_code entries at text l f in
    let tail = instruction line (op.EndPardo head) in
    let split : ((fc ++ rc) ++ tail ∷ []) ++ code ≡ fc ++ ((rc ++ tail ∷ []) ++ code) = ap (λ (c : List Instruction). c ++ code) (append_assoc fc rc (tail ∷ [])) ∙ append_assoc fc (rc ++ tail ∷ []) code in
    subst (λ (c : List Instruction). NoWhere line c) (sym split) (no_where_at line (fc ++ ((rc ++ tail ∷ []) ++ code)) (begins_form entries at text l f ((rc ++ tail ∷ []) ++ code)))

tests_again : (line n : ℕ) (front ws : List Cond) (at text : ℕ) (code : List Instruction) (texts : List (List ℕ)) → length ws ≤ n → NoWhere line code
    → wheres line n front (state at text (wheres_code line ws ++ code) texts) ≡ Some (front ++ ws, state (at + length ws) text code texts)
unfolding wheres
tests_again line zero front [] at text code texts few none =
    let place : at ≡ at + 0 = omega arith in
    ap (λ (x : List Cond). Some (x, state at text code texts)) (sym (append-nil front)) ∙ ap (λ (n : ℕ). Some (front ++ [], state n text code texts)) place
tests_again line (suc n) front [] at text code texts few none =
    let place : at ≡ at + 0 = omega arith in
    ap (λ (r : Read Cond). more r (front, state at text code texts) (λ x. wheres line n (front ++ x.0 ∷ []) x.1)) (none at text texts)
    ∙ ap (λ (x : List Cond). Some (x, state at text code texts)) (sym (append-nil front)) ∙ ap (λ (m : ℕ). Some (front ++ [], state m text code texts)) place
tests_again line zero front (w ∷ ws) at text code texts few none = absurd (omega (arith, few))
tests_again line (suc n) front (w ∷ ws) at text code texts few none =
    let place : at + 1 + length ws ≡ at + suc (length ws) = omega arith in
    let found : where_at line (state at text (instruction line (op.Where w) ∷ (wheres_code line ws ++ code)) texts) ≡ Some (w, state (at + 1) text (wheres_code line ws ++ code) texts) =
    ap (λ (b : Bool). where_of b (op.Where w) (state (at + 1) text (wheres_code line ws ++ code) texts)) (same line) in
    ap (λ (r : Read Cond). more r (front, state at text (instruction line (op.Where w) ∷ (wheres_code line ws ++ code)) texts) (λ x. wheres line n (front ++ x.0 ∷ []) x.1)) found
    ∙ tests_again line n (front ++ w ∷ []) ws (at + 1) text code texts (omega (arith, few)) none
    ∙ ap (λ (x : List Cond). Some (x, state (at + 1 + length ws) text code texts)) (append_assoc front (w ∷ []) ws) ∙ ap (λ (m : ℕ). Some (front ++ (w ∷ ws), state m text code texts)) place

-- ---- statements

module _ (entries : List ℕ) (most depth : ℕ) (inner : Inner) (again : Again entries most depth inner) where
  pub do_again : (at text line index : ℕ) (b : Block) (code : List Instruction) (texts : List (List ℕ)) → 1 + body_nesting b ≤ depth → sizes b + 2 ≤ most
      → over_segments inner at line index (at + (sizes b + 2)) (state (at + 1) text ((body_code entries (at + 1) text b ++ instruction line (op.EndDo at) ∷ []) ++ code) (body_prints b ++ texts)) ≡ Some (Do index b, state (at + (sizes b + 2)) (text + length (body_prints b)) code texts)
  do_again at text line index b code texts deep small =
      let place : at + 1 + sizes b + 1 ≡ at + (sizes b + 2) = omega arith in
      do_by inner at line index (at + (sizes b + 2)) _ b _ _ (closed_again entries most depth inner again (at + 1) text b (instruction line (op.EndDo at)) code texts (omega (arith, deep)) (omega (arith, small)) refl)
      (end_do_again line at (at + 1 + sizes b) (text + length (body_prints b)) code texts) (sym place)
      ∙ ap (λ (n : ℕ). Some (Do index b, state n (text + length (body_prints b)) code texts)) place

  pub do_in_again : (at text line sub index : ℕ) (b : Block) (code : List Instruction) (texts : List (List ℕ)) → 1 + body_nesting b ≤ depth → sizes b + 2 ≤ most
      → over_pieces inner at line sub index (at + (sizes b + 2)) (state (at + 1) text ((body_code entries (at + 1) text b ++ instruction line (op.EndDo at) ∷ []) ++ code) (body_prints b ++ texts)) ≡ Some (DoIn sub index b, state (at + (sizes b + 2)) (text + length (body_prints b)) code texts)
  do_in_again at text line sub index b code texts deep small =
      let place : at + 1 + sizes b + 1 ≡ at + (sizes b + 2) = omega arith in
      do_in_by inner at line sub index (at + (sizes b + 2)) _ b _ _ (closed_again entries most depth inner again (at + 1) text b (instruction line (op.EndDo at)) code texts (omega (arith, deep)) (omega (arith, small)) refl)
      (end_do_again line at (at + 1 + sizes b) (text + length (body_prints b)) code texts) (sym place)
      ∙ ap (λ (n : ℕ). Some (DoIn sub index b, state n (text + length (body_prints b)) code texts)) place

  pub pardo_again : (at text line : ℕ) (indices : List ℕ) (ws : List Cond) (b : Block) (code : List Instruction) (texts : List (List ℕ)) → 1 + body_nesting b ≤ depth → length ws + (sizes b + 2) ≤ most
      → pardo inner most at line indices (at + (1 + (length ws + sizes b))) (state (at + 1) text ((wheres_code line ws ++ (body_code entries (at + (1 + length ws)) text b ++ instruction line (op.EndPardo at) ∷ [])) ++ code) (body_prints b ++ texts))
      ≡ Some (Pardo indices ws b, state (at + (length ws + (sizes b + 2))) (text + length (body_prints b)) code texts)
  pardo_again at text line indices ws b code texts deep small =
      let from = at + (1 + length ws) in
      let tail = instruction line (op.EndPardo at) in
      let bc = body_code entries from text b in
      let near : at + 1 + length ws ≡ from = omega arith in
      let found : wheres line most [] (state (at + 1) text ((wheres_code line ws ++ (bc ++ tail ∷ [])) ++ code) (body_prints b ++ texts)) ≡ Some (ws, state from text ((bc ++ tail ∷ []) ++ code) (body_prints b ++ texts)) =
      ap (λ (c : List Instruction). wheres line most [] (state (at + 1) text c (body_prints b ++ texts))) (append_assoc (wheres_code line ws) (bc ++ tail ∷ []) code)
      ∙ tests_again line most [] ws (at + 1) text ((bc ++ tail ∷ []) ++ code) (body_prints b ++ texts) (omega (arith, small)) (body_has_no_where entries from text line at b code)
      ∙ ap (λ (n : ℕ). Some (ws, state n text ((bc ++ tail ∷ []) ++ code) (body_prints b ++ texts))) near in
      let jump : at + (1 + (length ws + sizes b)) ≡ from + sizes b = omega arith in
      let place : from + sizes b + 1 ≡ at + (length ws + (sizes b + 2)) = omega arith in
      pardo_by inner most at line indices (at + (1 + (length ws + sizes b))) _ ws _ b _ _ found
      (closed_again entries most depth inner again from text b tail code texts (omega (arith, deep)) (omega (arith, small)) refl)
      (end_pardo_again line at (from + sizes b) (text + length (body_prints b)) code texts) jump
      ∙ ap (λ (n : ℕ). Some (Pardo indices ws b, state n (text + length (body_prints b)) code texts)) place
