-- What is known of code that has no fault, and what it is.
use Rattle.std.proofs.Common.{◌≡◌, ℕ, zero, suc, ◌+◌, ◌≤◌, ◌<◌, List, [], ◌∷◌, ◌++◌, true, length, drop, slice_index, Some, refl, sym, ap, subst, ◌∙◌, arith, append_assoc, length-append}
use Rattle.std.specs.Prelude.{slice_get}
use Rattle.sial_syntax.specs.Numbering.{size, sizes, statements, statements_in}
use Rattle.sial_syntax.specs.Proper.{nesting, body_nesting, proper_form, proper_body}
use Rattle.sial_syntax.specs.Tree.{Tree, Block, Plain}
use Rattle.sip_tables.specs.Code.{instruction, form_code, body_code}
use Rattle.sip_tables.specs.Texts.{prints, body_prints}
use Rattle.sip_tables.specs.declared.instruction.Instruction.{Instruction}
use Rattle.sip_tables.specs.declared.instruction.Operation.{Operation}
use Rattle.sip_tables.specs.declared.instruction.Operation.TheVariants as op
use Rattle.table_verify.specs.Jumps.{Jump, jump, jumps, IsIn}
use Rattle.table_verify.specs.Outline.{Role, Mark, role, mark, outline}
use Rattle.table_verify.specs.Things.{names_things, prints_next, is_right, prints_of, prints_in, begun, begun_in}
use Rattle.table_verify.proofs.Closed.{both}
use Rattle.table_verify.proofs.InLemmas.{in_either, case}
use Rattle.table_verify.proofs.JumpFaults.{jump_place, jumps_from}
use Rattle.table_verify.proofs.OutlineLemmas.{at}

-- ---- what is known of code

-- what is declared, all texts, where procedures start, and the jumps that lines and nesting tell
pub record Known : Type 0 where
  pub head : Tree
  pub texts : List (List ℕ)
  pub entries : List ℕ
  pub jumps : List Jump

-- all that instructions name is there, where this text is the next one
abbrev pub AllRight : Known → (next : ℕ) → List Instruction → Type 0
AllRight k next [] = Unit {0}
AllRight k next (i ∷ code) = (is_right k.head k.texts next i.operation ≡ true) × AllRight k (next + prints_of i.operation) code

-- a call of a procedure that is there leads to it
abbrev pub CallIsRight : Known → Operation → Type 0
CallIsRight k (op.Call procedure entry) = procedure < length k.head.procedures → entry ≡ slice_index k.entries procedure
CallIsRight k _ = Unit {0}

abbrev pub AllCalls : Known → List Instruction → Type 0
AllCalls k [] = Unit {0}
AllCalls k (i ∷ code) = CallIsRight k i.operation × AllCalls k code

-- code from a place on, where this text is the next one, has no fault
pub record Good (k : Known) (place text : ℕ) (code : List Instruction) : Type 0 where
  pub right : AllRight k text code
  pub calls : AllCalls k code
  pub leads : (x : Jump) → IsIn x k.jumps → place ≤ x.at → IsIn x (jumps place code)

-- the same place and text, written otherwise
pub good_at : (k : Known) (place other text next : ℕ) (code : List Instruction) → place ≡ other → text ≡ next → Good k place text code → Good k other next code
good_at k place other text next code e f good = subst (λ (n : ℕ). Good k n next code) e (subst (λ (n : ℕ). Good k place n code) f good)

-- the code behind an instruction that prints nothing has no fault
pub good_behind : (k : Known) (place text line : ℕ) (o : Operation) (code : List Instruction) → Good k place text (instruction line o ∷ code) → Good k (place + 1) (text + prints_of o) code
good_behind k place text line o code good = record {
  right = good.right.1;
  calls = good.calls.1;
  leads = λ x i l. case (IsIn x (jumps (place + 1) code)) (in_either x (jump place o) (jumps (place + 1) code) (good.leads x i (omega (arith, l))))
      (λ h. let a = jump_place place o x h in absurd (omega (arith, a, l)))
      (λ r. r);
}

pub good_quiet : (k : Known) (place text line : ℕ) (o : Operation) (code : List Instruction) → prints_of o ≡ 0 → Good k place text (instruction line o ∷ code) → Good k (place + 1) text code
good_quiet k place text line o code quiet good = good_at k (place + 1) (place + 1) (text + prints_of o) text code refl (omega (arith, quiet)) (good_behind k place text line o code good)

-- a jump that is told of an instruction is the one that it has
pub leads_here : (k : Known) (place text line : ℕ) (o : Operation) (code : List Instruction) → Good k place text (instruction line o ∷ code) → (x : Jump) → IsIn x k.jumps → x.at ≡ place → IsIn x (jump place o)
leads_here k place text line o code good x i e =
    case (IsIn x (jump place o)) (in_either x (jump place o) (jumps (place + 1) code) (good.leads x i (omega (arith, e))))
    (λ l. l)
    (λ r. let a = jumps_from (place + 1) code x r in absurd (omega (arith, a, e)))

-- the things that an instruction names are there
pub things : (k : Known) (place text line : ℕ) (o : Operation) (code : List Instruction) → Good k place text (instruction line o ∷ code) → names_things k.head o ≡ true
things k place text line o code good = (both (names_things k.head o) (prints_next k.texts text o) good.right.0).0

-- ---- one instruction

-- the first instruction, told by its mark, and the rest
pub record One (line : ℕ) (r : Role) (code : List Instruction) (ms : List Mark) : Type 0 where
  pub operation : Operation
  pub rest : List Instruction
  pub is : code ≡ instruction line operation ∷ rest
  pub role_is : role operation ≡ r
  pub marks : outline rest ≡ ms

pub one : (line : ℕ) (r : Role) (code : List Instruction) (ms : List Mark) → outline code ≡ at line r ∷ ms → One line r code ms
one line r [] ms e = absurd cc
one line r (i ∷ code) ms e =
    let here : mark i ≡ at line r = cc in
    let behind : outline code ≡ ms = cc in
    let whole : i ≡ instruction line i.operation = ap (λ (n : ℕ). instruction n i.operation) (ap (λ (m : Mark). m.line) here) in
    record { operation = i.operation; rest = code; is = ap (λ (x : Instruction). x ∷ code) whole; role_is = ap (λ (m : Mark). m.role) here; marks = behind }

-- ---- texts

-- what stands at a place begins what is left from there on
pub drop_get : {X : Type 0} (xs : List X) (n : ℕ) (x : X) → slice_get xs n ≡ Some x → drop n xs ≡ x ∷ drop (n + 1) xs
drop_get [] n x e = absurd cc
drop_get (y ∷ xs) zero x e = let same : y ≡ x = cc in ap (λ (z : _). z ∷ xs) same
drop_get (y ∷ xs) (suc n) x e =
    let next : suc (n + 1) ≡ suc n + 1 = omega arith in
    drop_get xs n x e ∙ ap (λ (m : ℕ). x ∷ drop m (y ∷ xs)) next

-- texts from a place on begin with these
abbrev pub BeginsWith : List (List ℕ) → (text : ℕ) → List (List ℕ) → Type 0
BeginsWith texts text front = drop text texts ≡ front ++ drop (text + length front) texts

pub begins_with_none : (texts : List (List ℕ)) (text : ℕ) → BeginsWith texts text []
begins_with_none texts text = let near : text ≡ text + 0 = omega arith in ap (λ (n : ℕ). drop n texts) near

pub begins_with_both : (texts : List (List ℕ)) (text : ℕ) (xs ys : List (List ℕ)) → BeginsWith texts text xs → BeginsWith texts (text + length xs) ys → BeginsWith texts text (xs ++ ys)
begins_with_both texts text xs ys e f =
    let l = length-append xs ys in
    let far : text + length xs + length ys ≡ text + length (xs ++ ys) = omega (arith, l) in
    e ∙ ap (λ (u : List (List ℕ)). xs ++ u) f ∙ sym (append_assoc xs ys (drop (text + length xs + length ys) texts)) ∙ ap (λ (n : ℕ). (xs ++ ys) ++ drop n texts) far

-- ---- what code is

-- code is that of a statement on this line, with so much nesting and so many instructions, and what has these marks
pub record IsForm (k : Known) (line place text deep long : ℕ) (code : List Instruction) (ms : List Mark) : Type 0 where
  pub form : Plain
  pub rest : List Instruction
  pub is : code ≡ form_code k.entries place text line form ++ rest
  pub marks : outline rest ≡ ms
  pub good : Good k (place + long) (text + length (prints form)) rest
  pub texts : BeginsWith k.texts text (prints form)
  pub proper : proper_form k.head form ≡ true
  pub deep_is : nesting form ≡ deep
  pub long_is : size form ≡ long
  pub begun_is : begun_in code ≡ statements_in form + begun_in rest
  pub printed_is : prints_in code ≡ length (prints form) + prints_in rest

-- the same of a body
pub record IsBody (k : Known) (place text deep long : ℕ) (code : List Instruction) (ms : List Mark) : Type 0 where
  pub body : Block
  pub rest : List Instruction
  pub is : code ≡ body_code k.entries place text body ++ rest
  pub marks : outline rest ≡ ms
  pub good : Good k (place + long) (text + length (body_prints body)) rest
  pub texts : BeginsWith k.texts text (body_prints body)
  pub proper : proper_body k.head body ≡ true
  pub deep_is : body_nesting body ≡ deep
  pub long_is : sizes body ≡ long
  pub begun_is : begun_in code ≡ statements body + begun_in rest
  pub printed_is : prints_in code ≡ length (body_prints body) + prints_in rest

-- the same of a body and an instruction behind it
pub record IsClosed (k : Known) (line place text deep long : ℕ) (last : Operation) (code : List Instruction) (ms : List Mark) : Type 0 where
  pub body : Block
  pub rest : List Instruction
  pub is : code ≡ body_code k.entries place text body ++ (instruction line last ∷ rest)
  pub marks : outline rest ≡ ms
  pub good : Good k (place + long + 1) (text + length (body_prints body)) rest
  pub texts : BeginsWith k.texts text (body_prints body)
  pub proper : proper_body k.head body ≡ true
  pub deep_is : body_nesting body ≡ deep
  pub long_is : sizes body ≡ long
  pub begun_is : begun_in code ≡ statements body + begun_in rest
  pub printed_is : prints_in code ≡ length (body_prints body) + prints_in rest

-- what stands behind a body, where its role and its jump tell which instruction it is
pub closed : (k : Known) (line place text deep long : ℕ) (r : Role) (last : Operation) (code : List Instruction) (ms : List Mark) → IsBody k place text deep long code (at line r ∷ ms)
    → ((o : Operation) → role o ≡ r → ((x : Jump) → IsIn x k.jumps → x.at ≡ place + long → IsIn x (jump (place + long) o)) → o ≡ last) → begun last ≡ 0 → prints_of last ≡ 0 → IsClosed k line place text deep long last code ms
closed k line place text deep long r last code ms b only begins printed =
    let x = one line r b.rest ms b.marks in
    let good : Good k (place + long) (text + length (body_prints b.body)) (instruction line x.operation ∷ x.rest) = subst (λ (c : List Instruction). Good k (place + long) (text + length (body_prints b.body)) c) x.is b.good in
    let same : x.operation ≡ last = only x.operation x.role_is (leads_here k (place + long) (text + length (body_prints b.body)) line x.operation x.rest good) in
    let rest_is : b.rest ≡ instruction line last ∷ x.rest = x.is ∙ ap (λ (o : Operation). instruction line o ∷ x.rest) same in
    let begun_rest : begun_in b.rest ≡ begun last + begun_in x.rest = ap (λ (c : List Instruction). begun_in c) rest_is in
    let printed_rest : prints_in b.rest ≡ prints_of last + prints_in x.rest = ap (λ (c : List Instruction). prints_in c) rest_is in
    let n = b.begun_is in
    let m = b.printed_is in
    record {
      body = b.body;
      rest = x.rest;
      is = b.is ∙ ap (λ (c : List Instruction). body_code k.entries place text b.body ++ c) rest_is;
      marks = x.marks;
      good = good_quiet k (place + long) (text + length (body_prints b.body)) line last x.rest printed (subst (λ (o : Operation). Good k (place + long) (text + length (body_prints b.body)) (instruction line o ∷ x.rest)) same good);
      texts = b.texts;
      proper = b.proper;
      deep_is = b.deep_is;
      long_is = b.long_is;
      begun_is = omega (arith, n, begun_rest, begins);
      printed_is = omega (arith, m, printed_rest, printed);
    }
