-- What was read as bodies has their code and their texts.
use Rattle.std.proofs.Common.{◌≡◌, ℕ, zero, suc, ◌+◌, ◌<◌, ◌≤◌, List, [], ◌∷◌, ◌++◌, Bool, true, false, ◌&&◌, ◌==◌, cond, length, slice_index, Some, None, refl, sym, ap, subst, ◌∙◌, arith, append_assoc, append-nil, length-append}
use Rattle.std.proofs.lemmas.Bool.{eqb-true}
use Rattle.sial_syntax.specs.declared.condition.Cond.{Cond}
use Rattle.sial_syntax.specs.Numbering.{size, sizes}
use Rattle.sial_syntax.specs.Proper.{nesting, body_nesting}
use Rattle.sial_syntax.specs.Tree.{Block, Plain, block_of, If, IfElse, Call, Assign, Get, Request, Put, Prepare, Create, Delete, Allocate, Deallocate, Collective, SipBarrier, ServerBarrier, Print, PrintScalar, Integrals}
use Rattle.sip_tables.specs.Code.{instruction, form_code, body_code}
use Rattle.sip_tables.specs.Texts.{prints, body_prints}
use Rattle.sip_tables.specs.declared.instruction.Instruction.{Instruction}
use Rattle.sip_tables.specs.declared.instruction.Operation.{Operation}
use Rattle.sip_tables.specs.declared.instruction.Operation.TheVariants as op
use Rattle.table_verify.specs.Rest.{Left, Read, next, numbered, ◌>>=◌}
use Rattle.table_verify.specs.Closings.{begin, end_if}
use Rattle.table_verify.specs.Statements.{Inner, second, after_branch, branch, print, call, form, statement, turns, inner, body}
use Rattle.table_verify.proofs.Closed.{then_some, kept, both, Takes, taken, numbered_taken, end_if_taken}
use Rattle.table_verify.proofs.StatementsFound.{Reads, ReadsForm, Sound, moved, wrapped, do_found, do_in_found, pardo_found}

-- ---- branches

-- an `if` and its first branch were taken, and what stands behind it
record FirstBranch (entries : List ℕ) (line : ℕ) (test : Cond) (first : Block) (operation : Operation) (old new : Left) : Type 0 where
  code : old.code ≡ instruction line (op.If test (old.at + (sizes first + 2))) ∷ ((body_code entries (old.at + 1) old.text first ++ instruction line operation ∷ []) ++ new.code)
  at : new.at ≡ old.at + (sizes first + 2)
  texts : old.texts ≡ body_prints first ++ new.texts
  text : new.text ≡ old.text + length (body_prints first)

second_found : (entries : List ℕ) (depth : ℕ) (inner : Inner) → Sound entries depth inner → (line : ℕ) (test : Cond) (b : Block) (past : ℕ) (old left new : Left) (f : Plain) → body_nesting b < depth
    → FirstBranch entries line test b (op.Else past) old left → second inner line test b past left ≡ Some (f, new) → ReadsForm entries depth line f old new
unfolding second
second_found entries depth inner sound line test b past old left new f shallow head e =
    let G = ReadsForm entries depth line f old new in
    then_some G (inner left) _ (f, new) e (λ x first r. then_some G (end_if line x.1) _ (f, new) r (λ y last k. kept G (past == y.at) (IfElse test b x.0, y) (f, new) k (λ holds same.
    let s = sound left x.1 x.0 first in
    let z = end_if_taken line x.1 y last in
    let o = x.0 in
    let a1 = head.at in
    let a2 = s.0.at in
    let a3 = z.at in
    let t1 = head.text in
    let t2 = s.0.text in
    let t3 = z.text in
    let tail = instruction line op.EndIf in
    let jump : past ≡ old.at + (sizes b + (sizes o + 3)) = let h = eqb-true past y.at holds in omega (arith, h, a1, a2, a3) in
    let bc = body_code entries (old.at + 1) old.text b in
    let oc = body_code entries (old.at + (sizes b + 2)) (old.text + length (body_prints b)) o in
    let opens = instruction line (op.If test (old.at + (sizes b + 2))) in
    let inside : left.code ≡ (oc ++ tail ∷ []) ++ y.code =
    s.0.code ∙ ap (λ (c : List Instruction). body_code entries left.at left.text o ++ c) z.code ∙ moved entries o left.at left.text (old.at + (sizes b + 2)) (old.text + length (body_prints b)) (tail ∷ y.code) a1 t1
    ∙ sym (append_assoc oc (tail ∷ []) y.code) in
    let deep = s.1 in
    let printed = length-append (body_prints b) (body_prints o) in
    subst (λ (p : Plain × Left). ReadsForm entries depth line p.0 old p.1) same (record {
      code =
          head.code
          ∙ ap (λ (c : List Instruction). opens ∷ ((bc ++ instruction line (op.Else past) ∷ []) ++ c)) inside
          ∙ ap (λ (n : ℕ). opens ∷ ((bc ++ instruction line (op.Else n) ∷ []) ++ ((oc ++ tail ∷ []) ++ y.code))) jump
          ∙ ap (λ (c : List Instruction). opens ∷ c)
          (append_assoc bc (instruction line (op.Else (old.at + (sizes b + (sizes o + 3)))) ∷ []) ((oc ++ tail ∷ []) ++ y.code)
          ∙ sym (append_assoc bc (instruction line (op.Else (old.at + (sizes b + (sizes o + 3)))) ∷ (oc ++ tail ∷ [])) y.code));
      at = omega (arith, a1, a2, a3);
      texts = head.texts ∙ ap (λ (u : List (List ℕ)). body_prints b ++ u) (s.0.texts ∙ ap (λ (u : List (List ℕ)). body_prints o ++ u) z.texts) ∙ sym (append_assoc (body_prints b) (body_prints o) y.texts);
      text = omega (arith, t1, t2, t3, printed);
      deep = omega (arith, deep, shallow);
    }))))

after_found : (entries : List ℕ) (depth : ℕ) (inner : Inner) → Sound entries depth inner → (line : ℕ) (test : Cond) (b : Block) (o : Operation) (old left new : Left) (f : Plain) → body_nesting b < depth
    → FirstBranch entries line test b o old left → after_branch inner line test b o left ≡ Some (f, new) → ReadsForm entries depth line f old new
after_found entries depth inner sound line test b op.EndIf old left new f shallow head e =
    let p : ◌≡◌ {A = Plain × Left} (If test b, left) (f, new) = cc in
    subst (λ (q : Plain × Left). ReadsForm entries depth line q.0 old q.1) p (record { code = head.code; at = head.at; texts = head.texts; text = head.text; deep = omega (arith, shallow) })
after_found entries depth inner sound line test b (op.Else past) old left new f shallow head e = second_found entries depth inner sound line test b past old left new f shallow head e
after_found entries depth inner sound line test b _ old left new f shallow head e = absurd cc

branch_by : (entries : List ℕ) (depth : ℕ) (inner : Inner) → Sound entries depth inner → (line : ℕ) (test : Cond) (otherwise : ℕ) (old left new : Left) (f : Plain) → Takes (instruction line (op.If test otherwise)) old left
    → (x : Block × Left) → inner left ≡ Some x → (y : Instruction × Left) → next x.1 ≡ Some y → (holds : Bool) → ((y.0.line == line) && (otherwise == y.1.at)) ≡ holds
    → cond holds (after_branch inner line test x.0 y.0.operation y.1) None ≡ Some (f, new) → ReadsForm entries depth line f old new
branch_by entries depth inner sound line test otherwise old left new f head x first y last false is e = absurd cc
branch_by entries depth inner sound line test otherwise old left new f head x first y last true is e =
    let s = sound left x.1 x.0 first in
    let h = both (y.0.line == line) (otherwise == y.1.at) is in
    let tail = taken x.1 y.0 y.1 last in
    let w = wrapped entries (instruction line (op.If test otherwise)) y.0 x.0 old left x.1 y.1 head s.0 tail in
    let jump : otherwise ≡ old.at + (sizes x.0 + 2) = eqb-true otherwise y.1.at h.1 ∙ w.at in
    let bc = body_code entries (old.at + 1) old.text x.0 in
    after_found entries depth inner sound line test x.0 y.0.operation old y.1 new f s.1 (record {
      code =
          w.code
          ∙ ap (λ (n : ℕ). instruction line (op.If test n) ∷ ((bc ++ y.0 ∷ []) ++ y.1.code)) jump
          ∙ ap (λ (l : ℕ). instruction line (op.If test (old.at + (sizes x.0 + 2))) ∷ ((bc ++ instruction l y.0.operation ∷ []) ++ y.1.code)) (eqb-true y.0.line line h.0);
      at = w.at;
      texts = w.texts;
      text = w.text;
    }) e

branch_found : (entries : List ℕ) (depth : ℕ) (inner : Inner) → Sound entries depth inner → (line : ℕ) (test : Cond) (otherwise : ℕ) (old left new : Left) (f : Plain) → Takes (instruction line (op.If test otherwise)) old left
    → branch inner line test otherwise left ≡ Some (f, new) → ReadsForm entries depth line f old new
unfolding branch
branch_found entries depth inner sound line test otherwise old left new f head e =
    let G = ReadsForm entries depth line f old new in
    then_some G (inner left) _ (f, new) e (λ x first r. then_some G (next x.1) (λ y. cond ((y.0.line == line) && (otherwise == y.1.at)) (after_branch inner line test x.0 y.0.operation y.1) None) (f, new) r (λ y last k.
    branch_by entries depth inner sound line test otherwise old left new f head x first y last ((y.0.line == line) && (otherwise == y.1.at)) refl k))

-- ---- statements that are one instruction

-- a statement of one instruction that prints nothing
one : (entries : List ℕ) (depth line : ℕ) (operation : Operation) (f : Plain) (old left : Left) → Takes (instruction line operation) old left → form_code entries old.at old.text line f ≡ instruction line operation ∷ [] → size f ≡ 1 → prints f ≡ [] → nesting f ≡ 0
    → ReadsForm entries depth line f old left
one entries depth line operation f old left head code size_is none flat = record {
  code = head.code ∙ ap (λ (c : List Instruction). c ++ left.code) (sym code);
  at = head.at ∙ ap (λ (n : ℕ). old.at + n) (sym size_is);
  texts = head.texts ∙ ap (λ (u : List (List ℕ)). u ++ left.texts) (sym none);
  text = let k : old.text ≡ old.text + 0 = omega arith in head.text ∙ k ∙ ap (λ (u : List (List ℕ)). old.text + length u) (sym none);
  deep = omega (arith, flat);
}

-- the same of what was read
lone : (entries : List ℕ) (depth line : ℕ) (operation : Operation) (f : Plain) (old left : Left) (g : Plain) (new : Left) → Takes (instruction line operation) old left → form_code entries old.at old.text line f ≡ instruction line operation ∷ [] → size f ≡ 1 → prints f ≡ [] → nesting f ≡ 0
    → ◌≡◌ {A = Read Plain} (Some (f, left)) (Some (g, new)) → ReadsForm entries depth line g old new
lone entries depth line operation f old left g new head code size_is none flat e =
    let p : ◌≡◌ {A = Plain × Left} (f, left) (g, new) = cc in
    subst (λ (q : Plain × Left). ReadsForm entries depth line q.0 old q.1) p (one entries depth line operation f old left head code size_is none flat)

call_found : (entries : List ℕ) (depth line procedure entry : ℕ) (old left new : Left) (f : Plain) → Takes (instruction line (op.Call procedure entry)) old left → call entries procedure entry left ≡ Some (f, new) → ReadsForm entries depth line f old new
unfolding call
call_found entries depth line procedure entry old left new f head e =
    kept (ReadsForm entries depth line f old new) (entry == slice_index entries procedure) (Call procedure, left) (f, new) e (λ holds same.
    subst (λ (q : Plain × Left). ReadsForm entries depth line q.0 old q.1) same
    (one entries depth line (op.Call procedure entry) (Call procedure) old left head (ap (λ (n : ℕ). instruction line (op.Call procedure n) ∷ []) (sym (eqb-true entry (slice_index entries procedure) holds))) refl refl refl))

print_found : (entries : List ℕ) (depth line number : ℕ) (old left new : Left) (f : Plain) → Takes (instruction line (op.Print number)) old left → print number left ≡ Some (f, new) → ReadsForm entries depth line f old new
unfolding print
print_found entries depth line number old left new f head e =
    then_some (ReadsForm entries depth line f old new) (numbered number left) (λ x. Some (Print x.0, x.1)) (f, new) e (λ x first k.
    let t = numbered_taken number left x.0 x.1 first in
    let p : ◌≡◌ {A = Plain × Left} (Print x.0, x.1) (f, new) = cc in
    let a = head.at in
    let b = t.1.at in
    let c = head.text in
    let d = t.1.text in
    subst (λ (q : Plain × Left). ReadsForm entries depth line q.0 old q.1) p (record {
      code = head.code ∙ ap (λ (r : List Instruction). instruction line (op.Print number) ∷ r) t.1.code ∙ ap (λ (n : ℕ). instruction line (op.Print n) ∷ x.1.code) (t.0 ∙ c);
      at = omega (arith, a, b);
      texts = head.texts ∙ t.1.texts;
      text = omega (arith, c, d);
      deep = omega arith;
    }))

form_found : (entries : List ℕ) (depth : ℕ) (inner : Inner) → Sound entries depth inner → (most line : ℕ) (o : Operation) (old left new : Left) (f : Plain) → Takes (instruction line o) old left
    → form entries most inner old.at line o left ≡ Some (f, new) → ReadsForm entries depth line f old new
form_found entries depth inner sound most line (op.Do index past) old left new f head e = do_found entries depth inner sound line index past old left new f head e
form_found entries depth inner sound most line (op.DoIn sub index past) old left new f head e = do_in_found entries depth inner sound line sub index past old left new f head e
form_found entries depth inner sound most line (op.Pardo indices last) old left new f head e = pardo_found entries depth inner sound most line indices last old left new f head e
form_found entries depth inner sound most line (op.If test otherwise) old left new f head e = branch_found entries depth inner sound line test otherwise old left new f head e
form_found entries depth inner sound most line (op.Print number) old left new f head e = print_found entries depth line number old left new f head e
form_found entries depth inner sound most line (op.Call procedure entry) old left new f head e = call_found entries depth line procedure entry old left new f head e
form_found entries depth inner sound most line (op.Assign target combining right) old left new f head e = lone entries depth line (op.Assign target combining right) (Assign target combining right) old left f new head refl refl refl refl e
form_found entries depth inner sound most line (op.Get block) old left new f head e = lone entries depth line (op.Get block) (Get block) old left f new head refl refl refl refl e
form_found entries depth inner sound most line (op.Request block) old left new f head e = lone entries depth line (op.Request block) (Request block) old left f new head refl refl refl refl e
form_found entries depth inner sound most line (op.Put block how from) old left new f head e = lone entries depth line (op.Put block how from) (Put block how from) old left f new head refl refl refl refl e
form_found entries depth inner sound most line (op.Prepare block how from) old left new f head e = lone entries depth line (op.Prepare block how from) (Prepare block how from) old left f new head refl refl refl refl e
form_found entries depth inner sound most line (op.Create array) old left new f head e = lone entries depth line (op.Create array) (Create array) old left f new head refl refl refl refl e
form_found entries depth inner sound most line (op.Delete array) old left new f head e = lone entries depth line (op.Delete array) (Delete array) old left f new head refl refl refl refl e
form_found entries depth inner sound most line (op.Allocate array slots) old left new f head e = lone entries depth line (op.Allocate array slots) (Allocate array slots) old left f new head refl refl refl refl e
form_found entries depth inner sound most line (op.Deallocate array slots) old left new f head e = lone entries depth line (op.Deallocate array slots) (Deallocate array slots) old left f new head refl refl refl refl e
form_found entries depth inner sound most line (op.Collective into from) old left new f head e = lone entries depth line (op.Collective into from) (Collective into from) old left f new head refl refl refl refl e
form_found entries depth inner sound most line op.SipBarrier old left new f head e = lone entries depth line op.SipBarrier SipBarrier old left f new head refl refl refl refl e
form_found entries depth inner sound most line op.ServerBarrier old left new f head e = lone entries depth line op.ServerBarrier ServerBarrier old left f new head refl refl refl refl e
form_found entries depth inner sound most line (op.PrintScalar scalar) old left new f head e = lone entries depth line (op.PrintScalar scalar) (PrintScalar scalar) old left f new head refl refl refl refl e
form_found entries depth inner sound most line (op.Integrals block) old left new f head e = lone entries depth line (op.Integrals block) (Integrals block) old left f new head refl refl refl refl e
form_found entries depth inner sound most line _ old left new f head e = absurd cc

-- ---- statements

statement_found : (entries : List ℕ) (depth : ℕ) (inner : Inner) → Sound entries depth inner → (most : ℕ) (left new : Left) (x : ℕ × Plain) → statement entries most inner left ≡ Some (x, new) → ReadsForm entries depth x.0 x.1 left new
unfolding statement
statement_found entries depth inner sound most left new x e =
    let G = ReadsForm entries depth x.0 x.1 left new in
    then_some G (next left) (λ i. form entries most inner left.at i.0.line i.0.operation i.1 >>= λ y. Some ((i.0.line, y.0), y.1)) (x, new) e (λ i first r.
    then_some G (form entries most inner left.at i.0.line i.0.operation i.1) (λ y. Some ((i.0.line, y.0), y.1)) (x, new) r (λ y second k.
    let p : ◌≡◌ {A = (ℕ × Plain) × Left} ((i.0.line, y.0), y.1) (x, new) = cc in
    subst (λ (q : (ℕ × Plain) × Left). ReadsForm entries depth q.0.0 q.0.1 left q.1) p
    (form_found entries depth inner sound most i.0.line i.0.operation left i.1 y.1 y.0 (taken left i.0 i.1 first) second)))

-- ---- bodies

abbrev TurnsFound : (entries : List ℕ) → (depth : ℕ) → (front : List (ℕ × Plain)) → Left → Block → Left → Type 0
TurnsFound entries depth front left b new = (others : List (ℕ × Plain)) × ((b ≡ block_of (front ++ others)) × (Reads entries (block_of others) left new × (body_nesting (block_of others) ≤ depth)))

none_found : (entries : List ℕ) (depth : ℕ) (front : List (ℕ × Plain)) (left : Left) (b : Block) (new : Left) → ◌≡◌ {A = Read Block} (Some (block_of front, left)) (Some (b, new)) → TurnsFound entries depth front left b new
none_found entries depth front left b new e =
    let p : ◌≡◌ {A = Block × Left} (block_of front, left) (b, new) = cc in
    let k : left.at ≡ left.at + 0 = omega arith in
    let t : left.text ≡ left.text + 0 = omega arith in
    subst (λ (q : Block × Left). TurnsFound entries depth front left q.0 q.1) p
    ([], (ap block_of (sym (append-nil front)), (record { code = refl; at = k; texts = refl; text = t }, omega arith)))

one_found : (entries : List ℕ) (depth : ℕ) (front : List (ℕ × Plain)) (left mid : Left) (x : ℕ × Plain) (b : Block) (new : Left) → ReadsForm entries depth x.0 x.1 left mid → TurnsFound entries depth (front ++ x ∷ []) mid b new
    → TurnsFound entries depth front left b new
one_found entries depth front left mid x b new head found =
    let rest = block_of found.0 in
    let s = found.1.1.0 in
    let a0 = head.at in
    let a1 = s.at in
    let t0 = head.text in
    let t1 = s.text in
    let fc = form_code entries left.at left.text x.0 x.1 in
    let rc = body_code entries (left.at + size x.1) (left.text + length (prints x.1)) rest in
    let printed = length-append (prints x.1) (body_prints rest) in
    let d0 = head.deep in
    let d1 = found.1.1.1 in (
      x ∷ found.0,
      (
        found.1.0 ∙ ap block_of (append_assoc front (x ∷ []) found.0),
        (
          record {
            code = head.code ∙ ap (λ (c : List Instruction). fc ++ c) (s.code ∙ moved entries rest mid.at mid.text (left.at + size x.1) (left.text + length (prints x.1)) new.code a0 t0) ∙ sym (append_assoc fc rc new.code);
            at = omega (arith, a0, a1);
            texts = head.texts ∙ ap (λ (u : List (List ℕ)). prints x.1 ++ u) s.texts ∙ sym (append_assoc (prints x.1) (body_prints rest) new.texts);
            text = omega (arith, t0, t1, printed);
          },
          omega (arith, d0, d1),
        ),
      ),
    )

turn_found : (entries : List ℕ) (depth : ℕ) (inner : Inner) → Sound entries depth inner → (most n : ℕ)
    → ((front : List (ℕ × Plain)) (left : Left) (b : Block) (new : Left) → turns entries most inner n front left ≡ Some (b, new) → TurnsFound entries depth front left b new)
    → (front : List (ℕ × Plain)) (left : Left) (b : Block) (new : Left) → (begins : Bool) → cond begins (statement entries most inner left >>= λ x. turns entries most inner n (front ++ x.0 ∷ []) x.1) (Some (block_of front, left)) ≡ Some (b, new)
    → TurnsFound entries depth front left b new
turn_found entries depth inner sound most n again front left b new false e = none_found entries depth front left b new e
turn_found entries depth inner sound most n again front left b new true e =
    then_some (TurnsFound entries depth front left b new) (statement entries most inner left) (λ x. turns entries most inner n (front ++ x.0 ∷ []) x.1) (b, new) e (λ x first r.
    one_found entries depth front left x.1 x.0 b new (statement_found entries depth inner sound most left x.1 x.0 first) (again (front ++ x.0 ∷ []) x.1 b new r))

turns_found : (entries : List ℕ) (depth : ℕ) (inner : Inner) → Sound entries depth inner → (most n : ℕ) (front : List (ℕ × Plain)) (left : Left) (b : Block) (new : Left) → turns entries most inner n front left ≡ Some (b, new)
    → TurnsFound entries depth front left b new
unfolding turns
turns_found entries depth inner sound most zero front left b new e = none_found entries depth front left b new e
turns_found entries depth inner sound most (suc n) front left b new e = turn_found entries depth inner sound most n (turns_found entries depth inner sound most n) front left b new (begin left.code) e

body_by : (entries : List ℕ) (depth : ℕ) (inner : Inner) → Sound entries depth inner → (most : ℕ) (left new : Left) (b : Block) → turns entries most inner most [] left ≡ Some (b, new) → Reads entries b left new × (body_nesting b ≤ depth)
body_by entries depth inner sound most left new b e =
    let found = turns_found entries depth inner sound most most [] left b new e in
    subst (λ (c : Block). Reads entries c left new × (body_nesting c ≤ depth)) (sym found.1.0) found.1.1

inner_found : (entries : List ℕ) (most depth : ℕ) → Sound entries depth (inner entries most depth)
inner_found entries most zero left new b e = absurd cc
inner_found entries most (suc depth) left new b e =
    let found = body_by entries depth (inner entries most depth) (inner_found entries most depth) most left new b e in
    let deep = found.1 in
    (found.0, omega (arith, deep))

-- statements that were read in which so much may nest
pub body_found : (entries : List ℕ) (most depth : ℕ) (left new : Left) (b : Block) → body entries most depth left ≡ Some (b, new) → Reads entries b left new × (body_nesting b ≤ depth)
body_found entries most depth left new b e = body_by entries depth (inner entries most depth) (inner_found entries most depth) most left new b e
