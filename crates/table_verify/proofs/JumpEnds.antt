-- The jumps of a program, told by its outline.
use Rattle.std.proofs.Common.{◌≡◌, ℕ, suc, ◌+◌, List, [], ◌∷◌, ◌++◌, length, refl, sym, ap, ◌∙◌, arith, append_assoc}
use Rattle.sial_syntax.specs.declared.condition.Cond.{Cond}
use Rattle.sial_syntax.specs.Numbering.{size, sizes, procedure_size}
use Rattle.sial_syntax.specs.Tree.{Tree, Procedure, Block, End, Then, Plain, Do, DoIn, Pardo, If, IfElse, Call, Assign, Get, Request, Put, Prepare, Create, Delete, Allocate, Deallocate, Collective, SipBarrier, ServerBarrier, Print, PrintScalar, Integrals}
use Rattle.sip_tables.specs.Code.{instruction, wheres_code, form_code, body_code, procedures_code, entries_of}
use Rattle.sip_tables.specs.declared.instruction.Instruction.{Instruction}
use Rattle.sip_tables.specs.declared.instruction.Operation.TheVariants as op
use Rattle.sip_tables.specs.Flatten.{flatten}
use Rattle.sip_tables.specs.Texts.{names, prints, body_prints}
use Rattle.sip_tables.proofs.CodeLemmas.{length-wheres_code, length-body_code, length-form_code}
use Rattle.table_verify.specs.Jumps.{Jump, jump, jumps}
use Rattle.table_verify.specs.Outline.{Role, Loop, Pardo, Branch, Other, EndLoop, EndPardo, EndBranch, EndProgram, EndProcedure, Mark, outline}
use Rattle.table_verify.proofs.InLemmas.{Same, same, then_same, same_both, moved}
use Rattle.table_verify.proofs.OutlineLemmas.{at, tests, form_marks, body_marks, procedures_marks, program_marks, program_outline}

abbrev pub leap : (place reach : ℕ) → Jump
leap place reach = record { at = place; reach = reach }

-- ---- what marks tell

-- the jumps that are told at an instruction, by the numbers of the heads that are open
abbrev pub told : (place : ℕ) → Role → List ℕ → List Jump
told place EndLoop (h ∷ heads) = leap h (place + 1) ∷ leap place h ∷ []
told place EndPardo (h ∷ heads) = leap h (place + 1) ∷ leap place h ∷ []
told place Other (h ∷ heads) = leap h (place + 1) ∷ []
told place EndBranch (h ∷ heads) = leap h (place + 1) ∷ []
told place _ _ = []

-- the numbers of the heads that are open behind it
abbrev pub open_after : (place : ℕ) → Role → List ℕ → List ℕ
open_after place Loop heads = place ∷ heads
open_after place Pardo heads = place ∷ heads
open_after place Branch heads = place ∷ heads
open_after place Other (h ∷ heads) = place ∷ heads
open_after place EndLoop (h ∷ heads) = heads
open_after place EndPardo (h ∷ heads) = heads
open_after place EndBranch (h ∷ heads) = heads
open_after place _ heads = heads

-- all jumps that marks tell, in order of the ends
abbrev pub all_told : (place : ℕ) → List ℕ → List Mark → List Jump
all_told place heads [] = []
all_told place heads (m ∷ ms) = told place m.role heads ++ all_told (place + 1) (open_after place m.role heads) ms

-- ---- the same by the tree

abbrev mutual
  pub form_told : (place : ℕ) → Plain → List Jump
  form_told place (Do index b) = body_told (place + 1) b ++ (leap place (place + 1 + sizes b + 1) ∷ leap (place + 1 + sizes b) place ∷ [])
  form_told place (DoIn sub index b) = body_told (place + 1) b ++ (leap place (place + 1 + sizes b + 1) ∷ leap (place + 1 + sizes b) place ∷ [])
  form_told place (Pardo indices ws b) =
      body_told (place + 1 + length ws) b ++ (leap place (place + 1 + length ws + sizes b + 1) ∷ leap (place + 1 + length ws + sizes b) place ∷ [])
  form_told place (If test b) = body_told (place + 1) b ++ (leap place (place + 1 + sizes b + 1) ∷ [])
  form_told place (IfElse test b o) =
      body_told (place + 1) b ++ (leap place (place + 1 + sizes b + 1) ∷ (body_told (place + 1 + sizes b + 1) o ++ (leap (place + 1 + sizes b) (place + 1 + sizes b + 1 + sizes o + 1) ∷ [])))
  form_told place _ = []

  pub body_told : (place : ℕ) → Block → List Jump
  body_told place End = []
  body_told place (Then line f rest) = form_told place f ++ body_told (place + size f) rest

abbrev pub procedures_told : (place : ℕ) → List Procedure → List Jump
procedures_told place [] = []
procedures_told place (q ∷ qs) = body_told place q.body ++ procedures_told (place + sizes q.body + 1) qs

abbrev pub program_told : Tree → List Jump
program_told p = body_told 0 p.body ++ procedures_told (sizes p.body + 1) p.procedures

-- ---- marks of a tree tell this

-- marks that stand at another number, written otherwise
moved_to : (place other : ℕ) (heads : List ℕ) (ms : List Mark) → place ≡ other → all_told place heads ms ≡ all_told other heads ms
moved_to place other heads ms e = ap (λ (n : ℕ). all_told n heads ms) e

tests_told : (line place : ℕ) (ws : List Cond) (heads : List ℕ) (ms : List Mark) → all_told place heads (tests line ws ++ ms) ≡ all_told (place + length ws) heads ms
tests_told line place [] heads ms = moved_to place (place + 0) heads ms (omega arith)
tests_told line place (w ∷ ws) heads ms = tests_told line (place + 1) ws heads ms ∙ moved_to (place + 1 + length ws) (place + suc (length ws)) heads ms (omega arith)

-- what a body tells, with what stands behind it
after_body : (b : Block) (place : ℕ) (heads : List ℕ) (m : Mark) (ms : List Mark) → ((ns : List Mark) → all_told place heads (body_marks b ++ ns) ≡ body_told place b ++ all_told (place + sizes b) heads ns)
    → all_told place heads ((body_marks b ++ m ∷ []) ++ ms) ≡ body_told place b ++ all_told (place + sizes b) heads (m ∷ ms)
after_body b place heads m ms is = ap (λ (ns : List Mark). all_told place heads ns) (append_assoc (body_marks b) (m ∷ []) ms) ∙ is (m ∷ ms)

mutual
  form_tells : (line place : ℕ) (f : Plain) (heads : List ℕ) (ms : List Mark) → all_told place heads (form_marks line f ++ ms) ≡ form_told place f ++ all_told (place + size f) heads ms
  form_tells line place (Do index b) heads ms =
      let y = place + 1 + sizes b in
      let tail = leap place (y + 1) ∷ leap y place ∷ [] in
      after_body b (place + 1) (place ∷ heads) (at line EndLoop) ms (λ ns. body_tells (place + 1) b (place ∷ heads) ns)
      ∙ ap (λ (js : List Jump). body_told (place + 1) b ++ (tail ++ js)) (moved_to (y + 1) (place + (sizes b + 2)) heads ms (omega arith))
      ∙ sym (append_assoc (body_told (place + 1) b) tail (all_told (place + (sizes b + 2)) heads ms))
  form_tells line place (DoIn sub index b) heads ms =
      let y = place + 1 + sizes b in
      let tail = leap place (y + 1) ∷ leap y place ∷ [] in
      after_body b (place + 1) (place ∷ heads) (at line EndLoop) ms (λ ns. body_tells (place + 1) b (place ∷ heads) ns)
      ∙ ap (λ (js : List Jump). body_told (place + 1) b ++ (tail ++ js)) (moved_to (y + 1) (place + (sizes b + 2)) heads ms (omega arith))
      ∙ sym (append_assoc (body_told (place + 1) b) tail (all_told (place + (sizes b + 2)) heads ms))
  form_tells line place (Pardo indices ws b) heads ms =
      let from = place + 1 + length ws in
      let y = from + sizes b in
      let tail = leap place (y + 1) ∷ leap y place ∷ [] in
      let inside = body_marks b ++ at line EndPardo ∷ [] in
      ap (λ (ns : List Mark). all_told (place + 1) (place ∷ heads) ns) (append_assoc (tests line ws) inside ms)
      ∙ tests_told line (place + 1) ws (place ∷ heads) (inside ++ ms)
      ∙ after_body b from (place ∷ heads) (at line EndPardo) ms (λ ns. body_tells from b (place ∷ heads) ns)
      ∙ ap (λ (js : List Jump). body_told from b ++ (tail ++ js)) (moved_to (y + 1) (place + (length ws + (sizes b + 2))) heads ms (omega arith))
      ∙ sym (append_assoc (body_told from b) tail (all_told (place + (length ws + (sizes b + 2))) heads ms))
  form_tells line place (If test b) heads ms =
      let y = place + 1 + sizes b in
      let tail = leap place (y + 1) ∷ [] in
      after_body b (place + 1) (place ∷ heads) (at line EndBranch) ms (λ ns. body_tells (place + 1) b (place ∷ heads) ns)
      ∙ ap (λ (js : List Jump). body_told (place + 1) b ++ (tail ++ js)) (moved_to (y + 1) (place + (sizes b + 2)) heads ms (omega arith))
      ∙ sym (append_assoc (body_told (place + 1) b) tail (all_told (place + (sizes b + 2)) heads ms))
  form_tells line place (IfElse test b o) heads ms =
      let y = place + 1 + sizes b in
      let z = y + 1 + sizes o in
      let tail = leap y (z + 1) ∷ [] in
      let second = body_marks o ++ at line EndBranch ∷ [] in
      let whole = place + size (IfElse test b o) in
      let rest = all_told whole heads ms in
      let os = body_told (y + 1) o in
      ap (λ (ns : List Mark). all_told (place + 1) (place ∷ heads) ns) (append_assoc (body_marks b) (at line Other ∷ second) ms)
      ∙ body_tells (place + 1) b (place ∷ heads) (at line Other ∷ (second ++ ms))
      ∙ ap (λ (js : List Jump). body_told (place + 1) b ++ (leap place (y + 1) ∷ js))
      (after_body o (y + 1) (y ∷ heads) (at line EndBranch) ms (λ ns. body_tells (y + 1) o (y ∷ heads) ns)
      ∙ ap (λ (js : List Jump). os ++ (tail ++ js)) (moved_to (z + 1) whole heads ms (omega arith))
      ∙ sym (append_assoc os tail rest))
      ∙ sym (append_assoc (body_told (place + 1) b) (leap place (y + 1) ∷ (os ++ tail)) rest)
  form_tells line place (Call procedure) heads ms = refl
  form_tells line place (Assign target combining right) heads ms = refl
  form_tells line place (Get block) heads ms = refl
  form_tells line place (Request block) heads ms = refl
  form_tells line place (Put block how from) heads ms = refl
  form_tells line place (Prepare block how from) heads ms = refl
  form_tells line place (Create array) heads ms = refl
  form_tells line place (Delete array) heads ms = refl
  form_tells line place (Allocate array slots) heads ms = refl
  form_tells line place (Deallocate array slots) heads ms = refl
  form_tells line place (Collective into from) heads ms = refl
  form_tells line place SipBarrier heads ms = refl
  form_tells line place ServerBarrier heads ms = refl
  form_tells line place (Print text) heads ms = refl
  form_tells line place (PrintScalar scalar) heads ms = refl
  form_tells line place (Integrals block) heads ms = refl

  body_tells : (place : ℕ) (b : Block) (heads : List ℕ) (ms : List Mark) → all_told place heads (body_marks b ++ ms) ≡ body_told place b ++ all_told (place + sizes b) heads ms
  body_tells place End heads ms = moved_to place (place + 0) heads ms (omega arith)
  body_tells place (Then line f rest) heads ms =
      let behind = place + size f in
      ap (λ (ns : List Mark). all_told place heads ns) (append_assoc (form_marks line f) (body_marks rest) ms)
      ∙ form_tells line place f heads (body_marks rest ++ ms)
      ∙ ap (λ (js : List Jump). form_told place f ++ js) (body_tells behind rest heads ms
      ∙ ap (λ (js : List Jump). body_told behind rest ++ js) (moved_to (behind + sizes rest) (place + (size f + sizes rest)) heads ms (omega arith)))
      ∙ sym (append_assoc (form_told place f) (body_told behind rest) (all_told (place + (size f + sizes rest)) heads ms))

procedures_tell : (place : ℕ) (qs : List Procedure) → all_told place [] (procedures_marks qs) ≡ procedures_told place qs
procedures_tell place [] = refl
procedures_tell place (q ∷ qs) =
    body_tells place q.body [] (at 0 EndProcedure ∷ procedures_marks qs)
    ∙ ap (λ (js : List Jump). body_told place q.body ++ js) (procedures_tell (place + sizes q.body + 1) qs)

program_tells : (p : Tree) → all_told 0 [] (program_marks p) ≡ program_told p
program_tells p =
    let near : 0 + sizes p.body ≡ sizes p.body = omega arith in
    body_tells 0 p.body [] (at 0 EndProgram ∷ procedures_marks p.procedures)
    ∙ ap (λ (n : ℕ). body_told 0 p.body ++ all_told (n + 1) [] (procedures_marks p.procedures)) near
    ∙ ap (λ (js : List Jump). body_told 0 p.body ++ js) (procedures_tell (sizes p.body + 1) p.procedures)

-- ---- its code has these jumps

pub jumps_append : (place : ℕ) (xs ys : List Instruction) → jumps place (xs ++ ys) ≡ jumps place xs ++ jumps (place + length xs) ys
jumps_append place [] ys = let near : place ≡ place + 0 = omega arith in ap (λ (n : ℕ). jumps n ys) near
jumps_append place (x ∷ xs) ys =
    let near : place + 1 + length xs ≡ place + suc (length xs) = omega arith in
    ap (λ (js : List Jump). jump place x.operation ++ js) (jumps_append (place + 1) xs ys ∙ ap (λ (n : ℕ). jumps (place + 1) xs ++ jumps n ys) near)
    ∙ sym (append_assoc (jump place x.operation) (jumps (place + 1) xs) (jumps (place + suc (length xs)) ys))

tests_jump : (line place : ℕ) (ws : List Cond) → jumps place (wheres_code line ws) ≡ []
tests_jump line place [] = refl
tests_jump line place (w ∷ ws) = tests_jump line (place + 1) ws

-- code and what stands behind it, which begins at a known number
code_then : (place length_is : ℕ) (code rest : List Instruction) → length code ≡ length_is → jumps place (code ++ rest) ≡ jumps place code ++ jumps (place + length_is) rest
code_then place length_is code rest e = jumps_append place code rest ∙ ap (λ (n : ℕ). jumps place code ++ jumps (place + n) rest) e

module _ (entries : List ℕ) where
  -- a body, and one instruction behind it, in the order of the ends
  closed_same : (place from text : ℕ) (b : Block) (last : Instruction) (reach : ℕ) → Same (jumps from (body_code entries from text b)) (body_told from b)
      → Same (leap place reach ∷ jumps from (body_code entries from text b ++ last ∷ [])) (body_told from b ++ (leap place reach ∷ (jump (from + sizes b) last.operation ++ [])))
  closed_same place from text b last reach is =
      let bc = body_code entries from text b in
      let behind = jump (from + sizes b) last.operation ++ [] in
      then_same (same (ap (λ (js : List Jump). leap place reach ∷ js) (code_then from (sizes b) bc (last ∷ []) (length-body_code entries from text b))))
      (then_same (moved (leap place reach) (jumps from bc) behind) (same_both (jumps from bc) (body_told from b) (leap place reach ∷ behind) (leap place reach ∷ behind) is (same refl)))

  told_as : (place reach other : ℕ) (js : List Jump) → reach ≡ other → leap place reach ∷ js ≡ leap place other ∷ js
  told_as place reach other js e = ap (λ (n : ℕ). leap place n ∷ js) e

  mutual
    form_same : (place text line : ℕ) (f : Plain) → Same (jumps place (form_code entries place text line f)) (form_told place f)
    form_same place text line (Do index b) =
        let to : place + (sizes b + 2) ≡ place + 1 + sizes b + 1 = omega arith in
        then_same (same (told_as place (place + (sizes b + 2)) (place + 1 + sizes b + 1) (jumps (place + 1) (body_code entries (place + 1) text b ++ instruction line (op.EndDo place) ∷ [])) to))
        (closed_same place (place + 1) text b (instruction line (op.EndDo place)) (place + 1 + sizes b + 1) (body_same (place + 1) text b))
    form_same place text line (DoIn sub index b) =
        let to : place + (sizes b + 2) ≡ place + 1 + sizes b + 1 = omega arith in
        then_same (same (told_as place (place + (sizes b + 2)) (place + 1 + sizes b + 1) (jumps (place + 1) (body_code entries (place + 1) text b ++ instruction line (op.EndDo place) ∷ [])) to))
        (closed_same place (place + 1) text b (instruction line (op.EndDo place)) (place + 1 + sizes b + 1) (body_same (place + 1) text b))
    form_same place text line (Pardo indices ws b) =
        let from = place + (1 + length ws) in
        let near = place + 1 + length ws in
        let froms : from ≡ near = omega arith in
        let inside = body_code entries from text b ++ instruction line (op.EndPardo place) ∷ [] in
        let to : place + (1 + (length ws + sizes b)) + 1 ≡ near + sizes b + 1 = omega arith in
        let tests : jumps (place + 1) (wheres_code line ws ++ inside) ≡ jumps from inside =
        code_then (place + 1) (length ws) (wheres_code line ws) inside (length-wheres_code line ws) ∙ (ap (λ (js : List Jump). js ++ jumps near inside) (tests_jump line (place + 1) ws) ∙ ap (λ (n : ℕ). jumps n inside) (sym froms)) in
        then_same (same (ap (λ (js : List Jump). leap place (place + (1 + (length ws + sizes b)) + 1) ∷ js) tests ∙ told_as place (place + (1 + (length ws + sizes b)) + 1) (near + sizes b + 1) (jumps from inside) to))
        (then_same (closed_same place from text b (instruction line (op.EndPardo place)) (near + sizes b + 1) (body_same from text b))
        (same (ap (λ (n : ℕ). body_told n b ++ (leap place (near + sizes b + 1) ∷ leap (n + sizes b) place ∷ [])) froms)))
    form_same place text line (If test b) =
        let to : place + (sizes b + 2) ≡ place + 1 + sizes b + 1 = omega arith in
        then_same (same (told_as place (place + (sizes b + 2)) (place + 1 + sizes b + 1) (jumps (place + 1) (body_code entries (place + 1) text b ++ instruction line op.EndIf ∷ [])) to))
        (closed_same place (place + 1) text b (instruction line op.EndIf) (place + 1 + sizes b + 1) (body_same (place + 1) text b))
    form_same place text line (IfElse test b o) =
        let y = place + 1 + sizes b in
        let z = y + 1 + sizes o in
        let second = place + (sizes b + 2) in
        let seconds : second ≡ y + 1 = omega arith in
        let ends : place + size (IfElse test b o) ≡ z + 1 = omega arith in
        let oc = body_code entries second (text + length (body_prints b)) o in
        let bc = body_code entries (place + 1) text b in
        let last = instruction line op.EndIf in
        let behind = instruction line (op.Else (place + size (IfElse test b o))) ∷ (oc ++ last ∷ []) in
        let other : Same (jumps y behind) (body_told (y + 1) o ++ (leap y (z + 1) ∷ [])) =
        then_same (same (ap (λ (n : ℕ). leap y n ∷ jumps (y + 1) (oc ++ last ∷ [])) ends ∙ ap (λ (n : ℕ). leap y (z + 1) ∷ jumps n (oc ++ last ∷ [])) (sym seconds)))
        (then_same (closed_same y second (text + length (body_prints b)) o last (z + 1) (body_same second (text + length (body_prints b)) o))
        (same (ap (λ (n : ℕ). body_told n o ++ (leap y (z + 1) ∷ [])) seconds))) in
        then_same (same (told_as place second (y + 1) (jumps (place + 1) (bc ++ behind)) seconds
        ∙ ap (λ (js : List Jump). leap place (y + 1) ∷ js) (code_then (place + 1) (sizes b) bc behind (length-body_code entries (place + 1) text b))))
        (then_same (moved (leap place (y + 1)) (jumps (place + 1) bc) (jumps y behind))
        (same_both (jumps (place + 1) bc) (body_told (place + 1) b) (leap place (y + 1) ∷ jumps y behind) (leap place (y + 1) ∷ (body_told (y + 1) o ++ (leap y (z + 1) ∷ []))) (body_same (place + 1) text b)
        (same_both (leap place (y + 1) ∷ []) (leap place (y + 1) ∷ []) (jumps y behind) (body_told (y + 1) o ++ (leap y (z + 1) ∷ [])) (same refl) other)))
    form_same place text line _ = same refl

    body_same : (place text : ℕ) (b : Block) → Same (jumps place (body_code entries place text b)) (body_told place b)
    body_same place text End = same refl
    body_same place text (Then line f rest) =
        let fc = form_code entries place text line f in
        let rc = body_code entries (place + size f) (text + length (prints f)) rest in
        then_same (same (code_then place (size f) fc rc (length-form_code entries place text line f)))
        (same_both (jumps place fc) (form_told place f) (jumps (place + size f) rc) (body_told (place + size f) rest) (form_same place text line f) (body_same (place + size f) (text + length (prints f)) rest))

  procedures_same : (place text : ℕ) (qs : List Procedure) → Same (jumps place (procedures_code entries place text qs)) (procedures_told place qs)
  procedures_same place text [] = same refl
  procedures_same place text (q ∷ qs) =
      let bc = body_code entries place text q.body in
      let near : place + procedure_size q ≡ place + sizes q.body + 1 = omega arith in
      let rc = procedures_code entries (place + procedure_size q) (text + length (body_prints q.body)) qs in
      then_same (same (code_then place (sizes q.body) bc (instruction 0 op.Return ∷ rc) (length-body_code entries place text q.body) ∙ ap (λ (n : ℕ). jumps place bc ++ jumps n rc) (sym near)))
      (then_same (same_both (jumps place bc) (body_told place q.body) (jumps (place + procedure_size q) rc) (procedures_told (place + procedure_size q) qs) (body_same place text q.body)
      (procedures_same (place + procedure_size q) (text + length (body_prints q.body)) qs))
      (same (ap (λ (n : ℕ). body_told place q.body ++ procedures_told n qs) near)))

pub program_same : (p : Tree) → Same (jumps 0 (flatten p).code) (program_told p)
program_same p =
    let text = length (names p) in
    let es = entries_of p in
    let bc = body_code es 0 text p.body in
    let rc = procedures_code es (sizes p.body + 1) (text + length (body_prints p.body)) p.procedures in
    let near : 0 + sizes p.body + 1 ≡ sizes p.body + 1 = omega arith in
    then_same (same (code_then 0 (sizes p.body) bc (instruction 0 op.Stop ∷ rc) (length-body_code es 0 text p.body) ∙ ap (λ (n : ℕ). jumps 0 bc ++ jumps n rc) near))
    (same_both (jumps 0 bc) (body_told 0 p.body) (jumps (sizes p.body + 1) rc) (procedures_told (sizes p.body + 1) p.procedures) (body_same es 0 text p.body)
    (procedures_same es (sizes p.body + 1) (text + length (body_prints p.body)) p.procedures))

-- the jumps of a program's code are those that its outline tells
pub told_same : (p : Tree) → Same (jumps 0 (flatten p).code) (all_told 0 [] (outline (flatten p).code))
told_same p = then_same (program_same p) (same (sym (ap (λ (ms : List Mark). all_told 0 [] ms) (program_outline p) ∙ program_tells p)))
