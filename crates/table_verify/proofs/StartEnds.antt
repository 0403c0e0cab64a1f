-- The first instructions of a program's procedures, told by its outline.
use Rattle.std.proofs.Common.{◌≡◌, ◌⊎◌, inl, inr, ℕ, zero, suc, ◌+◌, ◌≤◌, ◌<◌, List, [], ◌∷◌, ◌++◌, cond, length, Some, refl, sym, ap, ◌∙◌, arith, append_assoc, append-nil}
use Rattle.std.specs.Prelude.{slice_get}
use Rattle.sial_syntax.specs.declared.condition.Cond.{Cond}
use Rattle.sial_syntax.specs.Numbering.{size, sizes, procedure_size}
use Rattle.sial_syntax.specs.Tree.{Tree, Procedure, Block, End, Then, Plain, Do, DoIn, Pardo, If, IfElse, Call, Assign, Get, Request, Put, Prepare, Create, Delete, Allocate, Deallocate, Collective, SipBarrier, ServerBarrier, Print, PrintScalar, Integrals}
use Rattle.sip_tables.specs.Code.{entries_from, entries_of}
use Rattle.sip_tables.specs.declared.instruction.Instruction.{Instruction}
use Rattle.sip_tables.specs.declared.instruction.Operation.{Operation}
use Rattle.sip_tables.specs.declared.instruction.Operation.TheVariants as op
use Rattle.sip_tables.specs.Flatten.{flatten}
use Rattle.table_verify.specs.Jumps.{IsIn}
use Rattle.table_verify.specs.Outline.{Role, Alone, Loop, Pardo, Branch, Test, Other, EndLoop, EndPardo, EndBranch, EndProgram, EndProcedure, Mark, role, outline}
use Rattle.table_verify.specs.Starting.{ends_body, starts_onto}
use Rattle.table_verify.proofs.InLemmas.{in_either, case}
use Rattle.table_verify.proofs.OutlineLemmas.{at, tests, form_marks, body_marks, procedures_marks, program_marks, program_outline}

-- what stands behind the end of a body
abbrev pub start_here : (place : ℕ) → Role → List ℕ
start_here place EndProgram = (place + 1) ∷ []
start_here place EndProcedure = (place + 1) ∷ []
start_here place _ = []

abbrev pub starts : (place : ℕ) → List Mark → List ℕ
starts place [] = []
starts place (m ∷ ms) = start_here place m.role ++ starts (place + 1) ms

starts_at : (place other : ℕ) (ms : List Mark) → place ≡ other → starts place ms ≡ starts other ms
starts_at place other ms e = ap (λ (n : ℕ). starts n ms) e

tests_start : (line place : ℕ) (ws : List Cond) (ms : List Mark) → starts place (tests line ws ++ ms) ≡ starts (place + length ws) ms
tests_start line place [] ms = starts_at place (place + 0) ms (omega arith)
tests_start line place (w ∷ ws) ms = tests_start line (place + 1) ws ms ∙ starts_at (place + 1 + length ws) (place + suc (length ws)) ms (omega arith)

after_body : (b : Block) (place : ℕ) (m : Mark) (ms : List Mark) → ((ns : List Mark) → starts place (body_marks b ++ ns) ≡ starts (place + sizes b) ns) → starts place ((body_marks b ++ m ∷ []) ++ ms) ≡ starts (place + sizes b) (m ∷ ms)
after_body b place m ms is = ap (λ (ns : List Mark). starts place ns) (append_assoc (body_marks b) (m ∷ []) ms) ∙ is (m ∷ ms)

-- no procedure starts within statements
mutual
  form_starts : (line place : ℕ) (f : Plain) (ms : List Mark) → starts place (form_marks line f ++ ms) ≡ starts (place + size f) ms
  form_starts line place (Do index b) ms =
      after_body b (place + 1) (at line EndLoop) ms (λ ns. body_starts (place + 1) b ns) ∙ starts_at (place + 1 + sizes b + 1) (place + (sizes b + 2)) ms (omega arith)
  form_starts line place (DoIn sub index b) ms =
      after_body b (place + 1) (at line EndLoop) ms (λ ns. body_starts (place + 1) b ns) ∙ starts_at (place + 1 + sizes b + 1) (place + (sizes b + 2)) ms (omega arith)
  form_starts line place (Pardo indices ws b) ms =
      let from = place + 1 + length ws in
      let inside = body_marks b ++ at line EndPardo ∷ [] in
      ap (λ (ns : List Mark). starts (place + 1) ns) (append_assoc (tests line ws) inside ms)
      ∙ tests_start line (place + 1) ws (inside ++ ms)
      ∙ after_body b from (at line EndPardo) ms (λ ns. body_starts from b ns)
      ∙ starts_at (from + sizes b + 1) (place + (length ws + (sizes b + 2))) ms (omega arith)
  form_starts line place (If test b) ms =
      after_body b (place + 1) (at line EndBranch) ms (λ ns. body_starts (place + 1) b ns) ∙ starts_at (place + 1 + sizes b + 1) (place + (sizes b + 2)) ms (omega arith)
  form_starts line place (IfElse test b o) ms =
      let y = place + 1 + sizes b in
      let second = body_marks o ++ at line EndBranch ∷ [] in
      ap (λ (ns : List Mark). starts (place + 1) ns) (append_assoc (body_marks b) (at line Other ∷ second) ms)
      ∙ body_starts (place + 1) b (at line Other ∷ (second ++ ms))
      ∙ after_body o (y + 1) (at line EndBranch) ms (λ ns. body_starts (y + 1) o ns)
      ∙ starts_at (y + 1 + sizes o + 1) (place + size (IfElse test b o)) ms (omega arith)
  form_starts line place (Call procedure) ms = refl
  form_starts line place (Assign target combining right) ms = refl
  form_starts line place (Get block) ms = refl
  form_starts line place (Request block) ms = refl
  form_starts line place (Put block how from) ms = refl
  form_starts line place (Prepare block how from) ms = refl
  form_starts line place (Create array) ms = refl
  form_starts line place (Delete array) ms = refl
  form_starts line place (Allocate array slots) ms = refl
  form_starts line place (Deallocate array slots) ms = refl
  form_starts line place (Collective into from) ms = refl
  form_starts line place SipBarrier ms = refl
  form_starts line place ServerBarrier ms = refl
  form_starts line place (Print text) ms = refl
  form_starts line place (PrintScalar scalar) ms = refl
  form_starts line place (Integrals block) ms = refl

  body_starts : (place : ℕ) (b : Block) (ms : List Mark) → starts place (body_marks b ++ ms) ≡ starts (place + sizes b) ms
  body_starts place End ms = starts_at place (place + 0) ms (omega arith)
  body_starts place (Then line f rest) ms =
      ap (λ (ns : List Mark). starts place ns) (append_assoc (form_marks line f) (body_marks rest) ms)
      ∙ form_starts line place f (body_marks rest ++ ms)
      ∙ body_starts (place + size f) rest ms
      ∙ starts_at (place + size f + sizes rest) (place + (size f + sizes rest)) ms (omega arith)

-- a list with one entry more at its end
pub record WithLast (front all : List ℕ) : Type 0 where
  pub last : ℕ
  pub is : all ≡ front ++ last ∷ []

procedures_start : (place : ℕ) (qs : List Procedure) → WithLast (entries_from place qs) (place ∷ starts place (procedures_marks qs))
procedures_start place [] = record { last = place; is = refl }
procedures_start place (q ∷ qs) =
    let near : place + sizes q.body + 1 ≡ place + procedure_size q = omega arith in
    let again = procedures_start (place + procedure_size q) qs in
    record {
      last = again.last;
      is = ap (λ (ns : List ℕ). place ∷ ns) (body_starts place q.body (at 0 EndProcedure ∷ procedures_marks qs) ∙ (ap (λ (n : ℕ). n ∷ starts n (procedures_marks qs)) near ∙ again.is));
    }

program_starts : (p : Tree) → WithLast (entries_of p) (starts 0 (program_marks p))
program_starts p =
    let near : 0 + sizes p.body + 1 ≡ sizes p.body + 1 = omega arith in
    let again = procedures_start (sizes p.body + 1) p.procedures in
    record {
      last = again.last;
      is = body_starts 0 p.body (at 0 EndProgram ∷ procedures_marks p.procedures) ∙ (ap (λ (n : ℕ). n ∷ starts n (procedures_marks p.procedures)) near ∙ again.is);
    }

-- the starts of a program's procedures are those that its outline tells
pub starts_of : (p : Tree) → WithLast (entries_of p) (starts 0 (outline (flatten p).code))
starts_of p = let x = program_starts p in record { last = x.last; is = ap (λ (ms : List Mark). starts 0 ms) (program_outline p) ∙ x.is }

-- ---- where starts lie

pub starts_append : (place : ℕ) (xs ys : List Mark) → starts place (xs ++ ys) ≡ starts place xs ++ starts (place + length xs) ys
starts_append place [] ys = starts_at place (place + 0) ys (omega arith)
starts_append place (m ∷ xs) ys =
    ap (λ (ns : List ℕ). start_here place m.role ++ ns) (starts_append (place + 1) xs ys ∙ ap (λ (ns : List ℕ). starts (place + 1) xs ++ ns) (starts_at (place + 1 + length xs) (place + suc (length xs)) ys (omega arith)))
    ∙ sym (append_assoc (start_here place m.role) (starts (place + 1) xs) (starts (place + suc (length xs)) ys))

here_is : (place : ℕ) (r : Role) (s : ℕ) → IsIn s (start_here place r) → s ≡ place + 1
here_is place EndProgram s (inl e) = e
here_is place EndProgram s (inr e) = absurd e
here_is place EndProcedure s (inl e) = e
here_is place EndProcedure s (inr e) = absurd e
here_is place Alone s e = absurd e
here_is place Loop s e = absurd e
here_is place Pardo s e = absurd e
here_is place Branch s e = absurd e
here_is place Test s e = absurd e
here_is place Other s e = absurd e
here_is place EndLoop s e = absurd e
here_is place EndPardo s e = absurd e
here_is place EndBranch s e = absurd e

pub starts_after : (place : ℕ) (ms : List Mark) (s : ℕ) → IsIn s (starts place ms) → place < s
starts_after place [] s i = absurd i
starts_after place (m ∷ ms) s i =
    case (place < s) (in_either s (start_here place m.role) (starts (place + 1) ms) i)
    (λ l. let e = here_is place m.role s l in omega (arith, e))
    (λ r. let e = starts_after (place + 1) ms s r in omega (arith, e))

pub starts_within : (place : ℕ) (ms : List Mark) (s : ℕ) → IsIn s (starts place ms) → s ≤ place + length ms
starts_within place [] s i = absurd i
starts_within place (m ∷ ms) s i =
    case (s ≤ place + suc (length ms)) (in_either s (start_here place m.role) (starts (place + 1) ms) i)
    (λ l. let e = here_is place m.role s l in omega (arith, e))
    (λ r. let e = starts_within (place + 1) ms s r in omega (arith, e))

one_onto : (front : List ℕ) (place : ℕ) (o : Operation) → cond (ends_body o) (front ++ (place + 1) ∷ []) front ≡ front ++ start_here place (role o)
one_onto front place op.Stop = refl
one_onto front place op.Return = refl
one_onto front place _ = sym (append-nil front)

-- what the code's loop finds
pub onto_is : (front : List ℕ) (place : ℕ) (code : List Instruction) → starts_onto front place code ≡ front ++ starts place (outline code)
onto_is front place [] = sym (append-nil front)
onto_is front place (i ∷ code) =
    onto_is (cond (ends_body i.operation) (front ++ (place + 1) ∷ []) front) (place + 1) code
    ∙ ap (λ (ns : List ℕ). ns ++ starts (place + 1) (outline code)) (one_onto front place i.operation)
    ∙ append_assoc front (start_here place (role i.operation)) (starts (place + 1) (outline code))

-- ---- entries of lists by their places

pub get_left : {X : Type 0} (xs ys : List X) (k : ℕ) (x : X) → slice_get xs k ≡ Some x → slice_get (xs ++ ys) k ≡ Some x
get_left [] ys k x e = absurd cc
get_left (z ∷ xs) ys zero x e = e
get_left (z ∷ xs) ys (suc k) x e = get_left xs ys k x e

pub get_in : {X : Type 0} (xs : List X) (k : ℕ) (x : X) → slice_get xs k ≡ Some x → IsIn x xs
get_in [] k x e = absurd cc
get_in (z ∷ xs) zero x e = let is : z ≡ x = cc in inl (sym is)
get_in (z ∷ xs) (suc k) x e = inr (get_in xs k x e)

pub get_either : {X : Type 0} (xs ys : List X) (k : ℕ) (x : X) → slice_get (xs ++ ys) k ≡ Some x → (slice_get xs k ≡ Some x) ⊎ IsIn x ys
get_either [] ys k x e = inr (get_in ys k x e)
get_either (z ∷ xs) ys zero x e = inl e
get_either (z ∷ xs) ys (suc k) x e = get_either xs ys k x e

pub get_back : {X : Type 0} (xs ys : List X) (k : ℕ) (x : X) → k < length xs → slice_get (xs ++ ys) k ≡ Some x → slice_get xs k ≡ Some x
get_back [] ys k x l e = absurd (omega (arith, l))
get_back (z ∷ xs) ys zero x l e = e
get_back (z ∷ xs) ys (suc k) x l e = get_back xs ys k x (omega (arith, l)) e
