-- Code that nests as a loop or as a pardo, and has no fault, is the code of one.
use Rattle.std.proofs.Common.{◌≡◌, inl, inr, ℕ, suc, ◌+◌, List, [], ◌∷◌, ◌++◌, true, ◌&&◌, length, refl, sym, ap, subst, ◌∙◌, arith, append_assoc}
use Rattle.std.specs.List.{list_all}
use Rattle.sial_syntax.specs.declared.condition.Cond.{Cond}
use Rattle.sial_syntax.specs.Limits.{most_pardo}
use Rattle.sial_syntax.specs.Numbering.{size, sizes}
use Rattle.sial_syntax.specs.Proper.{body_nesting, has_index, has_length, proper_cond, proper_body}
use Rattle.sial_syntax.specs.Tree.{Block, Plain, Do, DoIn, Pardo}
use Rattle.sip_tables.specs.Code.{instruction, wheres_code, body_code}
use Rattle.sip_tables.specs.Texts.{body_prints}
use Rattle.sip_tables.specs.declared.instruction.Instruction.{Instruction}
use Rattle.sip_tables.specs.declared.instruction.Operation.{Operation}
use Rattle.sip_tables.specs.declared.instruction.Operation.TheVariants as op
use Rattle.table_verify.specs.Jumps.{Jump, jump, IsIn}
use Rattle.table_verify.specs.Outline.{Loop, Pardo, Test, EndLoop, EndPardo, Mark, role, outline}
use Rattle.table_verify.specs.Things.{names_things, prints_in, begun_in}
use Rattle.table_verify.proofs.Closed.{both}
use Rattle.table_verify.proofs.Filling.{Known, Good, good_at, good_quiet, leads_here, things, one, IsForm, IsBody, IsClosed, closed}
use Rattle.table_verify.proofs.JumpEnds.{leap}
use Rattle.table_verify.proofs.OutlineLemmas.{at, tests, body_marks}
use Rattle.table_verify.proofs.Passed.{together}
use Rattle.table_verify.proofs.LastInstructions.{silent, end_do_is, end_pardo_is, where_is}

-- ---- loops

-- the head of a loop before its body and its end
do_is : (k : Known) (line place text deep long : ℕ) (o : Operation) (code : List Instruction) (ms : List Mark) → role o ≡ Loop → names_things k.head o ≡ true → IsIn (leap place (place + 1 + long + 1)) (jump place o)
    → IsClosed k line (place + 1) text deep long (op.EndDo place) code ms → IsForm k line place text (1 + deep) (long + 2) (instruction line o ∷ code) ms
do_is k line place text deep long (op.Do index past) code ms e there (inl q) x =
    let f = Do index x.body in
    let bc = body_code k.entries (place + 1) text x.body in
    let last = instruction line (op.EndDo place) in
    let l = x.long_is in
    let n = x.begun_is in
    let m = x.printed_is in
    let reach : place + 1 + long + 1 ≡ past = ap (λ (j : Jump). j.reach) q in
    let past_is : past ≡ place + size f = omega (arith, reach, l) in
    record {
      form = f;
      rest = x.rest;
      is = ap (λ (to : ℕ). instruction line (op.Do index to) ∷ code) past_is
          ∙ ap (λ (c : List Instruction). instruction line (op.Do index (place + size f)) ∷ c) (x.is ∙ sym (append_assoc bc (last ∷ []) x.rest));
      marks = x.marks;
      good = good_at k (place + 1 + long + 1) (place + (long + 2)) (text + length (body_prints x.body)) (text + length (body_prints x.body)) x.rest (omega arith) refl x.good;
      texts = x.texts;
      proper = together (has_index k.head index) (proper_body k.head x.body) there x.proper;
      deep_is = ap (λ (d : ℕ). 1 + d) x.deep_is;
      long_is = ap (λ (d : ℕ). d + 2) x.long_is;
      begun_is = omega (arith, n);
      printed_is = omega (arith, m);
    }
do_is k line place text deep long (op.DoIn sub index past) code ms e there (inl q) x =
    let f = DoIn sub index x.body in
    let bc = body_code k.entries (place + 1) text x.body in
    let last = instruction line (op.EndDo place) in
    let l = x.long_is in
    let n = x.begun_is in
    let m = x.printed_is in
    let b = both (has_index k.head sub) (has_index k.head index) there in
    let reach : place + 1 + long + 1 ≡ past = ap (λ (j : Jump). j.reach) q in
    let past_is : past ≡ place + size f = omega (arith, reach, l) in
    record {
      form = f;
      rest = x.rest;
      is = ap (λ (to : ℕ). instruction line (op.DoIn sub index to) ∷ code) past_is
          ∙ ap (λ (c : List Instruction). instruction line (op.DoIn sub index (place + size f)) ∷ c) (x.is ∙ sym (append_assoc bc (last ∷ []) x.rest));
      marks = x.marks;
      good = good_at k (place + 1 + long + 1) (place + (long + 2)) (text + length (body_prints x.body)) (text + length (body_prints x.body)) x.rest (omega arith) refl x.good;
      texts = x.texts;
      proper = together (has_index k.head sub) (has_index k.head index && proper_body k.head x.body) b.0 (together (has_index k.head index) (proper_body k.head x.body) b.1 x.proper);
      deep_is = ap (λ (d : ℕ). 1 + d) x.deep_is;
      long_is = ap (λ (d : ℕ). d + 2) x.long_is;
      begun_is = omega (arith, n);
      printed_is = omega (arith, m);
    }
do_is k line place text deep long (op.Do index past) code ms e there (inr q) x = absurd q
do_is k line place text deep long (op.DoIn sub index past) code ms e there (inr q) x = absurd q
do_is k line place text deep long _ code ms e there q x = absurd cc

-- what is inside a statement is a body
abbrev pub Inner : Known → (place text : ℕ) → Block → Mark → List Mark → Type 0
Inner k place text b m ms = (code : List Instruction) → outline code ≡ body_marks b ++ (m ∷ ms) → Good k place text code → IsBody k place text (body_nesting b) (sizes b) code (m ∷ ms)

pub loop_is : (k : Known) (line place text : ℕ) (b : Block) (code : List Instruction) (ms : List Mark) → outline code ≡ at line Loop ∷ ((body_marks b ++ at line EndLoop ∷ []) ++ ms) → Good k place text code
    → IsIn (leap place (place + 1 + sizes b + 1)) k.jumps → IsIn (leap (place + 1 + sizes b) place) k.jumps → Inner k (place + 1) text b (at line EndLoop) ms → IsForm k line place text (1 + body_nesting b) (sizes b + 2) code ms
loop_is k line place text b code ms e good head end inner =
    let x = one line Loop code ((body_marks b ++ at line EndLoop ∷ []) ++ ms) e in
    let g : Good k place text (instruction line x.operation ∷ x.rest) = subst (λ (c : List Instruction). Good k place text c) x.is good in
    let inside = inner x.rest (x.marks ∙ append_assoc (body_marks b) (at line EndLoop ∷ []) ms) (good_quiet k place text line x.operation x.rest (silent x.operation Loop x.role_is refl) g) in
    let y = closed k line (place + 1) text (body_nesting b) (sizes b) EndLoop (op.EndDo place) x.rest ms inside (λ o r here. end_do_is (place + 1 + sizes b) place o r (here (leap (place + 1 + sizes b) place) end refl)) refl refl in
    subst (λ (c : List Instruction). IsForm k line place text (1 + body_nesting b) (sizes b + 2) c ms) (sym x.is)
    (do_is k line place text (body_nesting b) (sizes b) x.operation x.rest ms x.role_is (things k place text line x.operation x.rest g)
    (leads_here k place text line x.operation x.rest g (leap place (place + 1 + sizes b + 1)) head refl) y)

-- ---- pardos

-- code is that of so many conditions and what has these marks
record IsTests (k : Known) (line place text many : ℕ) (code : List Instruction) (ms : List Mark) : Type 0 where
  wheres : List Cond
  rest : List Instruction
  is : code ≡ wheres_code line wheres ++ rest
  many_is : length wheres ≡ many
  marks : outline rest ≡ ms
  good : Good k (place + many) text rest
  proper : list_all (proper_cond k.head) wheres ≡ true
  begun_is : begun_in code ≡ begun_in rest
  printed_is : prints_in code ≡ prints_in rest

tests_are : (k : Known) (line : ℕ) (ws : List Cond) (place text : ℕ) (code : List Instruction) (ms : List Mark) → outline code ≡ tests line ws ++ ms → Good k place text code → IsTests k line place text (length ws) code ms
tests_are k line [] place text code ms e good = record {
  wheres = [];
  rest = code;
  is = refl;
  many_is = refl;
  marks = e;
  good = good_at k place (place + 0) text text code (omega arith) refl good;
  proper = refl;
  begun_is = refl;
  printed_is = refl;
}
tests_are k line (w ∷ ws) place text code ms e good =
    let x = one line Test code (tests line ws ++ ms) e in
    let c = where_is x.operation x.role_is in
    let is : code ≡ instruction line (op.Where c.0) ∷ x.rest = x.is ∙ ap (λ (o : Operation). instruction line o ∷ x.rest) c.1 in
    let g : Good k place text (instruction line (op.Where c.0) ∷ x.rest) = subst (λ (cs : List Instruction). Good k place text cs) is good in
    let again = tests_are k line ws (place + 1) text x.rest ms x.marks (good_quiet k place text line (op.Where c.0) x.rest refl g) in
    let b : begun_in code ≡ 0 + begun_in x.rest = ap (λ (cs : List Instruction). begun_in cs) is in
    let p : prints_in code ≡ 0 + prints_in x.rest = ap (λ (cs : List Instruction). prints_in cs) is in
    let n = again.begun_is in
    let m = again.printed_is in
    record {
      wheres = c.0 ∷ again.wheres;
      rest = again.rest;
      is = is ∙ ap (λ (cs : List Instruction). instruction line (op.Where c.0) ∷ cs) again.is;
      many_is = ap suc again.many_is;
      marks = again.marks;
      good = good_at k (place + 1 + length ws) (place + suc (length ws)) text text again.rest (omega arith) refl again.good;
      proper = together (proper_cond k.head c.0) (list_all (proper_cond k.head) again.wheres) (things k place text line (op.Where c.0) x.rest g) again.proper;
      begun_is = omega (arith, b, n);
      printed_is = omega (arith, p, m);
    }

-- the head of a pardo before its conditions, its body and its end
pardo_is : (k : Known) (line place text deep many long : ℕ) (o : Operation) (code : List Instruction) (inside ms : List Mark) → role o ≡ Pardo → names_things k.head o ≡ true
    → IsIn (leap place (place + 1 + many + long + 1)) (jump place o) → (t : IsTests k line (place + 1) text many code inside) → IsClosed k line (place + 1 + many) text deep long (op.EndPardo place) t.rest ms
    → IsForm k line place text (1 + deep) (many + (long + 2)) (instruction line o ∷ code) ms
pardo_is k line place text deep many long (op.Pardo indices end) code inside ms e there (inl q) t x =
    let f : Plain = Pardo indices t.wheres x.body in
    let wc = wheres_code line t.wheres in
    let bc = body_code k.entries (place + (1 + length t.wheres)) text x.body in
    let last = instruction line (op.EndPardo place) in
    let w = t.many_is in
    let l = x.long_is in
    let tn = t.begun_is in
    let tm = t.printed_is in
    let n = x.begun_is in
    let m = x.printed_is in
    let b = both (has_length most_pardo indices) (list_all (has_index k.head) indices) there in
    let reach : place + 1 + many + long + 1 ≡ end + 1 = ap (λ (j : Jump). j.reach) q in
    let end_is : end ≡ place + (1 + (length t.wheres + sizes x.body)) = omega (arith, reach, w, l) in
    let from : place + 1 + many ≡ place + (1 + length t.wheres) = omega (arith, w) in
    let behind : t.rest ≡ (bc ++ last ∷ []) ++ x.rest = x.is ∙ (ap (λ (p : ℕ). body_code k.entries p text x.body ++ (last ∷ x.rest)) from ∙ sym (append_assoc bc (last ∷ []) x.rest)) in
    record {
      form = f;
      rest = x.rest;
      is = ap (λ (to : ℕ). instruction line (op.Pardo indices to) ∷ code) end_is
          ∙ ap (λ (c : List Instruction). instruction line (op.Pardo indices (place + (1 + (length t.wheres + sizes x.body)))) ∷ c)
          (t.is ∙ (ap (λ (c : List Instruction). wc ++ c) behind ∙ sym (append_assoc wc (bc ++ last ∷ []) x.rest)));
      marks = x.marks;
      good = good_at k (place + 1 + many + long + 1) (place + (many + (long + 2))) (text + length (body_prints x.body)) (text + length (body_prints x.body)) x.rest (omega arith) refl x.good;
      texts = x.texts;
      proper = together (has_length most_pardo indices) (list_all (has_index k.head) indices && (list_all (proper_cond k.head) t.wheres && proper_body k.head x.body)) b.0
          (together (list_all (has_index k.head) indices) (list_all (proper_cond k.head) t.wheres && proper_body k.head x.body) b.1
          (together (list_all (proper_cond k.head) t.wheres) (proper_body k.head x.body) t.proper x.proper));
      deep_is = ap (λ (d : ℕ). 1 + d) x.deep_is;
      long_is = omega (arith, w, l);
      begun_is = omega (arith, tn, n);
      printed_is = omega (arith, tm, m);
    }
pardo_is k line place text deep many long (op.Pardo indices end) code inside ms e there (inr q) t x = absurd q
pardo_is k line place text deep many long _ code inside ms e there q t x = absurd cc

pub pardo_told : (k : Known) (line place text : ℕ) (ws : List Cond) (b : Block) (code : List Instruction) (ms : List Mark) → outline code ≡ at line Pardo ∷ ((tests line ws ++ (body_marks b ++ at line EndPardo ∷ [])) ++ ms) → Good k place text code
    → IsIn (leap place (place + 1 + length ws + sizes b + 1)) k.jumps → IsIn (leap (place + 1 + length ws + sizes b) place) k.jumps → Inner k (place + 1 + length ws) text b (at line EndPardo) ms
    → IsForm k line place text (1 + body_nesting b) (length ws + (sizes b + 2)) code ms
pardo_told k line place text ws b code ms e good head end inner =
    let inside = body_marks b ++ at line EndPardo ∷ [] in
    let x = one line Pardo code ((tests line ws ++ inside) ++ ms) e in
    let g : Good k place text (instruction line x.operation ∷ x.rest) = subst (λ (c : List Instruction). Good k place text c) x.is good in
    let t = tests_are k line ws (place + 1) text x.rest (inside ++ ms) (x.marks ∙ append_assoc (tests line ws) inside ms) (good_quiet k place text line x.operation x.rest (silent x.operation Pardo x.role_is refl) g) in
    let within = inner t.rest (t.marks ∙ append_assoc (body_marks b) (at line EndPardo ∷ []) ms) t.good in
    let from = place + 1 + length ws in
    let y = closed k line from text (body_nesting b) (sizes b) EndPardo (op.EndPardo place) t.rest ms within (λ o r here. end_pardo_is (from + sizes b) place o r (here (leap (from + sizes b) place) end refl)) refl refl in
    subst (λ (c : List Instruction). IsForm k line place text (1 + body_nesting b) (length ws + (sizes b + 2)) c ms) (sym x.is)
    (pardo_is k line place text (body_nesting b) (length ws) (sizes b) x.operation x.rest (inside ++ ms) ms x.role_is (things k place text line x.operation x.rest g)
    (leads_here k place text line x.operation x.rest g (leap place (from + sizes b + 1)) head refl) t y)
