-- Code that nests as an `if`, and has no fault, is the code of one.
use Rattle.std.proofs.Common.{◌≡◌, inl, inr, ℕ, ◌+◌, List, [], ◌∷◌, ◌++◌, true, ◌&&◌, length, max, refl, sym, ap, subst, ◌∙◌, arith, append_assoc, length-append}
use Rattle.sial_syntax.specs.Numbering.{size, sizes}
use Rattle.sial_syntax.specs.Proper.{body_nesting, proper_cond, proper_body}
use Rattle.sial_syntax.specs.Tree.{Block, If, IfElse}
use Rattle.sip_tables.specs.Code.{instruction, body_code}
use Rattle.sip_tables.specs.Texts.{body_prints}
use Rattle.sip_tables.specs.declared.instruction.Instruction.{Instruction}
use Rattle.sip_tables.specs.declared.instruction.Operation.{Operation}
use Rattle.sip_tables.specs.declared.instruction.Operation.TheVariants as op
use Rattle.table_verify.specs.Jumps.{Jump, jump, IsIn}
use Rattle.table_verify.specs.Outline.{Branch, Other, EndBranch, Mark, role, outline}
use Rattle.table_verify.specs.Things.{names_things}
use Rattle.table_verify.proofs.Filling.{Known, Good, good_at, good_quiet, leads_here, things, one, begins_with_both, IsForm, IsClosed, closed}
use Rattle.table_verify.proofs.JumpEnds.{leap}
use Rattle.table_verify.proofs.OutlineLemmas.{at, body_marks}
use Rattle.table_verify.proofs.Passed.{together}
use Rattle.table_verify.proofs.FilledLoops.{Inner}
use Rattle.table_verify.proofs.LastInstructions.{silent, else_is, end_if_is}

if_is : (k : Known) (line place text deep long : ℕ) (o : Operation) (code : List Instruction) (ms : List Mark) → role o ≡ Branch → names_things k.head o ≡ true → IsIn (leap place (place + 1 + long + 1)) (jump place o)
    → IsClosed k line (place + 1) text deep long op.EndIf code ms → IsForm k line place text (1 + deep) (long + 2) (instruction line o ∷ code) ms
if_is k line place text deep long (op.If test otherwise) code ms e there (inl q) x =
    let f = If test x.body in
    let bc = body_code k.entries (place + 1) text x.body in
    let last = instruction line op.EndIf in
    let l = x.long_is in
    let n = x.begun_is in
    let m = x.printed_is in
    let reach : place + 1 + long + 1 ≡ otherwise = ap (λ (j : Jump). j.reach) q in
    let otherwise_is : otherwise ≡ place + size f = omega (arith, reach, l) in
    record {
      form = f;
      rest = x.rest;
      is = ap (λ (to : ℕ). instruction line (op.If test to) ∷ code) otherwise_is
          ∙ ap (λ (c : List Instruction). instruction line (op.If test (place + size f)) ∷ c) (x.is ∙ sym (append_assoc bc (last ∷ []) x.rest));
      marks = x.marks;
      good = good_at k (place + 1 + long + 1) (place + (long + 2)) (text + length (body_prints x.body)) (text + length (body_prints x.body)) x.rest (omega arith) refl x.good;
      texts = x.texts;
      proper = together (proper_cond k.head test) (proper_body k.head x.body) there x.proper;
      deep_is = ap (λ (d : ℕ). 1 + d) x.deep_is;
      long_is = ap (λ (d : ℕ). d + 2) x.long_is;
      begun_is = omega (arith, n);
      printed_is = omega (arith, m);
    }
if_is k line place text deep long (op.If test otherwise) code ms e there (inr q) x = absurd q
if_is k line place text deep long _ code ms e there q x = absurd cc

pub if_told : (k : Known) (line place text : ℕ) (b : Block) (code : List Instruction) (ms : List Mark) → outline code ≡ at line Branch ∷ ((body_marks b ++ at line EndBranch ∷ []) ++ ms) → Good k place text code
    → IsIn (leap place (place + 1 + sizes b + 1)) k.jumps → Inner k (place + 1) text b (at line EndBranch) ms → IsForm k line place text (1 + body_nesting b) (sizes b + 2) code ms
if_told k line place text b code ms e good head inner =
    let x = one line Branch code ((body_marks b ++ at line EndBranch ∷ []) ++ ms) e in
    let g : Good k place text (instruction line x.operation ∷ x.rest) = subst (λ (c : List Instruction). Good k place text c) x.is good in
    let inside = inner x.rest (x.marks ∙ append_assoc (body_marks b) (at line EndBranch ∷ []) ms) (good_quiet k place text line x.operation x.rest (silent x.operation Branch x.role_is refl) g) in
    let y = closed k line (place + 1) text (body_nesting b) (sizes b) EndBranch op.EndIf x.rest ms inside (λ o r here. end_if_is o r) refl refl in
    subst (λ (c : List Instruction). IsForm k line place text (1 + body_nesting b) (sizes b + 2) c ms) (sym x.is)
    (if_is k line place text (body_nesting b) (sizes b) x.operation x.rest ms x.role_is (things k place text line x.operation x.rest g)
    (leads_here k place text line x.operation x.rest g (leap place (place + 1 + sizes b + 1)) head refl) y)

-- an `if` with its first branch, and the other one behind it
if_else_is : (k : Known) (line place text deep long other_deep other_long past : ℕ) (o : Operation) (code : List Instruction) (behind ms : List Mark) → role o ≡ Branch → names_things k.head o ≡ true
    → IsIn (leap place (place + 1 + long + 1)) (jump place o) → past ≡ place + 1 + long + 1 + other_long + 1 → (x : IsClosed k line (place + 1) text deep long (op.Else past) code behind)
    → IsClosed k line (place + 1 + long + 1) (text + length (body_prints x.body)) other_deep other_long op.EndIf x.rest ms → IsForm k line place text (1 + max deep other_deep) (long + (other_long + 3)) (instruction line o ∷ code) ms
if_else_is k line place text deep long other_deep other_long past (op.If test otherwise) code behind ms e there (inl q) past_is x y =
    let f = IfElse test x.body y.body in
    let next = text + length (body_prints x.body) in
    let bc = body_code k.entries (place + 1) text x.body in
    let oc = body_code k.entries (place + (sizes x.body + 2)) next y.body in
    let last = instruction line op.EndIf in
    let l = x.long_is in
    let ol = y.long_is in
    let n = x.begun_is in
    let m = x.printed_is in
    let on = y.begun_is in
    let om = y.printed_is in
    let d = x.deep_is in
    let od = y.deep_is in
    let ps = length-append (body_prints x.body) (body_prints y.body) in
    let reach : place + 1 + long + 1 ≡ otherwise = ap (λ (j : Jump). j.reach) q in
    let otherwise_is : otherwise ≡ place + (sizes x.body + 2) = omega (arith, reach, l) in
    let far : past ≡ place + size f = omega (arith, past_is, l, ol) in
    let from : place + 1 + long + 1 ≡ place + (sizes x.body + 2) = omega (arith, l) in
    let second : x.rest ≡ (oc ++ last ∷ []) ++ y.rest = y.is ∙ (ap (λ (p : ℕ). body_code k.entries p next y.body ++ (last ∷ y.rest)) from ∙ sym (append_assoc oc (last ∷ []) y.rest)) in
    let turn = instruction line (op.Else (place + size f)) in
    record {
      form = f;
      rest = y.rest;
      is = ap (λ (to : ℕ). instruction line (op.If test to) ∷ code) otherwise_is
          ∙ ap (λ (c : List Instruction). instruction line (op.If test (place + (sizes x.body + 2))) ∷ c)
          (x.is ∙ (ap (λ (to : ℕ). bc ++ (instruction line (op.Else to) ∷ x.rest)) far ∙ (ap (λ (c : List Instruction). bc ++ (turn ∷ c)) second ∙ sym (append_assoc bc (turn ∷ (oc ++ last ∷ [])) y.rest))));
      marks = y.marks;
      good = good_at k (place + 1 + long + 1 + other_long + 1) (place + (long + (other_long + 3))) (next + length (body_prints y.body)) (text + length (body_prints x.body ++ body_prints y.body)) y.rest (omega arith) (omega (arith, ps)) y.good;
      texts = begins_with_both k.texts text (body_prints x.body) (body_prints y.body) x.texts y.texts;
      proper = together (proper_cond k.head test) (proper_body k.head x.body && proper_body k.head y.body) there (together (proper_body k.head x.body) (proper_body k.head y.body) x.proper y.proper);
      deep_is = ap (λ (a : ℕ). 1 + max a (body_nesting y.body)) d ∙ ap (λ (a : ℕ). 1 + max deep a) od;
      long_is = omega (arith, l, ol);
      begun_is = omega (arith, n, on);
      printed_is = omega (arith, m, om, ps);
    }
if_else_is k line place text deep long other_deep other_long past (op.If test otherwise) code behind ms e there (inr q) past_is x y = absurd q
if_else_is k line place text deep long other_deep other_long past _ code behind ms e there q past_is x y = absurd cc

pub if_else_told : (k : Known) (line place text : ℕ) (b o : Block) (code : List Instruction) (ms : List Mark)
    → outline code ≡ at line Branch ∷ ((body_marks b ++ (at line Other ∷ (body_marks o ++ at line EndBranch ∷ []))) ++ ms) → Good k place text code
    → IsIn (leap place (place + 1 + sizes b + 1)) k.jumps → IsIn (leap (place + 1 + sizes b) (place + 1 + sizes b + 1 + sizes o + 1)) k.jumps
    → Inner k (place + 1) text b (at line Other) ((body_marks o ++ at line EndBranch ∷ []) ++ ms) → ((next : ℕ) → Inner k (place + 1 + sizes b + 1) next o (at line EndBranch) ms)
    → IsForm k line place text (1 + max (body_nesting b) (body_nesting o)) (sizes b + (sizes o + 3)) code ms
if_else_told k line place text b o code ms e good head turn inner other =
    let second = body_marks o ++ at line EndBranch ∷ [] in
    let z = place + 1 + sizes b in
    let past = z + 1 + sizes o + 1 in
    let x = one line Branch code ((body_marks b ++ (at line Other ∷ second)) ++ ms) e in
    let g : Good k place text (instruction line x.operation ∷ x.rest) = subst (λ (c : List Instruction). Good k place text c) x.is good in
    let first = inner x.rest (x.marks ∙ append_assoc (body_marks b) (at line Other ∷ second) ms) (good_quiet k place text line x.operation x.rest (silent x.operation Branch x.role_is refl) g) in
    let y = closed k line (place + 1) text (body_nesting b) (sizes b) Other (op.Else past) x.rest (second ++ ms) first (λ p r here. else_is z past p r (here (leap z past) turn refl)) refl refl in
    let next = text + length (body_prints y.body) in
    let inside = other next y.rest (y.marks ∙ append_assoc (body_marks o) (at line EndBranch ∷ []) ms) y.good in
    let w = closed k line (z + 1) next (body_nesting o) (sizes o) EndBranch op.EndIf y.rest ms inside (λ p r here. end_if_is p r) refl refl in
    subst (λ (c : List Instruction). IsForm k line place text (1 + max (body_nesting b) (body_nesting o)) (sizes b + (sizes o + 3)) c ms) (sym x.is)
    (if_else_is k line place text (body_nesting b) (sizes b) (body_nesting o) (sizes o) past x.operation x.rest (second ++ ms) ms x.role_is (things k place text line x.operation x.rest g)
    (leads_here k place text line x.operation x.rest g (leap place (z + 1)) head refl) refl y w)
