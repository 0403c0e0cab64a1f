-- Code that nests as statements, and has no fault, is the code of a body.
use Rattle.std.proofs.Common.{◌≡◌, inl, inr, ℕ, ◌+◌, List, [], ◌∷◌, ◌++◌, length, max, refl, sym, ap, subst, ◌∙◌, arith, append_assoc, length-append}
use Rattle.sial_syntax.specs.Numbering.{size, sizes}
use Rattle.sial_syntax.specs.Proper.{nesting, body_nesting, proper_form, proper_body}
use Rattle.sial_syntax.specs.Tree.{Block, End, Then, Plain, Do, DoIn, Pardo, If, IfElse, Call, Assign, Get, Request, Put, Prepare, Create, Delete, Allocate, Deallocate, Collective, SipBarrier, ServerBarrier, Print, PrintScalar, Integrals}
use Rattle.sip_tables.specs.Code.{instruction, form_code, body_code}
use Rattle.sip_tables.specs.Texts.{prints, body_prints}
use Rattle.sip_tables.specs.declared.instruction.Instruction.{Instruction}
use Rattle.table_verify.specs.Jumps.{Jump, IsIn}
use Rattle.table_verify.specs.Outline.{Alone, Pardo, Other, EndLoop, EndPardo, EndBranch, Mark, outline}
use Rattle.table_verify.proofs.Filling.{Known, Good, good_at, one, begins_with_none, begins_with_both, IsForm, IsBody}
use Rattle.table_verify.proofs.FilledOnes.{alone_is}
use Rattle.table_verify.proofs.InLemmas.{in_left, in_right}
use Rattle.table_verify.proofs.JumpEnds.{leap, form_told, body_told}
use Rattle.table_verify.proofs.OutlineLemmas.{at, form_marks, body_marks}
use Rattle.table_verify.proofs.Passed.{together}
use Rattle.table_verify.proofs.FilledBranches.{if_told, if_else_told}
use Rattle.table_verify.proofs.FilledLoops.{loop_is, pardo_told}

lone : (k : Known) (line place text : ℕ) (code : List Instruction) (ms : List Mark) → outline code ≡ at line Alone ∷ ms → Good k place text code → IsForm k line place text 0 1 code ms
lone k line place text code ms e good =
    let x = one line Alone code ms e in
    let g : Good k place text (instruction line x.operation ∷ x.rest) = subst (λ (c : List Instruction). Good k place text c) x.is good in
    subst (λ (c : List Instruction). IsForm k line place text 0 1 c ms) (sym x.is) (alone_is k line place text x.rest ms x.marks x.operation x.role_is g)

-- jumps that are told
abbrev pub Told : Known → List Jump → Type 0
Told k js = (x : Jump) → IsIn x js → IsIn x k.jumps

-- a statement and the others
then_is : (k : Known) (line place text deep long others more : ℕ) (code : List Instruction) (behind ms : List Mark) → (x : IsForm k line place text deep long code behind)
    → IsBody k (place + long) (text + length (prints x.form)) others more x.rest ms → IsBody k place text (max deep others) (long + more) code ms
then_is k line place text deep long others more code behind ms x y =
    let next = text + length (prints x.form) in
    let fc = form_code k.entries place text line x.form in
    let rc = body_code k.entries (place + size x.form) next y.body in
    let l = x.long_is in
    let ol = y.long_is in
    let n = x.begun_is in
    let m = x.printed_is in
    let on = y.begun_is in
    let om = y.printed_is in
    let ps = length-append (prints x.form) (body_prints y.body) in
    let from : place + long ≡ place + size x.form = omega (arith, l) in
    record {
      body = Then line x.form y.body;
      rest = y.rest;
      is = x.is ∙ (ap (λ (c : List Instruction). fc ++ c) (y.is ∙ ap (λ (p : ℕ). body_code k.entries p next y.body ++ y.rest) from) ∙ sym (append_assoc fc rc y.rest));
      marks = y.marks;
      good = good_at k (place + long + more) (place + (long + more)) (next + length (body_prints y.body)) (text + length (prints x.form ++ body_prints y.body)) y.rest (omega arith) (omega (arith, ps)) y.good;
      texts = begins_with_both k.texts text (prints x.form) (body_prints y.body) x.texts y.texts;
      proper = together (proper_form k.head x.form) (proper_body k.head y.body) x.proper y.proper;
      deep_is = ap (λ (a : ℕ). max a (body_nesting y.body)) x.deep_is ∙ ap (λ (a : ℕ). max deep a) y.deep_is;
      long_is = omega (arith, l, ol);
      begun_is = omega (arith, n, on);
      printed_is = omega (arith, m, om, ps);
    }

mutual
  form_is : (k : Known) (line : ℕ) (f : Plain) (place text : ℕ) (code : List Instruction) (ms : List Mark) → outline code ≡ form_marks line f ++ ms → Good k place text code → Told k (form_told place f) → IsForm k line place text (nesting f) (size f) code ms
  form_is k line (Do index b) place text code ms e good told =
      let js = body_told (place + 1) b in
      let head = leap place (place + 1 + sizes b + 1) in
      let end = leap (place + 1 + sizes b) place in
      loop_is k line place text b code ms e good (told head (in_right head js (head ∷ end ∷ []) (inl refl))) (told end (in_right end js (head ∷ end ∷ []) (inr (inl refl))))
      (λ c h g. body_is k b (place + 1) text c (at line EndLoop ∷ ms) h g (λ x i. told x (in_left x js (head ∷ end ∷ []) i)))
  form_is k line (DoIn sub index b) place text code ms e good told =
      let js = body_told (place + 1) b in
      let head = leap place (place + 1 + sizes b + 1) in
      let end = leap (place + 1 + sizes b) place in
      loop_is k line place text b code ms e good (told head (in_right head js (head ∷ end ∷ []) (inl refl))) (told end (in_right end js (head ∷ end ∷ []) (inr (inl refl))))
      (λ c h g. body_is k b (place + 1) text c (at line EndLoop ∷ ms) h g (λ x i. told x (in_left x js (head ∷ end ∷ []) i)))
  form_is k line (Pardo indices ws b) place text code ms e good told =
      let from = place + 1 + length ws in
      let js = body_told from b in
      let head = leap place (from + sizes b + 1) in
      let end = leap (from + sizes b) place in
      pardo_told k line place text ws b code ms e good (told head (in_right head js (head ∷ end ∷ []) (inl refl))) (told end (in_right end js (head ∷ end ∷ []) (inr (inl refl))))
      (λ c h g. body_is k b from text c (at line EndPardo ∷ ms) h g (λ x i. told x (in_left x js (head ∷ end ∷ []) i)))
  form_is k line (If test b) place text code ms e good told =
      let js = body_told (place + 1) b in
      let head = leap place (place + 1 + sizes b + 1) in
      if_told k line place text b code ms e good (told head (in_right head js (head ∷ []) (inl refl)))
      (λ c h g. body_is k b (place + 1) text c (at line EndBranch ∷ ms) h g (λ x i. told x (in_left x js (head ∷ []) i)))
  form_is k line (IfElse test b o) place text code ms e good told =
      let js = body_told (place + 1) b in
      let z = place + 1 + sizes b in
      let os = body_told (z + 1) o in
      let head = leap place (z + 1) in
      let turn = leap z (z + 1 + sizes o + 1) in
      let behind = head ∷ (os ++ turn ∷ []) in
      if_else_told k line place text b o code ms e good (told head (in_right head js behind (inl refl))) (told turn (in_right turn js behind (inr (in_right turn os (turn ∷ []) (inl refl)))))
      (λ c h g. body_is k b (place + 1) text c (at line Other ∷ ((body_marks o ++ at line EndBranch ∷ []) ++ ms)) h g (λ x i. told x (in_left x js behind i)))
      (λ next c h g. body_is k o (z + 1) next c (at line EndBranch ∷ ms) h g (λ x i. told x (in_right x js behind (inr (in_left x os (turn ∷ []) i)))))
  form_is k line (Call procedure) place text code ms e good told = lone k line place text code ms e good
  form_is k line (Assign target combining right) place text code ms e good told = lone k line place text code ms e good
  form_is k line (Get block) place text code ms e good told = lone k line place text code ms e good
  form_is k line (Request block) place text code ms e good told = lone k line place text code ms e good
  form_is k line (Put block how from) place text code ms e good told = lone k line place text code ms e good
  form_is k line (Prepare block how from) place text code ms e good told = lone k line place text code ms e good
  form_is k line (Create array) place text code ms e good told = lone k line place text code ms e good
  form_is k line (Delete array) place text code ms e good told = lone k line place text code ms e good
  form_is k line (Allocate array slots) place text code ms e good told = lone k line place text code ms e good
  form_is k line (Deallocate array slots) place text code ms e good told = lone k line place text code ms e good
  form_is k line (Collective into from) place text code ms e good told = lone k line place text code ms e good
  form_is k line SipBarrier place text code ms e good told = lone k line place text code ms e good
  form_is k line ServerBarrier place text code ms e good told = lone k line place text code ms e good
  form_is k line (Print printed) place text code ms e good told = lone k line place text code ms e good
  form_is k line (PrintScalar scalar) place text code ms e good told = lone k line place text code ms e good
  form_is k line (Integrals block) place text code ms e good told = lone k line place text code ms e good

  pub body_is : (k : Known) (b : Block) (place text : ℕ) (code : List Instruction) (ms : List Mark) → outline code ≡ body_marks b ++ ms → Good k place text code → Told k (body_told place b) → IsBody k place text (body_nesting b) (sizes b) code ms
  body_is k End place text code ms e good told = record {
    body = End;
    rest = code;
    is = refl;
    marks = e;
    good = good_at k place (place + 0) text (text + 0) code (omega arith) (omega arith) good;
    texts = begins_with_none k.texts text;
    proper = refl;
    deep_is = refl;
    long_is = refl;
    begun_is = omega arith;
    printed_is = omega arith;
  }
  body_is k (Then line f b) place text code ms e good told =
      let x = form_is k line f place text code (body_marks b ++ ms) (e ∙ append_assoc (form_marks line f) (body_marks b) ms) good (λ j i. told j (in_left j (form_told place f) (body_told (place + size f) b) i)) in
      let y = body_is k b (place + size f) (text + length (prints x.form)) x.rest ms x.marks x.good (λ j i. told j (in_right j (form_told place f) (body_told (place + size f) b) i)) in
      then_is k line place text (nesting f) (size f) (body_nesting b) (sizes b) code (body_marks b ++ ms) ms x y
