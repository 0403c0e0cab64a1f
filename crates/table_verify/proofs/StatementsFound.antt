-- What was read as statements has their code and their texts.
use Rattle.std.proofs.Common.{◌≡◌, ℕ, zero, suc, ◌+◌, ◌<◌, ◌≤◌, List, [], ◌∷◌, ◌++◌, Bool, true, false, ◌==◌, length, Some, None, refl, sym, ap, subst, ◌∙◌, arith, append_assoc, append-nil}
use Rattle.std.proofs.lemmas.Bool.{eqb-true}
use Rattle.sial_syntax.specs.declared.condition.Cond.{Cond}
use Rattle.sial_syntax.specs.Numbering.{size, sizes}
use Rattle.sial_syntax.specs.Proper.{nesting, body_nesting}
use Rattle.sial_syntax.specs.Tree.{Block, Plain, Do, DoIn, Pardo}
use Rattle.sip_tables.specs.Code.{instruction, wheres_code, form_code, body_code}
use Rattle.sip_tables.specs.Texts.{prints, body_prints}
use Rattle.sip_tables.specs.declared.instruction.Instruction.{Instruction}
use Rattle.sip_tables.specs.declared.instruction.Operation.{Operation}
use Rattle.sip_tables.specs.declared.instruction.Operation.TheVariants as op
use Rattle.table_verify.specs.Rest.{Left, Read, next}
use Rattle.table_verify.specs.Closings.{where_of, where_at, more, wheres, end_do, end_pardo}
use Rattle.table_verify.specs.Statements.{Inner, over_segments, over_pieces, pardo, inner}
use Rattle.table_verify.proofs.Closed.{then_some, kept, Takes, taken, end_do_taken, end_pardo_taken}

-- statements were taken from the front
pub record Reads (entries : List ℕ) (body : Block) (old new : Left) : Type 0 where
  pub code : old.code ≡ body_code entries old.at old.text body ++ new.code
  pub at : new.at ≡ old.at + sizes body
  pub texts : old.texts ≡ body_prints body ++ new.texts
  pub text : new.text ≡ old.text + length (body_prints body)

-- a statement was taken from the front, in which no more than so much nests
pub record ReadsForm (entries : List ℕ) (depth line : ℕ) (form : Plain) (old new : Left) : Type 0 where
  pub code : old.code ≡ form_code entries old.at old.text line form ++ new.code
  pub at : new.at ≡ old.at + size form
  pub texts : old.texts ≡ prints form ++ new.texts
  pub text : new.text ≡ old.text + length (prints form)
  pub deep : nesting form ≤ depth

-- what reads a body reads no other one, nor one in which too much nests
abbrev pub Sound : (entries : List ℕ) → (depth : ℕ) → Inner → Type 0
Sound entries depth inner = (left new : Left) (b : Block) → inner left ≡ Some (b, new) → Reads entries b left new × (body_nesting b < depth)

-- ---- a body between a first and a last instruction

pub record Wrapped (entries : List ℕ) (first last : Instruction) (b : Block) (old new : Left) : Type 0 where
  pub code : old.code ≡ first ∷ ((body_code entries (old.at + 1) old.text b ++ last ∷ []) ++ new.code)
  pub at : new.at ≡ old.at + (sizes b + 2)
  pub texts : old.texts ≡ body_prints b ++ new.texts
  pub text : new.text ≡ old.text + length (body_prints b)

-- a body where it stands, with its place and the number of its first text told otherwise
pub moved : (entries : List ℕ) (b : Block) (a text c other : ℕ) (back : List Instruction) → a ≡ c → text ≡ other → body_code entries a text b ++ back ≡ body_code entries c other b ++ back
moved entries b a text c other back place number = ap (λ (n : ℕ). body_code entries n text b ++ back) place ∙ ap (λ (n : ℕ). body_code entries c n b ++ back) number

pub wrapped : (entries : List ℕ) (first last : Instruction) (b : Block) (old left mid new : Left) → Takes first old left → Reads entries b left mid → Takes last mid new → Wrapped entries first last b old new
wrapped entries first last b old left mid new head reads tail = record {
  code =
      head.code
      ∙ ap (λ (c : List Instruction). first ∷ c) (reads.code ∙ ap (λ (c : List Instruction). body_code entries left.at left.text b ++ c) tail.code ∙ moved entries b left.at left.text (old.at + 1) old.text (last ∷ new.code) head.at head.text)
      ∙ ap (λ (c : List Instruction). first ∷ c) (sym (append_assoc (body_code entries (old.at + 1) old.text b) (last ∷ []) new.code));
  at = let a = head.at in let m = reads.at in let z = tail.at in omega (arith, a, m, z);
  texts = head.texts ∙ reads.texts ∙ ap (λ (t : List (List ℕ)). body_prints b ++ t) tail.texts;
  text = let a = head.text in let m = reads.text in let z = tail.text in omega (arith, a, m, z);
}

pub do_found : (entries : List ℕ) (depth : ℕ) (inner : Inner) → Sound entries depth inner → (line index past : ℕ) (old left new : Left) (f : Plain) → Takes (instruction line (op.Do index past)) old left
    → over_segments inner old.at line index past left ≡ Some (f, new) → ReadsForm entries depth line f old new
unfolding over_segments
do_found entries depth inner sound line index past old left new f head e =
    let G = ReadsForm entries depth line f old new in
    then_some G (inner left) _ (f, new) e (λ x first r. then_some G (end_do line old.at x.1) _ (f, new) r (λ y last k. kept G (past == y.at) (Do index x.0, y) (f, new) k (λ holds same.
    let s = sound left x.1 x.0 first in
    let w = wrapped entries (instruction line (op.Do index past)) (instruction line (op.EndDo old.at)) x.0 old left x.1 y head s.0 (end_do_taken line old.at x.1 y last) in
    let jump : past ≡ old.at + (sizes x.0 + 2) = eqb-true past y.at holds ∙ w.at in
    let deep = s.1 in
    subst (λ (p : Plain × Left). ReadsForm entries depth line p.0 old p.1) same (record {
      code = w.code ∙ ap (λ (n : ℕ). instruction line (op.Do index n) ∷ ((body_code entries (old.at + 1) old.text x.0 ++ instruction line (op.EndDo old.at) ∷ []) ++ y.code)) jump;
      at = w.at;
      texts = w.texts;
      text = w.text;
      deep = omega (arith, deep);
    }))))

pub do_in_found : (entries : List ℕ) (depth : ℕ) (inner : Inner) → Sound entries depth inner → (line sub index past : ℕ) (old left new : Left) (f : Plain) → Takes (instruction line (op.DoIn sub index past)) old left
    → over_pieces inner old.at line sub index past left ≡ Some (f, new) → ReadsForm entries depth line f old new
unfolding over_pieces
do_in_found entries depth inner sound line sub index past old left new f head e =
    let G = ReadsForm entries depth line f old new in
    then_some G (inner left) _ (f, new) e (λ x first r. then_some G (end_do line old.at x.1) _ (f, new) r (λ y last k. kept G (past == y.at) (DoIn sub index x.0, y) (f, new) k (λ holds same.
    let s = sound left x.1 x.0 first in
    let w = wrapped entries (instruction line (op.DoIn sub index past)) (instruction line (op.EndDo old.at)) x.0 old left x.1 y head s.0 (end_do_taken line old.at x.1 y last) in
    let jump : past ≡ old.at + (sizes x.0 + 2) = eqb-true past y.at holds ∙ w.at in
    let deep = s.1 in
    subst (λ (p : Plain × Left). ReadsForm entries depth line p.0 old p.1) same (record {
      code = w.code ∙ ap (λ (n : ℕ). instruction line (op.DoIn sub index n) ∷ ((body_code entries (old.at + 1) old.text x.0 ++ instruction line (op.EndDo old.at) ∷ []) ++ y.code)) jump;
      at = w.at;
      texts = w.texts;
      text = w.text;
      deep = omega (arith, deep);
    }))))

-- ---- pardos

-- conditions were taken from the front
pub record Tests (line : ℕ) (tests : List Cond) (old new : Left) : Type 0 where
  pub code : old.code ≡ wheres_code line tests ++ new.code
  pub at : new.at ≡ old.at + length tests
  pub texts : old.texts ≡ new.texts
  pub text : new.text ≡ old.text

where_found_of : (line : ℕ) (x : Instruction) (left mid : Left) (test : Cond) (new : Left) → (b : Bool) → (x.line == line) ≡ b → (o : Operation) → x.operation ≡ o → Takes x left mid → where_of b o mid ≡ Some (test, new) → Takes (instruction line (op.Where test)) left new
where_found_of line x left mid test new true is (op.Where t) what head e =
    let p : ◌≡◌ {A = Cond × Left} (t, mid) (test, new) = cc in
    let whole : x ≡ instruction line (op.Where t) = ap (λ (l : ℕ). instruction l x.operation) (eqb-true x.line line is) ∙ ap (λ (q : Operation). instruction line q) what in
    subst (λ (q : Cond × Left). Takes (instruction line (op.Where q.0)) left q.1) p (subst (λ (i : Instruction). Takes i left mid) whole head)
where_found_of line x left mid test new true is _ what head e = absurd cc
where_found_of line x left mid test new false is o what head e = absurd cc

where_found : (line : ℕ) (left : Left) (test : Cond) (new : Left) → where_at line left ≡ Some (test, new) → Takes (instruction line (op.Where test)) left new
where_found line left test new e =
    then_some (Takes (instruction line (op.Where test)) left new) (next left) (λ x. where_of (x.0.line == line) x.0.operation x.1) (test, new) e
    (λ x first r. where_found_of line x.0 left x.1 test new (x.0.line == line) refl x.0.operation refl (taken left x.0 x.1 first) r)

abbrev TestsFound : (line : ℕ) → (front : List Cond) → Left → (all : List Cond) → (new : Left) → Type 0
TestsFound line front left all new = (others : List Cond) × ((all ≡ front ++ others) × Tests line others left new)

no_tests : (line : ℕ) (front : List Cond) (left : Left) (all : List Cond) (new : Left) → ◌≡◌ {A = Read (List Cond)} (Some (front, left)) (Some (all, new)) → TestsFound line front left all new
no_tests line front left all new e =
    let p : ◌≡◌ {A = List Cond × Left} (front, left) (all, new) = cc in
    subst (λ (q : List Cond × Left). TestsFound line front left q.0 q.1) p
    ([], (sym (append-nil front), record { code = refl; at = let k : left.at ≡ left.at + 0 = omega arith in k; texts = refl; text = refl }))

one_test : (line : ℕ) (front : List Cond) (left mid : Left) (test : Cond) (all : List Cond) (new : Left) → Takes (instruction line (op.Where test)) left mid → TestsFound line (front ++ test ∷ []) mid all new → TestsFound line front left all new
one_test line front left mid test all new head found =
    let t = found.1.1 in
    let a = head.at in
    let b = t.at in (
      test ∷ found.0,
      (
        found.1.0 ∙ append_assoc front (test ∷ []) found.0,
        record {
          code = head.code ∙ ap (λ (c : List Instruction). instruction line (op.Where test) ∷ c) t.code;
          at = omega (arith, a, b);
          texts = head.texts ∙ t.texts;
          text = t.text ∙ head.text;
        },
      ),
    )

tests_step : (line n : ℕ) → ((front : List Cond) (left : Left) (all : List Cond) (new : Left) → wheres line n front left ≡ Some (all, new) → TestsFound line front left all new)
    → (front : List Cond) (left : Left) (all : List Cond) (new : Left) → (r : Read Cond) → where_at line left ≡ r → more r (front, left) (λ x. wheres line n (front ++ x.0 ∷ []) x.1) ≡ Some (all, new) → TestsFound line front left all new
tests_step line n again front left all new None is e = no_tests line front left all new e
tests_step line n again front left all new (Some x) is e = one_test line front left x.1 x.0 all new (where_found line left x.0 x.1 is) (again (front ++ x.0 ∷ []) x.1 all new e)

tests_found : (line n : ℕ) (front : List Cond) (left : Left) (all : List Cond) (new : Left) → wheres line n front left ≡ Some (all, new) → TestsFound line front left all new
unfolding wheres
tests_found line zero front left all new e = no_tests line front left all new e
tests_found line (suc n) front left all new e = tests_step line n (tests_found line n) front left all new (where_at line left) refl e

-- all conditions of a pardo
pub wheres_found : (line n : ℕ) (left : Left) (all : List Cond) (new : Left) → wheres line n [] left ≡ Some (all, new) → Tests line all left new
wheres_found line n left all new e =
    let found = tests_found line n [] left all new e in
    subst (λ (ts : List Cond). Tests line ts left new) (sym found.1.0) found.1.1

pub pardo_found : (entries : List ℕ) (depth : ℕ) (inner : Inner) → Sound entries depth inner → (most line : ℕ) (indices : List ℕ) (last : ℕ) (old left new : Left) (f : Plain) → Takes (instruction line (op.Pardo indices last)) old left
    → pardo inner most old.at line indices last left ≡ Some (f, new) → ReadsForm entries depth line f old new
unfolding pardo
pardo_found entries depth inner sound most line indices last old left new f head e =
    let G = ReadsForm entries depth line f old new in
    then_some G (wheres line most [] left) _ (f, new) e (λ w tests q. then_some G (inner w.1) _ (f, new) q (λ x first r. then_some G (end_pardo line old.at x.1) _ (f, new) r (λ y closing k.
    kept G (last == x.1.at) (Pardo indices w.0 x.0, y) (f, new) k (λ holds same.
    let t = wheres_found line most left w.0 w.1 tests in
    let s = sound w.1 x.1 x.0 first in
    let z = end_pardo_taken line old.at x.1 y closing in
    let b = x.0 in
    let ws = w.0 in
    let tail = instruction line (op.EndPardo old.at) in
    let a0 = head.at in
    let a1 = t.at in
    let a2 = s.0.at in
    let a3 = z.at in
    let t0 = head.text in
    let t1 = t.text in
    let t2 = s.0.text in
    let t3 = z.text in
    let place : w.1.at ≡ old.at + (1 + length ws) = omega (arith, a0, a1) in
    let number : w.1.text ≡ old.text = t1 ∙ t0 in
    let jump : last ≡ old.at + (1 + (length ws + sizes b)) = let h = eqb-true last x.1.at holds in omega (arith, h, a0, a1, a2) in
    let bc = body_code entries (old.at + (1 + length ws)) old.text b in
    let inside : left.code ≡ (wheres_code line ws ++ (bc ++ tail ∷ [])) ++ y.code =
    t.code
    ∙ ap (λ (c : List Instruction). wheres_code line ws ++ c) (s.0.code ∙ ap (λ (c : List Instruction). body_code entries w.1.at w.1.text b ++ c) z.code ∙ moved entries b w.1.at w.1.text (old.at + (1 + length ws)) old.text (tail ∷ y.code) place number)
    ∙ ap (λ (c : List Instruction). wheres_code line ws ++ c) (sym (append_assoc bc (tail ∷ []) y.code))
    ∙ sym (append_assoc (wheres_code line ws) (bc ++ tail ∷ []) y.code) in
    let deep = s.1 in
    subst (λ (p : Plain × Left). ReadsForm entries depth line p.0 old p.1) same (record {
      code = head.code ∙ ap (λ (c : List Instruction). instruction line (op.Pardo indices last) ∷ c) inside
          ∙ ap (λ (n : ℕ). instruction line (op.Pardo indices n) ∷ ((wheres_code line ws ++ (bc ++ tail ∷ [])) ++ y.code)) jump;
      at = omega (arith, a0, a1, a2, a3);
      texts = head.texts ∙ t.texts ∙ s.0.texts ∙ ap (λ (u : List (List ℕ)). body_prints b ++ u) z.texts;
      text = omega (arith, t0, t1, t2, t3);
      deep = omega (arith, deep);
    })))))
