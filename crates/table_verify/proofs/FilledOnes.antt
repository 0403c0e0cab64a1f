-- An instruction that is a whole statement, and has no fault, is the code of one.
use Rattle.std.proofs.Common.{◌≡◌, ℕ, ◌+◌, List, [], ◌∷◌, ◌++◌, true, ◌==◌, length, slice_index, Option, Some, None, refl, sym, ap, subst, ◌∙◌, arith}
use Rattle.std.specs.Prelude.{slice_get}
use Rattle.std.proofs.lemmas.Bool.{eqb-true, ltb-true}
use Rattle.sial_syntax.specs.Names.{is_text}
use Rattle.sial_syntax.specs.Numbering.{size, statements_in}
use Rattle.sial_syntax.specs.Proper.{nesting, proper_form}
use Rattle.sial_syntax.specs.Tree.{Plain, Call, Assign, Get, Request, Put, Prepare, Create, Delete, Allocate, Deallocate, Collective, SipBarrier, ServerBarrier, Print, PrintScalar, Integrals}
use Rattle.sip_tables.specs.Code.{instruction, alone, form_code}
use Rattle.sip_tables.specs.Texts.{prints}
use Rattle.sip_tables.specs.declared.instruction.Instruction.{Instruction}
use Rattle.sip_tables.specs.declared.instruction.Operation.{Operation}
use Rattle.sip_tables.specs.declared.instruction.Operation.TheVariants as op
use Rattle.table_verify.specs.Outline.{Alone, Mark, role, outline}
use Rattle.table_verify.specs.Things.{names_things, is_printed, prints_next, prints_of, begun}
use Rattle.table_verify.proofs.Closed.{both}
use Rattle.table_verify.proofs.Filling.{Known, Good, good_at, good_behind, good_quiet, things, drop_get, BeginsWith, begins_with_none, IsForm}

module _ (k : Known) (line place text : ℕ) (rest : List Instruction) (ms : List Mark) (marks : outline rest ≡ ms) where
  -- one that prints nothing
  quiet : (o : Operation) (f : Plain) → Good k place text (instruction line o ∷ rest) → form_code k.entries place text line f ≡ alone line o → nesting f ≡ 0 → size f ≡ 1 → statements_in f ≡ 1 → prints f ≡ [] → begun o ≡ 1 → prints_of o ≡ 0
      → proper_form k.head f ≡ true → IsForm k line place text 0 1 (instruction line o ∷ rest) ms
  quiet o f good code deep long count none begins printed proper =
      let few : length (prints f) ≡ 0 = ap (λ (ts : List (List ℕ)). length ts) none in
      record {
        form = f;
        rest = rest;
        is = ap (λ (c : List Instruction). c ++ rest) (sym code);
        marks = marks;
        good = good_at k (place + 1) (place + 1) text (text + length (prints f)) rest refl (omega (arith, few)) (good_quiet k place text line o rest printed good);
        texts = subst (λ (ts : List (List ℕ)). BeginsWith k.texts text ts) (sym none) (begins_with_none k.texts text);
        proper = proper;
        deep_is = deep;
        long_is = long;
        begun_is = omega (arith, begins, count);
        printed_is = omega (arith, printed, few);
      }

  there : (o : Operation) → Good k place text (instruction line o ∷ rest) → names_things k.head o ≡ true
  there o good = things k place text line o rest good

  -- a text that may be printed
  printed_of : (o : Option (List ℕ)) → is_printed o ≡ true → (s : List ℕ) × ((o ≡ Some s) × (is_text s ≡ true))
  printed_of None e = absurd cc
  printed_of (Some s) e = (s, (refl, e))

  print_is : (number : ℕ) → Good k place text (instruction line (op.Print number) ∷ rest) → IsForm k line place text 0 1 (instruction line (op.Print number) ∷ rest) ms
  print_is number good =
      let a = both (names_things k.head (op.Print number)) (prints_next k.texts text (op.Print number)) good.right.0 in
      let b = both (number == text) (is_printed (slice_get k.texts number)) a.1 in
      let next : number ≡ text = eqb-true number text b.0 in
      let p = printed_of (slice_get k.texts number) b.1 in
      let stands : slice_get k.texts text ≡ Some p.0 = ap (λ (n : ℕ). slice_get k.texts n) (sym next) ∙ p.1.0 in
      record {
        form = Print p.0;
        rest = rest;
        is = ap (λ (n : ℕ). instruction line (op.Print n) ∷ rest) next;
        marks = marks;
        good = good_behind k place text line (op.Print number) rest good;
        texts = drop_get k.texts text p.0 stands;
        proper = p.1.1;
        deep_is = refl;
        long_is = refl;
        begun_is = refl;
        printed_is = refl;
      }

  call_is : (procedure entry : ℕ) → Good k place text (instruction line (op.Call procedure entry) ∷ rest) → IsForm k line place text 0 1 (instruction line (op.Call procedure entry) ∷ rest) ms
  call_is procedure entry good =
      let named = there (op.Call procedure entry) good in
      let leads : entry ≡ slice_index k.entries procedure = good.calls.0 (ltb-true procedure (length k.head.procedures) named) in
      quiet (op.Call procedure entry) (Call procedure) good (ap (λ (n : ℕ). alone line (op.Call procedure n)) (sym leads)) refl refl refl refl refl refl named

  pub alone_is : (o : Operation) → role o ≡ Alone → Good k place text (instruction line o ∷ rest) → IsForm k line place text 0 1 (instruction line o ∷ rest) ms
  alone_is (op.Call procedure entry) e good = call_is procedure entry good
  alone_is (op.Assign target combining right) e good = quiet (op.Assign target combining right) (Assign target combining right) good refl refl refl refl refl refl refl (there (op.Assign target combining right) good)
  alone_is (op.Get block) e good = quiet (op.Get block) (Get block) good refl refl refl refl refl refl refl (there (op.Get block) good)
  alone_is (op.Request block) e good = quiet (op.Request block) (Request block) good refl refl refl refl refl refl refl (there (op.Request block) good)
  alone_is (op.Put block how from) e good = quiet (op.Put block how from) (Put block how from) good refl refl refl refl refl refl refl (there (op.Put block how from) good)
  alone_is (op.Prepare block how from) e good = quiet (op.Prepare block how from) (Prepare block how from) good refl refl refl refl refl refl refl (there (op.Prepare block how from) good)
  alone_is (op.Create array) e good = quiet (op.Create array) (Create array) good refl refl refl refl refl refl refl (there (op.Create array) good)
  alone_is (op.Delete array) e good = quiet (op.Delete array) (Delete array) good refl refl refl refl refl refl refl (there (op.Delete array) good)
  alone_is (op.Allocate array slots) e good = quiet (op.Allocate array slots) (Allocate array slots) good refl refl refl refl refl refl refl (there (op.Allocate array slots) good)
  alone_is (op.Deallocate array slots) e good = quiet (op.Deallocate array slots) (Deallocate array slots) good refl refl refl refl refl refl refl (there (op.Deallocate array slots) good)
  alone_is (op.Collective into from) e good = quiet (op.Collective into from) (Collective into from) good refl refl refl refl refl refl refl (there (op.Collective into from) good)
  alone_is op.SipBarrier e good = quiet op.SipBarrier SipBarrier good refl refl refl refl refl refl refl refl
  alone_is op.ServerBarrier e good = quiet op.ServerBarrier ServerBarrier good refl refl refl refl refl refl refl refl
  alone_is (op.Print number) e good = print_is number good
  alone_is (op.PrintScalar scalar) e good = quiet (op.PrintScalar scalar) (PrintScalar scalar) good refl refl refl refl refl refl refl (there (op.PrintScalar scalar) good)
  alone_is (op.Integrals block) e good = quiet (op.Integrals block) (Integrals block) good refl refl refl refl refl refl refl (there (op.Integrals block) good)
  alone_is _ e good = absurd cc
