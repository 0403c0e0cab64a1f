-- The instructions of a proper program fit into their fields.
use Rattle.std.proofs.Common.{◌≡◌, ℕ, ◌+◌, ◌^◌, ◌<◌, ◌≤◌, Bool, true, ◌&&◌, List, [], ◌∷◌, ◌++◌, length, slice_index, slice_get, refl, sym, ◌∙◌, arith, length-append}
use Rattle.std.specs.List.{list_all, AllByRecursion}
use Rattle.std.proofs.lemmas.List.Folds.{list_all-append}
use Rattle.sial_syntax.specs.declared.condition.Cond.{Cond}
use Rattle.sial_syntax.specs.Numbering.{size, sizes}
use Rattle.sial_syntax.specs.Parts.{numbers_named}
use Rattle.sial_syntax.specs.Proper.{has_index, has_array, has_scalar, has_length, proper_block, proper_target, proper_cond, proper_form, proper_body, is_write, is_number, is_line, proper_numbers}
use Rattle.sial_syntax.specs.Tree.{Tree, Block, End, Then, Plain, Do, DoIn, Pardo, If, IfElse, Call, Assign, Get, Request, Put, Prepare, Create, Delete, Allocate, Deallocate, Collective, SipBarrier, ServerBarrier, Print, PrintScalar, Integrals}
use Rattle.sial_syntax.specs.Visits.{visits, inner_visits}
use Rattle.sip_tables.specs.Code.{wheres_code, form_code, body_code}
use Rattle.sip_tables.specs.Texts.{prints, body_prints}
use Rattle.table_file.specs.Fields.{is_text_or_none}
use Rattle.table_file.specs.Fits.{CondFits, InstructionFits}
use Rattle.table_laws.proofs.Proving.{both_true, below, IsSmall, index_fits, array_fits, scalar_fits, procedure_fits, indices_fit, block_fits, slots_fit, target_fits, right_fits, cond_fits, conds_fit, writes}

-- what is known of the texts and the procedures of a program
pub record IsKnown (p : Tree) (texts : List (List ℕ)) (first : ℕ) (begins : List ℕ) : Type 0 where
  pub small : IsSmall p
  pub entries : (k : ℕ) → slice_index begins k < 2 ^ 32
  pub printed : (n : ℕ) → first ≤ n → is_text_or_none (slice_get texts n) ≡ true

pub all_both : {X : Type 0} (P : X → Type 0) (xs ys : List X) → AllByRecursion P xs → AllByRecursion P ys → AllByRecursion P (xs ++ ys)
all_both P [] ys f g = g
all_both P (x ∷ xs) ys f g = (f.0, all_both P xs ys f.1 g)

tests_fit : (texts : List (List ℕ)) (line : ℕ) (cs : List Cond) → line < 2 ^ 32 → AllByRecursion CondFits cs → AllByRecursion (InstructionFits texts) (wheres_code line cs)
tests_fit texts line [] small f = tt
tests_fit texts line (c ∷ cs) small f = ((small, f.0), tests_fit texts line cs small f.1)

-- what is asked of a statement: it is proper, and so are its line and its numbers, and those inside it
record IsGood (p : Tree) (bound : List ℕ) (within : Bool) (number : ℕ) (form : Plain) : Type 0 where
  proper : proper_form p form ≡ true
  line : number < 2 ^ 32
  numbers : list_all is_number (numbers_named form) ≡ true
  inner : list_all proper_numbers (inner_visits bound within form) ≡ true

good : (p : Tree) (bound : List ℕ) (within : Bool) (line : ℕ) (form : Plain) (rest : Block) → proper_body p (Then line form rest) ≡ true → list_all proper_numbers (visits bound within (Then line form rest)) ≡ true
    → IsGood p bound within line form × ((proper_body p rest ≡ true) × (list_all proper_numbers (visits bound within rest) ≡ true))
good p bound within line form rest proper numbers =
    let a = both_true (proper_form p form) _ proper in
    let b = both_true (proper_numbers (record { line = line; form = form; bound = bound; within = within })) _ numbers in
    let own = both_true (is_line line) _ b.0 in
    let c = both_true (list_all proper_numbers (inner_visits bound within form)) _ (sym (list_all-append proper_numbers (inner_visits bound within form) (visits bound within rest)) ∙ b.1) in
    (record { proper = a.0; line = below line (2 ^ 32) own.0; numbers = own.1; inner = c.0 }, (a.1, c.1))

mutual
  pub body_fits : (p : Tree) (texts : List (List ℕ)) (first : ℕ) (entries : List ℕ) → IsKnown p texts first entries → (bound : List ℕ) (within : Bool) (at text : ℕ) (body : Block) → proper_body p body ≡ true
      → list_all proper_numbers (visits bound within body) ≡ true → at + sizes body < 2 ^ 32 → first ≤ text → text + length (body_prints body) < 2 ^ 32 → AllByRecursion (InstructionFits texts) (body_code entries at text body)
  body_fits p texts first entries known bound within at text End proper numbers room behind printed = tt
  body_fits p texts first entries known bound within at text (Then line form rest) proper numbers room behind printed =
      let g = good p bound within line form rest proper numbers in
      let l = length-append (prints form) (body_prints rest) in
      all_both (InstructionFits texts) (form_code entries at text line form) (body_code entries (at + size form) (text + length (prints form)) rest)
      (form_fits p texts first entries known bound within at text line form g.0 (omega (arith, room)) behind (omega (arith, printed, l)))
      (body_fits p texts first entries known bound within (at + size form) (text + length (prints form)) rest g.1.0 g.1.1 (omega (arith, room)) (omega (arith, behind)) (omega (arith, printed, l)))

  form_fits : (p : Tree) (texts : List (List ℕ)) (first : ℕ) (entries : List ℕ) → IsKnown p texts first entries → (bound : List ℕ) (within : Bool) (at text line : ℕ) (form : Plain) → IsGood p bound within line form
      → at + size form < 2 ^ 32 → first ≤ text → text + length (prints form) < 2 ^ 32 → AllByRecursion (InstructionFits texts) (form_code entries at text line form)
  form_fits p texts first entries known bound within at text line (Do index body) g room behind printed =
      let a = both_true (has_index p index) _ g.proper in
      let inner = body_fits p texts first entries known (index ∷ bound) within (at + 1) text body a.1 g.inner (omega (arith, room)) behind printed in
      ((g.line, (index_fits p known.small index a.0, omega (arith, room))), all_both (InstructionFits texts) (body_code entries (at + 1) text body) _ inner ((g.line, omega (arith, room)), tt))
  form_fits p texts first entries known bound within at text line (DoIn sub index body) g room behind printed =
      let a = both_true (has_index p sub) _ g.proper in
      let b = both_true (has_index p index) _ a.1 in
      let inner = body_fits p texts first entries known (sub ∷ bound) within (at + 1) text body b.1 g.inner (omega (arith, room)) behind printed in
      ((g.line, (index_fits p known.small sub a.0, (index_fits p known.small index b.0, omega (arith, room)))), all_both (InstructionFits texts) (body_code entries (at + 1) text body) _ inner ((g.line, omega (arith, room)), tt))
  form_fits p texts first entries known bound within at text line (Pardo indices wheres body) g room behind printed =
      let a = both_true (has_length 12 indices) _ g.proper in
      let b = both_true (list_all (has_index p) indices) _ a.1 in
      let c = both_true (list_all (proper_cond p) wheres) _ b.1 in
      let both : (has_length 12 indices && list_all (has_index p) indices) ≡ true = rw (a.0, b.0) refl in
      let inner = body_fits p texts first entries known (indices ++ bound) true (at + (1 + length wheres)) text body c.1 g.inner (omega (arith, room)) behind printed in
      let tests = tests_fit texts line wheres g.line (conds_fit p known.small wheres c.0 g.numbers) in (
        (g.line, (indices_fit p known.small 12 indices both, omega (arith, room))),
        all_both (InstructionFits texts) (wheres_code line wheres) _ tests (all_both (InstructionFits texts) (body_code entries (at + (1 + length wheres)) text body) _ inner ((g.line, omega (arith, room)), tt)),
      )
  form_fits p texts first entries known bound within at text line (If test body) g room behind printed =
      let a = both_true (proper_cond p test) _ g.proper in
      let inner = body_fits p texts first entries known bound within (at + 1) text body a.1 g.inner (omega (arith, room)) behind printed in
      ((g.line, ((cond_fits p known.small test [] a.0 g.numbers).0, omega (arith, room))), all_both (InstructionFits texts) (body_code entries (at + 1) text body) _ inner ((g.line, tt), tt))
  form_fits p texts first entries known bound within at text line (IfElse test body other) g room behind printed =
      let a = both_true (proper_cond p test) _ g.proper in
      let b = both_true (proper_body p body) _ a.1 in
      let l = length-append (body_prints body) (body_prints other) in
      let v = both_true (list_all proper_numbers (visits bound within body)) _ (sym (list_all-append proper_numbers (visits bound within body) (visits bound within other)) ∙ g.inner) in
      let one = body_fits p texts first entries known bound within (at + 1) text body b.0 v.0 (omega (arith, room)) behind (omega (arith, printed, l)) in
      let two = body_fits p texts first entries known bound within (at + (sizes body + 2)) (text + length (body_prints body)) other b.1 v.1 (omega (arith, room)) (omega (arith, behind)) (omega (arith, printed, l)) in (
        (g.line, ((cond_fits p known.small test [] a.0 g.numbers).0, omega (arith, room))),
        all_both (InstructionFits texts) (body_code entries (at + 1) text body) _ one
            ((g.line, omega (arith, room)), all_both (InstructionFits texts) (body_code entries (at + (sizes body + 2)) (text + length (body_prints body)) other) _ two ((g.line, tt), tt)),
      )
  form_fits p texts first entries known bound within at text line (Call procedure) g room behind printed = ((g.line, (procedure_fits p known.small procedure g.proper, known.entries procedure)), tt)
  form_fits p texts first entries known bound within at text line (Assign target combining right) g room behind printed =
      let a = both_true (proper_target p target) _ g.proper in
      ((g.line, (target_fits p known.small target a.0, right_fits p known.small right a.1 g.numbers)), tt)
  form_fits p texts first entries known bound within at text line (Get block) g room behind printed = ((g.line, block_fits p known.small block g.proper), tt)
  form_fits p texts first entries known bound within at text line (Request block) g room behind printed = ((g.line, block_fits p known.small block g.proper), tt)
  form_fits p texts first entries known bound within at text line (Put block how from) g room behind printed =
      let a = both_true (proper_block p block) _ g.proper in
      let b = both_true (is_write how) _ a.1 in
      ((g.line, (block_fits p known.small block a.0, (writes how b.0, block_fits p known.small from b.1))), tt)
  form_fits p texts first entries known bound within at text line (Prepare block how from) g room behind printed =
      let a = both_true (proper_block p block) _ g.proper in
      let b = both_true (is_write how) _ a.1 in
      ((g.line, (block_fits p known.small block a.0, (writes how b.0, block_fits p known.small from b.1))), tt)
  form_fits p texts first entries known bound within at text line (Create array) g room behind printed = ((g.line, array_fits p known.small array g.proper), tt)
  form_fits p texts first entries known bound within at text line (Delete array) g room behind printed = ((g.line, array_fits p known.small array g.proper), tt)
  form_fits p texts first entries known bound within at text line (Allocate array slots) g room behind printed =
      let a = both_true (has_array p array) _ g.proper in
      ((g.line, (array_fits p known.small array a.0, slots_fit p known.small slots a.1)), tt)
  form_fits p texts first entries known bound within at text line (Deallocate array slots) g room behind printed =
      let a = both_true (has_array p array) _ g.proper in
      ((g.line, (array_fits p known.small array a.0, slots_fit p known.small slots a.1)), tt)
  form_fits p texts first entries known bound within at text line (Collective into from) g room behind printed =
      let a = both_true (has_scalar p into) _ g.proper in
      ((g.line, (scalar_fits p known.small into a.0, scalar_fits p known.small from a.1)), tt)
  form_fits p texts first entries known bound within at text line SipBarrier g room behind printed = ((g.line, tt), tt)
  form_fits p texts first entries known bound within at text line ServerBarrier g room behind printed = ((g.line, tt), tt)
  form_fits p texts first entries known bound within at text line (Print t) g room behind printed = ((g.line, (omega (arith, printed), known.printed text behind)), tt)
  form_fits p texts first entries known bound within at text line (PrintScalar scalar) g room behind printed = ((g.line, scalar_fits p known.small scalar g.proper), tt)
  form_fits p texts first entries known bound within at text line (Integrals block) g room behind printed = ((g.line, block_fits p known.small block g.proper), tt)
