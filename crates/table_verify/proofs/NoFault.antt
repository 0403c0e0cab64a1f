-- What is known of the code of tables that have no fault.
use Rattle.std.proofs.Common.{◌≡◌, ◌⊎◌, inl, inr, ℕ, zero, suc, ◌+◌, ◌<◌, List, [], ◌∷◌, ◌++◌, Bool, true, false, ◌&&◌, ◌==◌, not, cond, length, take, drop, slice_index, Option, Some, None, refl, sym, ap, subst, ◌∙◌, arith, take_all}
use Rattle.std.specs.Prelude.{slice_get}
use Rattle.std.proofs.lemmas.Bool.{eqb-true, eq-eqb, lt-ltb}
use Rattle.std.proofs.lemmas.List.{length-map}
use Rattle.sial_syntax.specs.Numbering.{sizes}
use Rattle.sial_syntax.specs.Tree.{Tree}
use Rattle.sip_tables.specs.Code.{entries_of}
use Rattle.sip_tables.specs.declared.instruction.Instruction.{Instruction}
use Rattle.sip_tables.specs.declared.instruction.Operation.{Operation}
use Rattle.sip_tables.specs.declared.instruction.Operation.TheVariants as op
use Rattle.sip_tables.specs.declared.procedure.ProcedureEntry.{ProcedureEntry}
use Rattle.sip_tables.specs.Flatten.{flatten}
use Rattle.sip_tables.specs.Lists.{Lists}
use Rattle.table_verify.specs.Faults.{NestAt, Nests}
use Rattle.table_verify.specs.JumpFaults.{IsFirst}
use Rattle.table_verify.specs.Jumps.{Jump, jumps, IsIn}
use Rattle.table_verify.specs.Nesting.{start, broken_at}
use Rattle.table_verify.specs.NumberFaults.{InstructionIsOther, NumberAt}
use Rattle.table_verify.specs.Numbering.{declared, next_after, first_other}
use Rattle.table_verify.specs.Outline.{Mark, mark, outline}
use Rattle.table_verify.specs.Reading.{entries_in}
use Rattle.table_verify.specs.Starting.{differs, is_other, some_other, calls_other, first_call}
use Rattle.table_verify.specs.TargetFaults.{CallIsOther, TargetAt}
use Rattle.table_verify.specs.Things.{is_right}
use Rattle.table_verify.proofs.Filling.{Known, AllRight, CallIsRight, AllCalls}
use Rattle.table_verify.proofs.InLemmas.{case}
use Rattle.table_verify.proofs.JumpEnds.{leap, told_same}
use Rattle.table_verify.proofs.JumpFaults.{told_within, front_all}
use Rattle.table_verify.proofs.NestingFaults.{fault_at, no_fault}
use Rattle.table_verify.proofs.NumberLemmas.{right_same, after_is, instructions_first, first_other_is, number_zero}
use Rattle.table_verify.proofs.StartEnds.{starts, starts_of}
use Rattle.table_verify.proofs.TablesAgain.{headed}
use Rattle.table_verify.proofs.TargetLemmas.{known, length_entries, entry_of, call_first}

-- ---- nesting

pub nests : (t : Lists) → ((place : ℕ) → NestAt place t → ⊥) → (p : Tree) × Nests t p
nests t never = of_found (broken_at 0 (outline t.code) (start (length t.procedures))) refl
  where
    of_found : (o : Option ℕ) → broken_at 0 (outline t.code) (start (length t.procedures)) ≡ o → (p : Tree) × Nests t p
    of_found None e = no_fault t e
    of_found (Some place) e = absurd (never place (fault_at t place e))

-- ---- jumps

-- whether a jump is among others
among : (x : Jump) (js : List Jump) → IsIn x js ⊎ (IsIn x js → ⊥)
among x [] = inr (λ i. i)
among x (j ∷ js) = by_tests (x.at == j.at) refl (x.reach == j.reach) refl (among x js)
  where
    by_tests : (a : Bool) → (x.at == j.at) ≡ a → (b : Bool) → (x.reach == j.reach) ≡ b → IsIn x js ⊎ (IsIn x js → ⊥) → IsIn x (j ∷ js) ⊎ (IsIn x (j ∷ js) → ⊥)
    by_tests a ea b eb (inl i) = inl (inr i)
    by_tests true ea true eb (inr never) = inl (inl (ap (λ (n : ℕ). leap n x.reach) (eqb-true x.at j.at ea) ∙ ap (λ (n : ℕ). leap j.at n) (eqb-true x.reach j.reach eb)))
    by_tests false ea b eb (inr never) = inr (λ i. case ⊥ i (λ e. let same : true ≡ false = sym (eq-eqb x.at j.at (ap (λ (y : Jump). y.at) e)) ∙ ea in absurd cc) never)
    by_tests true ea false eb (inr never) = inr (λ i. case ⊥ i (λ e. let same : true ≡ false = sym (eq-eqb x.reach j.reach (ap (λ (y : Jump). y.reach) e)) ∙ eb in absurd cc) never)

pub long_code : (t : Lists) (p : Tree) → Nests t p → length (outline (flatten p).code) ≡ length t.code
long_code t p n = ap (λ (ms : List Mark). length ms) n.all ∙ length-map t.code mark

-- the jumps of a program that nests so are those of the tables
pub all_lead : (t : Lists) (p : Tree) → Nests t p → ((place : ℕ) → TargetAt place t → ⊥) → (x : Jump) → IsIn x (jumps 0 (flatten p).code) → IsIn x (jumps 0 t.code)
all_lead t p n never x i =
    let w = told_within 0 [] (outline (flatten p).code) x tt ((told_same p).there x i) in
    let long = long_code t p n in
    let low = w.0 in
    let far = w.1 in
    case (IsIn x (jumps 0 t.code)) (among x (jumps 0 t.code)) (λ l. l)
    (λ other. absurd (never x.at (inl (record {
      count = length t.code;
      front = front_all t (p, n);
      before = omega (arith, low, long);
      program = p;
      agrees = record { procedures = n.procedures; nested = n.nested; front = ap (λ (ms : List Mark). take (length t.code) ms) n.all };
      reach = x.reach;
      told = omega (arith, far, long);
      theirs = i;
      other = other;
    }))))

-- ---- where procedures start

-- the starts that all of the code tells
pub all_known : (t : Lists) (p : Tree) → Nests t p → known t (length t.code) ≡ entries_of p ++ (starts_of p).last ∷ []
all_known t p n =
    ap (λ (code : List Instruction). starts 0 (outline code)) (take_all (length t.code) t.code (omega arith))
    ∙ (ap (λ (ms : List Mark). starts 0 ms) (sym n.all) ∙ (starts_of p).is)

front_of : {X : Type 0} (xs : List X) (k : ℕ) (x : X) (ys : List X) → drop k xs ≡ x ∷ ys → (slice_get xs k ≡ Some x) × (drop (k + 1) xs ≡ ys)
front_of [] zero x ys e = absurd cc
front_of [] (suc k) x ys e = absurd cc
front_of (z ∷ xs) zero x ys e =
    let p : z ≡ x = cc in
    let q : xs ≡ ys = cc in
    (ap (λ (w : _). Some w) p, q)
front_of (z ∷ xs) (suc k) x ys e =
    let r = front_of xs k x ys e in
    let next : suc k + 1 ≡ suc (k + 1) = omega arith in
    (r.0, ap (λ (n : ℕ). drop n (z ∷ xs)) next ∙ r.1)

not_other : (a b : ℕ) → not (a == b) ≡ false → b ≡ a
not_other a b e = by_test (a == b) refl e
  where
    by_test : (c : Bool) → (a == b) ≡ c → not c ≡ false → b ≡ a
    by_test true is f = sym (eqb-true a b is)
    by_test false is f = absurd cc

-- where no procedure starts elsewhere, entries are the starts
entries_by : (ns : List ℕ) (place : ℕ) (qs : List ProcedureEntry) (es rest : List ℕ) → some_other ns place qs ≡ false → length qs ≡ length es → drop place ns ≡ es ++ rest → entries_in qs ≡ es
entries_by ns place [] [] rest e many is = refl
entries_by ns place [] (x ∷ es) rest e many is = absurd (omega (arith, many))
entries_by ns place (q ∷ qs) [] rest e many is = absurd (omega (arith, many))
entries_by ns place (q ∷ qs) (x ∷ es) rest e many is =
    let here = front_of ns place x (es ++ rest) is in
    by_test (is_other ns place q.entry) refl e (λ f. entries_by ns (place + 1) qs es rest f (omega (arith, many)) here.1) here.0
  where
    by_test : (b : Bool) → is_other ns place q.entry ≡ b → cond b true (some_other ns (place + 1) qs) ≡ false → (some_other ns (place + 1) qs ≡ false → entries_in qs ≡ es) → slice_get ns place ≡ Some x → entries_in (q ∷ qs) ≡ x ∷ es
    by_test true same f again stands = absurd cc
    by_test false same f again stands =
        let first : q.entry ≡ x = not_other x q.entry (sym (ap (λ (o : Option ℕ). differs q.entry o) stands) ∙ same) in
        ap (λ (n : ℕ). n ∷ entries_in qs) first ∙ ap (λ (ks : List ℕ). x ∷ ks) (again f)

pub all_start : (t : Lists) (p : Tree) → Nests t p → ((place : ℕ) → TargetAt place t → ⊥) → entries_in t.procedures ≡ entries_of p
all_start t p n never = by_test (some_other (known t (length t.code)) 0 t.procedures) refl
  where
    by_test : (b : Bool) → some_other (known t (length t.code)) 0 t.procedures ≡ b → entries_in t.procedures ≡ entries_of p
    by_test true e = absurd (never 0 (inr (inr (refl, entry_of t (length t.code) (front_all t (p, n)) e))))
    by_test false e =
        entries_by (known t (length t.code)) 0 t.procedures (entries_of p) ((starts_of p).last ∷ []) e (sym (length_entries (sizes p.body + 1) p.procedures ∙ n.procedures)) (all_known t p n)

-- ---- calls

pub get_within : (xs : List ℕ) (k : ℕ) → k < length xs → slice_get xs k ≡ Some (slice_index xs k)
get_within [] k l = absurd (omega (arith, l))
get_within (x ∷ xs) zero l = refl
get_within (x ∷ xs) (suc k) l = get_within xs k (omega (arith, l))

module _ (k : Known) (ns : List ℕ) (stands : (procedure : ℕ) → procedure < length k.head.procedures → slice_get ns procedure ≡ Some (slice_index k.entries procedure)) where
  call_right : (o : Operation) → calls_other (length k.head.procedures) ns o ≡ false → CallIsRight k o
  call_right (op.Call procedure entry) e =
      λ few. let there = lt-ltb procedure (length k.head.procedures) few in
      not_other (slice_index k.entries procedure) entry
      (sym (ap (λ (o : Option ℕ). differs entry o) (stands procedure few)) ∙ (sym (ap (λ (b : Bool). b && is_other ns procedure entry) there) ∙ e))
  call_right _ e = tt

  pub calls_right : (place : ℕ) (code : List Instruction) → first_call (length k.head.procedures) ns place code ≡ None → AllCalls k code
  calls_right place [] e = tt
  calls_right place (i ∷ code) e = by_test (calls_other (length k.head.procedures) ns i.operation) refl e (λ f. calls_right (place + 1) code f)
    where
      by_test : (b : Bool) → calls_other (length k.head.procedures) ns i.operation ≡ b → cond b (Some place) (first_call (length k.head.procedures) ns (place + 1) code) ≡ None → (first_call (length k.head.procedures) ns (place + 1) code ≡ None → AllCalls k code)
          → AllCalls k (i ∷ code)
      by_test true is f again = absurd cc
      by_test false is f again = (call_right i.operation is, again f)

-- no call is another
pub no_call : (t : Lists) (p : Tree) → Nests t p → ((place : ℕ) → TargetAt place t → ⊥) → first_call (length t.procedures) (known t (length t.code)) 0 t.code ≡ None
no_call t p n never =
    of_found (first_call (length t.procedures) (known t (length t.code)) 0 (take (length t.code) t.code)) (call_first t (length t.code) (front_all t (p, n)))
    (ap (λ (code : List Instruction). first_call (length t.procedures) (known t (length t.code)) 0 code) (take_all (length t.code) t.code (omega arith)))
  where
    of_found : (o : Option ℕ) → IsFirst (λ (place : ℕ). CallIsOther place t) o → o ≡ first_call (length t.procedures) (known t (length t.code)) 0 t.code → first_call (length t.procedures) (known t (length t.code)) 0 t.code ≡ None
    of_found None first e = sym e
    of_found (Some place) first e = absurd (never place (inr (inl first.0)))

-- ---- numbers

-- the program that is declared, and the number of the first text behind its names
pub record IsDeclared (t : Lists) : Type 0 where
  pub program : Tree
  pub next : ℕ
  pub is : declared t ≡ Some (program, next)

pub outside_declared : (t : Lists) → ((place : ℕ) → NumberAt place t → ⊥) → IsDeclared t
outside_declared t never = of_found (declared t) refl
  where
    of_found : (o : Option (Tree × ℕ)) → declared t ≡ o → IsDeclared t
    of_found None e = absurd (never 0 (number_zero t e).0)
    of_found (Some x) e = record { program = x.0; next = x.1; is = e }

rights_by : (k : Known) (q : Tree) → k.head ≡ headed q → (next place : ℕ) (code : List Instruction) → first_other q k.texts next place code ≡ None → AllRight k next code
rights_by k q e next place [] f = tt
rights_by k q e next place (i ∷ code) f = by_test (is_right q k.texts next i.operation) refl f (λ m g. rights_by k q e m (place + 1) code g)
  where
    by_test : (b : Bool) → is_right q k.texts next i.operation ≡ b → cond b (first_other q k.texts (next_after next i.operation) (place + 1) code) (Some place) ≡ None
        → ((m : ℕ) → first_other q k.texts m (place + 1) code ≡ None → AllRight k m code) → AllRight k next (i ∷ code)
    by_test false is g again = absurd cc
    by_test true is g again = (
      ap (λ (p : Tree). is_right p k.texts next i.operation) e ∙ (right_same q k.texts next i.operation ∙ is),
      subst (λ (m : ℕ). AllRight k m code) (after_is q k.texts next i.operation is) (again (next_after next i.operation) g),
    )

pub all_right : (t : Lists) (p : Tree) → Nests t p → ((place : ℕ) → NumberAt place t → ⊥) → (d : IsDeclared t) (k : Known) → k.head ≡ headed d.program → k.texts ≡ t.texts → AllRight k d.next t.code
all_right t p n never d k h s =
    of_found (first_other d.program t.texts d.next 0 (take (length t.code) t.code))
    (instructions_first t (length t.code) (front_all t (p, n)) d.program d.next d.is (first_other d.program t.texts d.next 0 (take (length t.code) t.code))
    (first_other_is d.program t.texts d.next 0 (take (length t.code) t.code) (first_other d.program t.texts d.next 0 (take (length t.code) t.code)) refl))
    (ap (λ (code : List Instruction). first_other d.program t.texts d.next 0 code) (take_all (length t.code) t.code (omega arith)) ∙ ap (λ (ts : List (List ℕ)). first_other d.program ts d.next 0 t.code) (sym s))
  where
    of_found : (o : Option ℕ) → IsFirst (λ (place : ℕ). InstructionIsOther place t) o → o ≡ first_other d.program k.texts d.next 0 t.code → AllRight k d.next t.code
    of_found None first e = rights_by k d.program h d.next 0 t.code (sym e)
    of_found (Some place) first e = absurd (never place (inl first.0))
