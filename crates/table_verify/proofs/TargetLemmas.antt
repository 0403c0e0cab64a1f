-- The first instruction that leads elsewhere.
use Rattle.std.proofs.Common.{◌≡◌, ◌⊎◌, inr, ℕ, zero, suc, ◌+◌, ◌≤◌, ◌<◌, List, [], ◌∷◌, ◌++◌, Bool, true, false, ◌==◌, not, cond, nat_lt, length, take, drop, Option, Some, None, refl, sym, ap, subst, ◌∙◌, arith}
use Rattle.std.specs.Prelude.{slice_get}
use Rattle.std.proofs.lemmas.Bool.{eqb-true, eq-eqb, ltb-true, lt-ltb, and_from}
use Rattle.std.proofs.lemmas.List.{take-append-drop, length-take-le}
use Rattle.std.proofs.lemmas.Option.{slice_get_within}
use Rattle.sial_syntax.specs.Tree.{Tree, Procedure}
use Rattle.sial_syntax.specs.Numbering.{sizes, procedure_size}
use Rattle.sip_tables.specs.Code.{entries_from, entries_of}
use Rattle.sip_tables.specs.declared.instruction.Instruction.{Instruction}
use Rattle.sip_tables.specs.declared.instruction.Operation.{Operation}
use Rattle.sip_tables.specs.declared.instruction.Operation.TheVariants as op
use Rattle.sip_tables.specs.declared.procedure.ProcedureEntry.{ProcedureEntry}
use Rattle.sip_tables.specs.Flatten.{flatten}
use Rattle.sip_tables.specs.Lists.{Lists}
use Rattle.table_verify.specs.Faults.{Agrees}
use Rattle.table_verify.specs.JumpFaults.{IsFront, JumpIsOther, IsFirst}
use Rattle.table_verify.specs.Jumping.{all_compared, first_wrong}
use Rattle.table_verify.specs.Outline.{Mark, outline}
use Rattle.table_verify.specs.Starting.{starts_onto, differs, is_other, some_other, calls_other, first_call, earlier}
use Rattle.table_verify.specs.TargetFaults.{StartIsTold, EntryIsOther, CallIsOther, TargetAt}
use Rattle.table_verify.proofs.Closed.{both}
use Rattle.table_verify.proofs.FirstOf.{first_either, first_more}
use Rattle.table_verify.proofs.InLemmas.{case}
use Rattle.table_verify.proofs.JumpFaults.{front_is, front_long, one_front, first_of}
use Rattle.table_verify.proofs.StartEnds.{starts, starts_of, starts_append, starts_after, starts_within, onto_is, get_left, get_in, get_either, get_back}

-- ---- where procedures start

-- the starts that so many instructions tell
abbrev pub known : Lists → (count : ℕ) → List ℕ
known t count = starts 0 (outline (take count t.code))

pub length_entries : (place : ℕ) (qs : List Procedure) → length (entries_from place qs) ≡ length qs
length_entries place [] = refl
length_entries place (q ∷ qs) = ap suc (length_entries (place + procedure_size q) qs)

-- the starts of a program that begins so
starts_split : (t : Lists) (count : ℕ) (p : Tree) → count ≤ length t.code → Agrees count t p
    → starts 0 (outline (flatten p).code) ≡ known t count ++ starts (0 + length (outline (take count t.code))) (drop count (outline (flatten p).code))
starts_split t count p within a =
    ap (λ (ms : List Mark). starts 0 ms) (sym (take-append-drop count (outline (flatten p).code)) ∙ ap (λ (ms : List Mark). ms ++ drop count (outline (flatten p).code)) (front_is t count p within a))
    ∙ starts_append 0 (outline (take count t.code)) (drop count (outline (flatten p).code))

known_told : (t : Lists) (count procedure start : ℕ) → IsFront count t → procedure < length t.procedures → slice_get (known t count) procedure ≡ Some start → StartIsTold count t procedure start
known_told t count procedure start f l e =
    let p = f.begins.0 in
    let a = f.begins.1 in
    let rest = starts (0 + length (outline (take count t.code))) (drop count (outline (flatten p).code)) in
    let x = starts_of p in
    let all : slice_get (entries_of p ++ x.last ∷ []) procedure ≡ Some start =
    ap (λ (ns : List ℕ). slice_get ns procedure) (sym x.is ∙ starts_split t count p f.within a) ∙ get_left (known t count) rest procedure start e in
    let many = length_entries (sizes p.body + 1) p.procedures ∙ a.procedures in
    let far = starts_within 0 (outline (take count t.code)) start (get_in (known t count) procedure start e) in
    let long = front_long t count p f.within a in
    record {
      program = p;
      agrees = a;
      starts = get_back (entries_of p) (x.last ∷ []) procedure start (omega (arith, l, many)) all;
      told = omega (arith, far, long);
    }

told_known : (t : Lists) (count procedure start : ℕ) → count ≤ length t.code → StartIsTold count t procedure start → slice_get (known t count) procedure ≡ Some start
told_known t count procedure start within s =
    let p = s.program in
    let front = outline (take count t.code) in
    let rest = starts (0 + length front) (drop count (outline (flatten p).code)) in
    let x = starts_of p in
    let all : slice_get (known t count ++ rest) procedure ≡ Some start =
    ap (λ (ns : List ℕ). slice_get ns procedure) (sym (starts_split t count p within s.agrees) ∙ x.is) ∙ get_left (entries_of p) (x.last ∷ []) procedure start s.starts in
    case (slice_get (known t count) procedure ≡ Some start) (get_either (known t count) rest procedure start all) (λ e. e)
    (λ i. let late = starts_after (0 + length front) (drop count (outline (flatten p).code)) start i in
    let far = s.told in
    let long = front_long t count p within s.agrees in
    absurd (omega (arith, late, far, long)))

-- ---- what is compared

-- a start that is known and another one
record Differs (ns : List ℕ) (procedure entry : ℕ) : Type 0 where
  start : ℕ
  is : slice_get ns procedure ≡ Some start
  other : entry ≡ start → ⊥

other_found : (ns : List ℕ) (procedure entry : ℕ) → is_other ns procedure entry ≡ true → Differs ns procedure entry
other_found ns procedure entry e = of_get (slice_get ns procedure) refl e
  where
    not_so : (b : Bool) → b ≡ true → not b ≡ true → ⊥
    not_so true e f = absurd cc
    not_so false e f = absurd cc

    of_get : (o : Option ℕ) → slice_get ns procedure ≡ o → differs entry o ≡ true → Differs ns procedure entry
    of_get None is h = absurd cc
    of_get (Some s) is h = record { start = s; is = is; other = λ same. not_so (s == entry) (eq-eqb s entry (sym same)) h }

other_so : (ns : List ℕ) (procedure entry start : ℕ) → slice_get ns procedure ≡ Some start → (entry ≡ start → ⊥) → is_other ns procedure entry ≡ true
other_so ns procedure entry start e other = ap (λ (o : Option ℕ). differs entry o) e ∙ by_test (start == entry) refl
  where
    by_test : (b : Bool) → (start == entry) ≡ b → not b ≡ true
    by_test true is = absurd (other (sym (eqb-true start entry is)))
    by_test false is = refl

-- an entry that is another
record Entry (ns : List ℕ) (place : ℕ) (qs : List ProcedureEntry) : Type 0 where
  turn : ℕ
  entry : ProcedureEntry
  is : slice_get qs turn ≡ Some entry
  other : is_other ns (place + turn) entry.entry ≡ true

entry_found : (ns : List ℕ) (place : ℕ) (qs : List ProcedureEntry) → some_other ns place qs ≡ true → Entry ns place qs
entry_found ns place [] e = absurd cc
entry_found ns place (q ∷ qs) e = by_test (is_other ns place q.entry) refl e (λ h. entry_found ns (place + 1) qs h)
  where
    by_test : (b : Bool) → is_other ns place q.entry ≡ b → cond b true (some_other ns (place + 1) qs) ≡ true → (some_other ns (place + 1) qs ≡ true → Entry ns (place + 1) qs) → Entry ns place (q ∷ qs)
    by_test true is h again = let near : place ≡ place + 0 = omega arith in record { turn = 0; entry = q; is = refl; other = ap (λ (n : ℕ). is_other ns n q.entry) (sym near) ∙ is }
    by_test false is h again =
        let x = again h in
        let turn = x.turn in
        let near : place + suc turn ≡ place + 1 + turn = omega arith in
        record { turn = suc turn; entry = x.entry; is = x.is; other = ap (λ (n : ℕ). is_other ns n x.entry.entry) near ∙ x.other }

entry_none : (ns : List ℕ) (place : ℕ) (qs : List ProcedureEntry) (turn : ℕ) (q : ProcedureEntry) → some_other ns place qs ≡ false → slice_get qs turn ≡ Some q → is_other ns (place + turn) q.entry ≡ true → ⊥
entry_none ns place [] turn q e is other = absurd cc
entry_none ns place (x ∷ qs) zero q e is other =
    let same : x ≡ q = cc in
    let near : place + 0 ≡ place = omega arith in
    let here : is_other ns place x.entry ≡ true = ap (λ (n : ℕ). is_other ns n x.entry) (sym near) ∙ (ap (λ (y : ProcedureEntry). is_other ns (place + 0) y.entry) same ∙ other) in
    let never : true ≡ false = sym (ap (λ (b : Bool). cond b true (some_other ns (place + 1) qs)) here) ∙ e in
    absurd cc
entry_none ns place (x ∷ qs) (suc turn) q e is other =
    let near : place + 1 + turn ≡ place + suc turn = omega arith in
    by_test (is_other ns place x.entry) e (λ h. entry_none ns (place + 1) qs turn q h is (ap (λ (n : ℕ). is_other ns n q.entry) near ∙ other))
  where
    by_test : (b : Bool) → cond b true (some_other ns (place + 1) qs) ≡ false → (some_other ns (place + 1) qs ≡ false → ⊥) → ⊥
    by_test true h again = absurd cc
    by_test false h again = again h

-- ---- calls

-- a wrong call of code
record Call (n : ℕ) (ns : List ℕ) (code : List Instruction) (turn : ℕ) : Type 0 where
  call : Instruction
  is : slice_get code turn ≡ Some call
  other : calls_other n ns call.operation ≡ true

-- the first wrong call of code whose first instruction has the number `place`
abbrev FirstCall : ℕ → List ℕ → (place : ℕ) → List Instruction → Option ℕ → Type 0
FirstCall n ns place code None = (turn : ℕ) → Call n ns code turn → ⊥
FirstCall n ns place code (Some at) = (turn : ℕ) × (at ≡ place + turn) × Call n ns code turn × ((before : ℕ) → before < turn → Call n ns code before → ⊥)

first_call_is : (n : ℕ) (ns : List ℕ) (place : ℕ) (code : List Instruction) (found : Option ℕ) → first_call n ns place code ≡ found → FirstCall n ns place code found
first_call_is n ns place [] None e = λ turn c. nothing turn c
  where
    nothing : (turn : ℕ) → Call n ns [] turn → ⊥
    nothing turn c = let is = c.is in absurd cc
first_call_is n ns place [] (Some at) e = absurd cc
first_call_is n ns place (i ∷ code) found e = by_test (calls_other n ns i.operation) refl found e (λ o h. first_call_is n ns (place + 1) code o h)
  where
    here : calls_other n ns i.operation ≡ false → Call n ns (i ∷ code) zero → ⊥
    here never c =
        let same : i ≡ c.call = of_some c.is in
        let yes : calls_other n ns i.operation ≡ true = ap (λ (x : Instruction). calls_other n ns x.operation) same ∙ c.other in
        absurd cc
      where
        of_some : {X : Type 0} {x y : X} → Some x ≡ Some y → x ≡ y
        of_some e = cc

    behind : (turn : ℕ) → Call n ns (i ∷ code) (suc turn) → Call n ns code turn
    behind turn c = record { call = c.call; is = c.is; other = c.other }

    none : calls_other n ns i.operation ≡ false → ((turn : ℕ) → Call n ns code turn → ⊥) → (turn : ℕ) → Call n ns (i ∷ code) turn → ⊥
    none never f zero c = here never c
    none never f (suc turn) c = f turn (behind turn c)

    earlier_none : (turn : ℕ) → calls_other n ns i.operation ≡ false → ((before : ℕ) → before < turn → Call n ns code before → ⊥) → (before : ℕ) → before < suc turn → Call n ns (i ∷ code) before → ⊥
    earlier_none turn never f zero l c = here never c
    earlier_none turn never f (suc before) l c = f before (omega (arith, l)) (behind before c)

    further : (o : Option ℕ) → calls_other n ns i.operation ≡ false → FirstCall n ns (place + 1) code o → FirstCall n ns place (i ∷ code) o
    further None never f = none never f
    further (Some at) never f =
        let turn = f.0 in
        let is = f.1 in
        let c = f.2 in
        (suc turn, omega (arith, is), record { call = c.call; is = c.is; other = c.other }, earlier_none turn never f.3)

    by_test : (b : Bool) → calls_other n ns i.operation ≡ b → (o : Option ℕ) → cond b (Some place) (first_call n ns (place + 1) code) ≡ o → ((o : Option ℕ) → first_call n ns (place + 1) code ≡ o → FirstCall n ns (place + 1) code o) → FirstCall n ns place (i ∷ code) o
    by_test true is None h again = absurd cc
    by_test true is (Some at) h again =
        let same : place ≡ at = cc in
        (zero, omega (arith, same), record { call = i; is = refl; other = is }, λ before l c. absurd (omega (arith, l)))
    by_test false is o h again = further o is (again o h)

-- a wrong call, taken apart
record Parts (n : ℕ) (ns : List ℕ) (o : Operation) : Type 0 where
  procedure : ℕ
  entry : ℕ
  is : o ≡ op.Call procedure entry
  few : procedure < n
  other : is_other ns procedure entry ≡ true

parts : (n : ℕ) (ns : List ℕ) (o : Operation) → calls_other n ns o ≡ true → Parts n ns o
parts n ns (op.Call procedure entry) e =
    let b = both (nat_lt procedure n) (is_other ns procedure entry) e in
    record { procedure = procedure; entry = entry; is = refl; few = ltb-true procedure n b.0; other = b.1 }
parts n ns _ e = absurd cc

-- an instruction of the first ones is one of all
pub get_take : (code : List Instruction) (count at : ℕ) (i : Instruction) → slice_get (take count code) at ≡ Some i → slice_get code at ≡ Some i
get_take code count at i e = ap (λ (is : List Instruction). slice_get is at) (sym (take-append-drop count code)) ∙ get_left (take count code) (drop count code) at i e

pub take_get : (code : List Instruction) (count at : ℕ) (i : Instruction) → at < count → slice_get code at ≡ Some i → slice_get (take count code) at ≡ Some i
take_get [] count at i l e = absurd cc
take_get (x ∷ code) zero at i l e = absurd (omega (arith, l))
take_get (x ∷ code) (suc count) zero i l e = e
take_get (x ∷ code) (suc count) (suc at) i l e = take_get code count at i (omega (arith, l)) e

-- ---- tables

call_of : (t : Lists) (count : ℕ) (f : IsFront count t) (place : ℕ) → Call (length t.procedures) (known t count) (take count t.code) place → CallIsOther place t
call_of t count f place c =
    let x = parts (length t.procedures) (known t count) c.call.operation c.other in
    let d = other_found (known t count) x.procedure x.entry x.other in
    let low = slice_get_within (take count t.code) place c.call c.is in
    let long = length-take-le count t.code f.within in
    record {
      count = count;
      front = f;
      before = omega (arith, low, long);
      procedure = x.procedure;
      start = d.start;
      right = known_told t count x.procedure d.start f x.few d.is;
      call = c.call;
      written = get_take t.code count place c.call c.is;
      entry = x.entry;
      calls = x.is;
      other = d.other;
    }

-- a procedure that starts somewhere is one of so many
start_few : (t : Lists) (count procedure start : ℕ) → StartIsTold count t procedure start → procedure < length t.procedures
start_few t count procedure start s =
    let p = s.program in
    let l = slice_get_within (entries_of p) procedure start s.starts in
    let many = length_entries (sizes p.body + 1) p.procedures ∙ s.agrees.procedures in
    omega (arith, l, many)

of_call : (t : Lists) (count : ℕ) (f : IsFront count t) (place : ℕ) → CallIsOther place t → Call (length t.procedures) (known t count) (take count t.code) place
of_call t count f place y =
    let same = one_front t y.count count y.front f in
    let right : StartIsTold count t y.procedure y.start = subst (λ (n : ℕ). StartIsTold n t y.procedure y.start) same y.right in
    let before = y.before in
    let few = start_few t count y.procedure y.start right in
    let other = other_so (known t count) y.procedure y.entry y.start (told_known t count y.procedure y.start f.within right) y.other in
    record {
      call = y.call;
      is = take_get t.code count place y.call (omega (arith, before, same)) y.written;
      other = ap (λ (o : Operation). calls_other (length t.procedures) (known t count) o) y.calls
          ∙ and_from (nat_lt y.procedure (length t.procedures)) (is_other (known t count) y.procedure y.entry) (lt-ltb y.procedure (length t.procedures) few) other;
    }

pub call_first : (t : Lists) (count : ℕ) (f : IsFront count t) → IsFirst (λ (n : ℕ). CallIsOther n t) (first_call (length t.procedures) (known t count) 0 (take count t.code))
call_first t count f = of_found (first_call (length t.procedures) (known t count) 0 (take count t.code)) (first_call_is (length t.procedures) (known t count) 0 (take count t.code) (first_call (length t.procedures) (known t count) 0 (take count t.code)) refl)
  where
    of_found : (found : Option ℕ) → FirstCall (length t.procedures) (known t count) 0 (take count t.code) found → IsFirst (λ (n : ℕ). CallIsOther n t) found
    of_found None never = λ place y. never place (of_call t count f place y)
    of_found (Some place) x =
        let turn = x.0 in
        let is = x.1 in
        let same : turn ≡ place = omega (arith, is) in
        (subst (λ (n : ℕ). CallIsOther n t) same (call_of t count f turn x.2), λ before l y. x.3 before (omega (arith, l, same)) (of_call t count f before y))

pub entry_of : (t : Lists) (count : ℕ) (f : IsFront count t) → some_other (known t count) 0 t.procedures ≡ true → EntryIsOther t
entry_of t count f e =
    let x = entry_found (known t count) 0 t.procedures e in
    let turn = x.turn in
    let near : 0 + turn ≡ turn = omega arith in
    let d = other_found (known t count) turn x.entry.entry (ap (λ (n : ℕ). is_other (known t count) n x.entry.entry) (sym near) ∙ x.other) in
    record {
      count = count;
      front = f;
      procedure = turn;
      start = d.start;
      right = known_told t count turn d.start f (slice_get_within t.procedures turn x.entry x.is) d.is;
      entry = x.entry;
      written = x.is;
      other = d.other;
    }

no_entry : (t : Lists) (count : ℕ) (f : IsFront count t) → some_other (known t count) 0 t.procedures ≡ false → EntryIsOther t → ⊥
no_entry t count f e y =
    let same = one_front t y.count count y.front f in
    let right : StartIsTold count t y.procedure y.start = subst (λ (n : ℕ). StartIsTold n t y.procedure y.start) same y.right in
    let other = other_so (known t count) y.procedure y.entry.entry y.start (told_known t count y.procedure y.start f.within right) y.other in
    let near : y.procedure ≡ 0 + y.procedure = omega arith in
    entry_none (known t count) 0 t.procedures y.procedure y.entry e y.written (ap (λ (n : ℕ). is_other (known t count) n y.entry.entry) (sym near) ∙ other)

-- what the code looks at
known_is : (t : Lists) (count : ℕ) (code : List Instruction) → code ≡ take count t.code → starts_onto [] 0 code ≡ known t count
known_is t count code c = onto_is [] 0 code ∙ ap (λ (is : List Instruction). starts 0 (outline is)) c

pub target_zero : (t : Lists) (count : ℕ) (code : List Instruction) (ns : List ℕ) (qs : List ProcedureEntry) → IsFront count t → code ≡ take count t.code → qs ≡ t.procedures → ns ≡ starts_onto [] 0 code → some_other ns 0 qs ≡ true
    → IsFirst (λ (n : ℕ). TargetAt n t) (Some 0)
target_zero t count code ns qs f c q n e =
    let entry = entry_of t count f (ap (λ (ks : List ℕ). some_other ks 0 t.procedures) (sym (n ∙ known_is t count code c)) ∙ (ap (λ (rs : List ProcedureEntry). some_other ns 0 rs) (sym q) ∙ e)) in
    (inr (inr (refl, entry)), λ before l. absurd (omega (arith, l)))

pub target_from : (t : Lists) (count : ℕ) (code : List Instruction) (ns : List ℕ) (qs : List ProcedureEntry) (many : ℕ) (jump call : Option ℕ) → IsFront count t → code ≡ take count t.code → qs ≡ t.procedures → many ≡ length t.procedures
    → ns ≡ starts_onto [] 0 code → some_other ns 0 qs ≡ false → jump ≡ first_wrong None (all_compared 0 [] code) → call ≡ first_call many ns 0 code → IsFirst (λ (n : ℕ). TargetAt n t) (earlier jump call)
target_from t count code ns qs many jump call f c q m n e j k =
    let known_so = n ∙ known_is t count code c in
    let never = no_entry t count f (ap (λ (ks : List ℕ). some_other ks 0 t.procedures) (sym known_so) ∙ (ap (λ (rs : List ProcedureEntry). some_other ns 0 rs) (sym q) ∙ e)) in
    let jump_is : jump ≡ first_wrong None (all_compared 0 [] (take count t.code)) = j ∙ ap (λ (is : List Instruction). first_wrong None (all_compared 0 [] is)) c in
    let call_is : first_call (length t.procedures) (known t count) 0 (take count t.code) ≡ call =
    sym (k ∙ (ap (λ (x : ℕ). first_call x ns 0 code) m ∙ (ap (λ (ks : List ℕ). first_call (length t.procedures) ks 0 code) known_so ∙ ap (λ (is : List Instruction). first_call (length t.procedures) (known t count) 0 is) c))) in
    let calls = subst (λ (o : Option ℕ). IsFirst (λ (x : ℕ). CallIsOther x t) o) call_is (call_first t count f) in
    first_either (λ (x : ℕ). JumpIsOther x t) (λ (x : ℕ). CallIsOther x t ⊎ ((x ≡ 0) × EntryIsOther t)) jump call (first_of t count f jump jump_is)
    (first_more (λ (x : ℕ). CallIsOther x t) (λ (x : ℕ). (x ≡ 0) × EntryIsOther t) call (λ x y. never y.1) calls)
