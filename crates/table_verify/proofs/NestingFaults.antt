-- Where marks stop running through is where nesting breaks.
use Rattle.std.proofs.Common.{◌≡◌, ℕ, zero, suc, ◌+◌, List, [], ◌∷◌, ◌++◌, Bool, true, false, cond, length, min, take, drop, Option, Some, None, Result, Ok, Err, refl, sym, ap, subst, ◌∙◌, arith, append_assoc, append-nil}
use Rattle.std.specs.Prelude.{IfOk, IfSome}
use Rattle.std.proofs.lemmas.List.{take-append-drop, take_all, length-take}
use Rattle.std.proofs.Math.Seq.{take-append_seam, take-append-add}
use Rattle.sial_syntax.specs.Tree.{Tree}
use Rattle.sip_tables.specs.declared.instruction.Instruction.{Instruction}
use Rattle.sip_tables.specs.Flatten.{flatten}
use Rattle.sip_tables.specs.Lists.{Lists}
use Rattle.table_verify.specs.declared.opener.Opener.{Opener}
use Rattle.table_verify.specs.declared.opener.Opens.{Opens}
use Rattle.table_verify.specs.declared.opener.Opens.TheVariants as opens
use Rattle.table_verify.specs.Faults.{is_nested, Begins, NestAt, Nests}
use Rattle.table_verify.specs.Nesting.{Nest, start, is_over, step, then_go, run, broken_on, broken_at}
use Rattle.table_verify.specs.Outline.{EndLoop, EndPardo, EndBranch, EndProgram, EndProcedure, Role, Mark, outline}
use Rattle.table_verify.proofs.OutlineLemmas.{at, program_outline}
use Rattle.table_verify.proofs.NestingRuns.{st, opener, run_append, ended, program_runs, loop_ends, pardo_ends, first_ends, second_ends}
use Rattle.table_verify.proofs.NestingFound.{program_of}

-- ---- all can be closed

-- marks that run to the end
record Closing (s : Nest) : Type 0 where
  marks : List Mark
  end : Nest
  runs : run marks s ≡ Some end
  over : is_over end ≡ true

returns_closing : (n : ℕ) (heading : Bool) → Closing (st [] heading false n)
returns_closing zero heading = record { marks = []; end = st [] heading false 0; runs = refl; over = refl }
returns_closing (suc n) heading =
    let x = returns_closing n false in
    record { marks = at 0 EndProcedure ∷ x.marks; end = x.end; runs = x.runs; over = x.over }

bodies_closing : (heading stop : Bool) (n : ℕ) → Closing (st [] heading stop n)
bodies_closing heading false n = returns_closing n heading
bodies_closing heading true n =
    let x = returns_closing n false in
    record { marks = at 0 EndProgram ∷ x.marks; end = x.end; runs = x.runs; over = x.over }

abbrev ending : Opens → Role
ending opens.Loop = EndLoop
ending opens.Pardo = EndPardo
ending opens.First = EndBranch
ending opens.Second = EndBranch

ends : (kind : Opens) (line : ℕ) (stack : List Opener) (heading stop : Bool) (returns : ℕ) (ms : List Mark) → run (at line (ending kind) ∷ ms) (st (opener kind line ∷ stack) heading stop returns) ≡ run ms (st stack false stop returns)
ends opens.Loop line stack heading stop returns ms = loop_ends line stack heading stop returns ms
ends opens.Pardo line stack heading stop returns ms = pardo_ends line stack heading stop returns ms
ends opens.First line stack heading stop returns ms = first_ends line stack heading stop returns ms
ends opens.Second line stack heading stop returns ms = second_ends line stack heading stop returns ms

closing : (stack : List Opener) (heading stop : Bool) (returns : ℕ) → Closing (st stack heading stop returns)
closing [] heading stop returns = bodies_closing heading stop returns
closing (o ∷ stack) heading stop returns =
    let x = closing stack false stop returns in
    record { marks = at o.line (ending o.opens) ∷ x.marks; end = x.end; runs = ends o.opens o.line stack heading stop returns x.marks ∙ x.runs; over = x.over }

-- ---- where marks break

-- no instruction may stand here
abbrev Stuck : List Mark → Nest → Type 0
Stuck [] s = is_over s ≡ false
Stuck (m ∷ ms) s = step m s ≡ None

record Broken (place : ℕ) (all : List Mark) (from : Nest) : Type 0 where
  front : List Mark
  back : List Mark
  state : Nest
  is : all ≡ front ++ back
  many : length front ≡ place
  runs : run front from ≡ Some state
  stuck : Stuck back state

-- a mark more at the end
run_more : (front : List Mark) (m : Mark) (from s t : Nest) → run front from ≡ Some s → step m s ≡ Some t → run (front ++ m ∷ []) from ≡ Some t
run_more front m from s t before goes =
    run_append front (m ∷ []) from ∙ ap (λ (o : Option Nest). then_go o (run (m ∷ []))) before ∙ ap (λ (o : Option Nest). then_go o (run [])) goes

length_more : (front : List Mark) (m : Mark) (place : ℕ) → length front ≡ place → length (front ++ m ∷ []) ≡ place + 1
length_more [] m place h = omega (arith, h)
length_more (x ∷ xs) m zero h = absurd (omega (arith, h))
length_more (x ∷ xs) m (suc n) h = let again = length_more xs m n (omega (arith, h)) in omega (arith, again)

found_is : {X : Type 0} {x y : X} → Some x ≡ Some y → x ≡ y
found_is e = cc

finds : (front ms : List Mark) (place found : ℕ) (from s : Nest) → run front from ≡ Some s → length front ≡ place → broken_at place ms s ≡ Some found → Broken found (front ++ ms) from
finds front [] place found from s runs many e = over_case (is_over s) refl e
  where
    over_case : (over : Bool) → is_over s ≡ over → cond over None (Some place) ≡ Some found → Broken found (front ++ []) from
    over_case true is h = absurd cc
    over_case false is h = record { front = front; back = []; state = s; is = refl; many = many ∙ found_is h; runs = runs; stuck = is }
finds front (m ∷ ms) place found from s runs many e =
    step_case (step m s) refl e (λ t goes h. finds (front ++ m ∷ []) ms (place + 1) found from t (run_more front m from s t runs goes) (length_more front m place many) h)
  where
    step_case : (o : Option Nest) → step m s ≡ o → broken_on place o (broken_at (place + 1) ms) ≡ Some found
        → ((t : Nest) → step m s ≡ Some t → broken_at (place + 1) ms t ≡ Some found → Broken found ((front ++ m ∷ []) ++ ms) from) → Broken found (front ++ (m ∷ ms)) from
    step_case None is h again = record { front = front; back = m ∷ ms; state = s; is = refl; many = many ∙ found_is h; runs = runs; stuck = is }
    step_case (Some t) is h again = subst (λ (xs : List Mark). Broken found xs from) (append_assoc front (m ∷ []) ms) (again t is h)

-- all runs through where nothing breaks
record Passes (ms : List Mark) (s : Nest) : Type 0 where
  end : Nest
  runs : run ms s ≡ Some end
  over : is_over end ≡ true

passes : (ms : List Mark) (place : ℕ) (s : Nest) → broken_at place ms s ≡ None → Passes ms s
passes [] place s e = over_case (is_over s) refl e
  where
    over_case : (over : Bool) → is_over s ≡ over → cond over None (Some place) ≡ None → Passes [] s
    over_case true is h = record { end = s; runs = refl; over = is }
    over_case false is h = absurd cc
passes (m ∷ ms) place s e = step_case (step m s) refl e (λ t h. passes ms (place + 1) t h)
  where
    step_case : (o : Option Nest) → step m s ≡ o → broken_on place o (broken_at (place + 1) ms) ≡ None → ((t : Nest) → broken_at (place + 1) ms t ≡ None → Passes ms t) → Passes (m ∷ ms) s
    step_case None is h again = absurd cc
    step_case (Some t) is h again =
        let x = again t h in
        record { end = x.end; runs = ap (λ (o : Option Nest). then_go o (run ms)) is ∙ x.runs; over = x.over }

-- ---- what this says of tables

taken : (front back : List Mark) (place : ℕ) → length front ≡ place → take place (front ++ back) ≡ front
taken front back place h = ap (λ (n : ℕ). take n (front ++ back)) (sym h) ∙ take-append_seam front back

begins_here : (t : Lists) (place : ℕ) → Broken place (outline t.code) (start (length t.procedures)) → Begins place t
begins_here t place b =
    let s = b.state in
    let c = closing s.stack s.heading s.stop s.returns in
    let w = b.front ++ c.marks in
    let runs : run w (start (length t.procedures)) ≡ Some c.end = run_append b.front c.marks (start (length t.procedures)) ∙ (ap (λ (o : Option Nest). then_go o (run c.marks)) b.runs ∙ c.runs) in
    let p = program_of (length t.procedures) w c.end runs c.over in
    let ours : take place (outline (flatten p.program).code) ≡ b.front = ap (λ (xs : List Mark). take place xs) (program_outline p.program ∙ p.is) ∙ taken b.front c.marks place b.many in
    let theirs : take place (outline t.code) ≡ b.front = ap (λ (xs : List Mark). take place xs) b.is ∙ taken b.front b.back place b.many in
    (p.program, record { procedures = p.many; nested = p.nested; front = ours ∙ sym theirs })

stuck_after : (front rest : List Mark) (m : Mark) (from s end : Nest) → run front from ≡ Some s → step m s ≡ None → run ((front ++ m ∷ []) ++ rest) from ≡ Some end → ⊥
stuck_after front rest m from s end runs stuck all =
    let last : run (front ++ m ∷ []) from ≡ None = run_append front (m ∷ []) from ∙ (ap (λ (o : Option Nest). then_go o (run (m ∷ []))) runs ∙ ap (λ (o : Option Nest). then_go o (run [])) stuck) in
    let whole : run ((front ++ m ∷ []) ++ rest) from ≡ None = run_append (front ++ m ∷ []) rest from ∙ ap (λ (o : Option Nest). then_go o (run rest)) last in
    let no : None ≡ Some end = sym whole ∙ all in
    absurd cc

short : (xs front : List Mark) (place : ℕ) → length front ≡ place → take (place + 1) xs ≡ front → xs ≡ front
short xs front place many is =
    let long : min (place + 1) (length xs) ≡ place = sym (length-take (place + 1) xs) ∙ (ap (λ (l : List Mark). length l) is ∙ many) in
    sym (take_all (place + 1) xs (omega (arith, long))) ∙ is

no_more : (xs front back : List Mark) (place : ℕ) (from s : Nest) → run xs from ≡ Some ended → length front ≡ place → run front from ≡ Some s → Stuck back s → take (place + 1) xs ≡ take (place + 1) (front ++ back) → ⊥
no_more xs front [] place from s all many runs stuck same =
    let whole : take (place + 1) (front ++ []) ≡ front = ap (λ (l : List Mark). take (place + 1) l) (append-nil front) ∙ take_all (place + 1) front (omega (arith, many)) in
    let is : xs ≡ front = short xs front place many (same ∙ whole) in
    let state : s ≡ ended = found_is (sym runs ∙ (ap (λ (l : List Mark). run l from) (sym is) ∙ all)) in
    let over : is_over s ≡ true = ap (λ (n : Nest). is_over n) state in
    absurd cc
no_more xs front (m ∷ ms) place from s all many runs stuck same =
    let front_is : take (place + 1) (front ++ (m ∷ ms)) ≡ front ++ m ∷ [] = ap (λ (n : ℕ). take (n + 1) (front ++ (m ∷ ms))) (sym many) ∙ take-append-add front (m ∷ ms) 1 in
    let split : (front ++ m ∷ []) ++ drop (place + 1) xs ≡ xs = ap (λ (l : List Mark). l ++ drop (place + 1) xs) (sym (same ∙ front_is)) ∙ take-append-drop (place + 1) xs in
    stuck_after front (drop (place + 1) xs) m from s ended runs stuck (ap (λ (l : List Mark). run l from) split ∙ all)

program_passes : (p : Tree) (n : ℕ) → length p.procedures ≡ n → is_nested p ≡ true → run (outline (flatten p).code) (start n) ≡ Some ended
program_passes p n many nested =
    ap (λ (k : ℕ). run (outline (flatten p).code) (start k)) (sym many) ∙ (ap (λ (l : List Mark). run l (start (length p.procedures))) (program_outline p) ∙ program_runs p nested)

not_begins : (t : Lists) (place : ℕ) → Broken place (outline t.code) (start (length t.procedures)) → Begins (place + 1) t → ⊥
not_begins t place b (p, a) =
    no_more (outline (flatten p).code) b.front b.back place (start (length t.procedures)) b.state (program_passes p (length t.procedures) a.procedures a.nested) b.many b.runs b.stuck
    (a.front ∙ ap (λ (l : List Mark). take (place + 1) l) b.is)

pub fault_at : (t : Lists) (place : ℕ) → broken_at 0 (outline t.code) (start (length t.procedures)) ≡ Some place → NestAt place t
fault_at t place e =
    let b = finds [] (outline t.code) 0 place (start (length t.procedures)) (start (length t.procedures)) refl refl e in
    (begins_here t place b, not_begins t place b)

pub no_fault : (t : Lists) → broken_at 0 (outline t.code) (start (length t.procedures)) ≡ None → (p : Tree) × Nests t p
no_fault t e =
    let x = passes (outline t.code) 0 (start (length t.procedures)) e in
    let p = program_of (length t.procedures) (outline t.code) x.end x.runs x.over in
    (p.program, record { procedures = p.many; nested = p.nested; all = program_outline p.program ∙ p.is })

-- what the code's loop says of tables
pub fault_from : {E : Type 0} (t : Lists) (code : List Instruction) (procedures : ℕ) (r : Result (Option ℕ) E) → code ≡ t.code → procedures ≡ length t.procedures → IfOk r (λ (o : Option ℕ). o ≡ broken_at 0 (outline code) (start procedures))
    → IfOk r (λ (o : Option ℕ). IfSome o (λ (n : ℕ). NestAt n t))
fault_from t code procedures (Err e) c n h = tt
fault_from t code procedures (Ok None) c n h = tt
fault_from t code procedures (Ok (Some at)) c n h = fault_at t at (sym (h ∙ (ap (λ (is : List Instruction). broken_at 0 (outline is) (start procedures)) c ∙ ap (λ (k : ℕ). broken_at 0 (outline t.code) (start k)) n)))

pub none_from : {E : Type 0} (t : Lists) (code : List Instruction) (procedures : ℕ) (r : Result (Option ℕ) E) → code ≡ t.code → procedures ≡ length t.procedures → IfOk r (λ (o : Option ℕ). o ≡ broken_at 0 (outline code) (start procedures))
    → IfOk r (λ (o : Option ℕ). o ≡ None → (p : Tree) × Nests t p)
none_from t code procedures (Err e) c n h = tt
none_from t code procedures (Ok None) c n h =
    λ none. no_fault t (sym (h ∙ (ap (λ (is : List Instruction). broken_at 0 (outline is) (start procedures)) c ∙ ap (λ (k : ℕ). broken_at 0 (outline t.code) (start k)) n)))
none_from t code procedures (Ok (Some at)) c n h = λ none. absurd cc
