-- The outline of a program runs through to its end.
use Rattle.std.proofs.Common.{◌≡◌, ℕ, zero, suc, ◌+◌, ◌≤◌, List, [], ◌∷◌, ◌++◌, Bool, true, false, ◌&&◌, ◌||◌, ◌==◌, nat_lt, length, max, Option, Some, None, refl, ap, ◌∙◌, arith, append_assoc}
use Rattle.std.specs.List.{list_all}
use Rattle.std.proofs.lemmas.Bool.{eq-eqb, lt-ltb, leb-true}
use Rattle.sial_syntax.specs.declared.condition.Cond.{Cond}
use Rattle.sial_syntax.specs.Limits.{most_nesting}
use Rattle.sial_syntax.specs.Proper.{nesting, body_nesting}
use Rattle.sial_syntax.specs.Tree.{Tree, Procedure, Block, End, Then, Plain, Do, DoIn, Pardo, If, IfElse, Call, Assign, Get, Request, Put, Prepare, Create, Delete, Allocate, Deallocate, Collective, SipBarrier, ServerBarrier, Print, PrintScalar, Integrals}
use Rattle.table_verify.specs.declared.opener.Opener.{Opener}
use Rattle.table_verify.specs.declared.opener.Opens.{Opens}
use Rattle.table_verify.specs.declared.opener.Opens.TheVariants as opens
use Rattle.table_verify.specs.Faults.{is_shallow, is_nested}
use Rattle.table_verify.specs.Nesting.{Nest, start, where_so, step_of, then_go, run}
use Rattle.table_verify.specs.Outline.{Role, Alone, Loop, Pardo, Branch, Test, Other, EndLoop, EndPardo, EndBranch, EndProgram, EndProcedure, Mark}
use Rattle.table_verify.proofs.Closed.{both}
use Rattle.table_verify.proofs.OutlineLemmas.{at, tests, form_marks, body_marks, procedures_marks, program_marks}

-- a state, part by part
abbrev pub st : List Opener → (heading stop : Bool) → (returns : ℕ) → Nest
st stack heading stop returns = record { stack = stack; heading = heading; stop = stop; returns = returns }

-- a statement that is open
abbrev pub opener : Opens → (line : ℕ) → Opener
opener opens line = record { opens = opens; line = line }

-- whether a body is still to be ended
abbrev pub alive : Bool → ℕ → Bool
alive stop returns = stop || nat_lt 0 returns

-- one return more is to come
pub alive_more : (n : ℕ) → alive false (suc n) ≡ true
alive_more n = lt-ltb 0 (suc n) (omega arith)

-- all of some marks and then others
pub run_append : (xs ys : List Mark) (s : Nest) → run (xs ++ ys) s ≡ then_go (run xs s) (run ys)
run_append [] ys s = refl
run_append (x ∷ xs) ys s = onward xs ys (step_of x.role x.line s) (run_append xs ys)
  where
    onward : (xs ys : List Mark) (o : Option Nest) → ((s : Nest) → run (xs ++ ys) s ≡ then_go (run xs s) (run ys)) → then_go o (run (xs ++ ys)) ≡ then_go (then_go o (run xs)) (run ys)
    onward xs ys None again = refl
    onward xs ys (Some s) again = again s

-- whether a role is a condition's
abbrev pub is_test : Role → Bool
is_test Test = true
is_test _ = false

-- but for conditions, it is of no matter whether conditions may follow
calm_step : (r : Role) (line : ℕ) (stack : List Opener) (heading stop : Bool) (returns : ℕ) → is_test r ≡ false → step_of r line (st stack heading stop returns) ≡ step_of r line (st stack false stop returns)
calm_step Alone line stack heading stop returns e = refl
calm_step Loop line stack heading stop returns e = refl
calm_step Pardo line stack heading stop returns e = refl
calm_step Branch line stack heading stop returns e = refl
calm_step Test line stack heading stop returns e = absurd cc
calm_step Other line [] heading stop returns e = refl
calm_step Other line (o ∷ stack) heading stop returns e = refl
calm_step EndLoop line [] heading stop returns e = refl
calm_step EndLoop line (o ∷ stack) heading stop returns e = refl
calm_step EndPardo line [] heading stop returns e = refl
calm_step EndPardo line (o ∷ stack) heading stop returns e = refl
calm_step EndBranch line [] heading stop returns e = refl
calm_step EndBranch line (o ∷ stack) heading stop returns e = refl
calm_step EndProgram line stack heading stop returns e = refl
calm_step EndProcedure line stack heading stop zero e = refl
calm_step EndProcedure line stack heading stop (suc n) e = refl

-- ---- one step

same : (n : ℕ) → (n == n) ≡ true
same n = eq-eqb n n refl

stands : (line : ℕ) (stack : List Opener) (heading stop : Bool) (returns : ℕ) (ms : List Mark) → alive stop returns ≡ true → run (at line Alone ∷ ms) (st stack heading stop returns) ≡ run ms (st stack false stop returns)
stands line stack heading stop returns ms alive_is = ap (λ (b : Bool). then_go (where_so b (st stack false stop returns)) (run ms)) alive_is

room_is : (stack : List Opener) (stop : Bool) (returns n : ℕ) → alive stop returns ≡ true → 1 + n + length stack ≤ 32 → (alive stop returns && nat_lt (length stack) most_nesting) ≡ true
room_is stack stop returns n alive_is room = rw (alive_is, lt-ltb (length stack) 32 (omega (arith, room))) refl

loop_opens : (line : ℕ) (stack : List Opener) (heading stop : Bool) (returns n : ℕ) (ms : List Mark) → alive stop returns ≡ true → 1 + n + length stack ≤ 32
    → run (at line Loop ∷ ms) (st stack heading stop returns) ≡ run ms (st (opener opens.Loop line ∷ stack) false stop returns)
loop_opens line stack heading stop returns n ms alive_is room =
    ap (λ (b : Bool). then_go (where_so b (st (opener opens.Loop line ∷ stack) false stop returns)) (run ms)) (room_is stack stop returns n alive_is room)

pardo_opens : (line : ℕ) (stack : List Opener) (heading stop : Bool) (returns n : ℕ) (ms : List Mark) → alive stop returns ≡ true → 1 + n + length stack ≤ 32
    → run (at line Pardo ∷ ms) (st stack heading stop returns) ≡ run ms (st (opener opens.Pardo line ∷ stack) true stop returns)
pardo_opens line stack heading stop returns n ms alive_is room =
    ap (λ (b : Bool). then_go (where_so b (st (opener opens.Pardo line ∷ stack) true stop returns)) (run ms)) (room_is stack stop returns n alive_is room)

branch_opens : (line : ℕ) (stack : List Opener) (heading stop : Bool) (returns n : ℕ) (ms : List Mark) → alive stop returns ≡ true → 1 + n + length stack ≤ 32
    → run (at line Branch ∷ ms) (st stack heading stop returns) ≡ run ms (st (opener opens.First line ∷ stack) false stop returns)
branch_opens line stack heading stop returns n ms alive_is room =
    ap (λ (b : Bool). then_go (where_so b (st (opener opens.First line ∷ stack) false stop returns)) (run ms)) (room_is stack stop returns n alive_is room)

pub loop_ends : (line : ℕ) (stack : List Opener) (heading stop : Bool) (returns : ℕ) (ms : List Mark)
    → run (at line EndLoop ∷ ms) (st (opener opens.Loop line ∷ stack) heading stop returns) ≡ run ms (st stack false stop returns)
loop_ends line stack heading stop returns ms = ap (λ (b : Bool). then_go (where_so b (st stack false stop returns)) (run ms)) (same line)

pub pardo_ends : (line : ℕ) (stack : List Opener) (heading stop : Bool) (returns : ℕ) (ms : List Mark)
    → run (at line EndPardo ∷ ms) (st (opener opens.Pardo line ∷ stack) heading stop returns) ≡ run ms (st stack false stop returns)
pardo_ends line stack heading stop returns ms = ap (λ (b : Bool). then_go (where_so b (st stack false stop returns)) (run ms)) (same line)

pub first_ends : (line : ℕ) (stack : List Opener) (heading stop : Bool) (returns : ℕ) (ms : List Mark)
    → run (at line EndBranch ∷ ms) (st (opener opens.First line ∷ stack) heading stop returns) ≡ run ms (st stack false stop returns)
first_ends line stack heading stop returns ms = ap (λ (b : Bool). then_go (where_so b (st stack false stop returns)) (run ms)) (same line)

pub second_ends : (line : ℕ) (stack : List Opener) (heading stop : Bool) (returns : ℕ) (ms : List Mark)
    → run (at line EndBranch ∷ ms) (st (opener opens.Second line ∷ stack) heading stop returns) ≡ run ms (st stack false stop returns)
second_ends line stack heading stop returns ms = ap (λ (b : Bool). then_go (where_so b (st stack false stop returns)) (run ms)) (same line)

second_begins : (line : ℕ) (stack : List Opener) (heading stop : Bool) (returns : ℕ) (ms : List Mark)
    → run (at line Other ∷ ms) (st (opener opens.First line ∷ stack) heading stop returns) ≡ run ms (st (opener opens.Second line ∷ stack) false stop returns)
second_begins line stack heading stop returns ms = ap (λ (b : Bool). then_go (where_so b (st (opener opens.Second line ∷ stack) false stop returns)) (run ms)) (same line)

tests_run : (line : ℕ) (ws : List Cond) (stack : List Opener) (stop : Bool) (returns : ℕ) (ms : List Mark)
    → run (tests line ws ++ ms) (st (opener opens.Pardo line ∷ stack) true stop returns) ≡ run ms (st (opener opens.Pardo line ∷ stack) true stop returns)
tests_run line [] stack stop returns ms = refl
tests_run line (w ∷ ws) stack stop returns ms =
    ap (λ (b : Bool). then_go (where_so b (st (opener opens.Pardo line ∷ stack) true stop returns)) (run (tests line ws ++ ms))) (same line) ∙ tests_run line ws stack stop returns ms

-- ---- statements and bodies

-- a body with one instruction behind it, before others
closed_by : (b : Block) (m : Mark) (ms : List Mark) (old new : Nest) → run (body_marks b ++ (m ∷ ms)) old ≡ run (m ∷ ms) new → run ((body_marks b ++ m ∷ []) ++ ms) old ≡ run (m ∷ ms) new
closed_by b m ms old new is = ap (λ (xs : List Mark). run xs old) (append_assoc (body_marks b) (m ∷ []) ms) ∙ is

mutual
  form_runs : (line : ℕ) (f : Plain) (stack : List Opener) (heading stop : Bool) (returns : ℕ) (ms : List Mark) → alive stop returns ≡ true → nesting f + length stack ≤ 32
      → run (form_marks line f ++ ms) (st stack heading stop returns) ≡ run ms (st stack false stop returns)
  form_runs line (Do index b) stack heading stop returns ms alive_is room =
      loop_opens line stack heading stop returns (body_nesting b) ((body_marks b ++ at line EndLoop ∷ []) ++ ms) alive_is room
      ∙ closed_by b (at line EndLoop) ms (st (opener opens.Loop line ∷ stack) false stop returns) (st (opener opens.Loop line ∷ stack) false stop returns) (body_runs b (opener opens.Loop line ∷ stack) false stop returns (at line EndLoop) ms alive_is (omega (arith, room)) refl)
      ∙ loop_ends line stack false stop returns ms
  form_runs line (DoIn sub index b) stack heading stop returns ms alive_is room =
      loop_opens line stack heading stop returns (body_nesting b) ((body_marks b ++ at line EndLoop ∷ []) ++ ms) alive_is room
      ∙ closed_by b (at line EndLoop) ms (st (opener opens.Loop line ∷ stack) false stop returns) (st (opener opens.Loop line ∷ stack) false stop returns) (body_runs b (opener opens.Loop line ∷ stack) false stop returns (at line EndLoop) ms alive_is (omega (arith, room)) refl)
      ∙ loop_ends line stack false stop returns ms
  form_runs line (Pardo indices ws b) stack heading stop returns ms alive_is room =
      let inside = body_marks b ++ at line EndPardo ∷ [] in
      let inner = opener opens.Pardo line ∷ stack in
      pardo_opens line stack heading stop returns (body_nesting b) ((tests line ws ++ inside) ++ ms) alive_is room
      ∙ ap (λ (xs : List Mark). run xs (st inner true stop returns)) (append_assoc (tests line ws) inside ms)
      ∙ tests_run line ws stack stop returns (inside ++ ms)
      ∙ closed_by b (at line EndPardo) ms (st inner true stop returns) (st inner false stop returns) (body_runs b inner true stop returns (at line EndPardo) ms alive_is (omega (arith, room)) refl)
      ∙ pardo_ends line stack false stop returns ms
  form_runs line (If test b) stack heading stop returns ms alive_is room =
      branch_opens line stack heading stop returns (body_nesting b) ((body_marks b ++ at line EndBranch ∷ []) ++ ms) alive_is room
      ∙ closed_by b (at line EndBranch) ms (st (opener opens.First line ∷ stack) false stop returns) (st (opener opens.First line ∷ stack) false stop returns) (body_runs b (opener opens.First line ∷ stack) false stop returns (at line EndBranch) ms alive_is (omega (arith, room)) refl)
      ∙ first_ends line stack false stop returns ms
  form_runs line (IfElse test b o) stack heading stop returns ms alive_is room =
      let behind = body_marks o ++ at line EndBranch ∷ [] in
      let first : body_nesting b ≤ max (body_nesting b) (body_nesting o) = omega arith in
      let other : body_nesting o ≤ max (body_nesting b) (body_nesting o) = omega arith in
      branch_opens line stack heading stop returns (max (body_nesting b) (body_nesting o)) ((body_marks b ++ (at line Other ∷ behind)) ++ ms) alive_is room
      ∙ ap (λ (xs : List Mark). run xs (st (opener opens.First line ∷ stack) false stop returns)) (append_assoc (body_marks b) (at line Other ∷ behind) ms)
      ∙ body_runs b (opener opens.First line ∷ stack) false stop returns (at line Other) (behind ++ ms) alive_is (omega (arith, room, first)) refl
      ∙ second_begins line stack false stop returns (behind ++ ms)
      ∙ closed_by o (at line EndBranch) ms (st (opener opens.Second line ∷ stack) false stop returns) (st (opener opens.Second line ∷ stack) false stop returns) (body_runs o (opener opens.Second line ∷ stack) false stop returns (at line EndBranch) ms alive_is (omega (arith, room, other)) refl)
      ∙ second_ends line stack false stop returns ms
  form_runs line (Call procedure) stack heading stop returns ms alive_is room = stands line stack heading stop returns ms alive_is
  form_runs line (Assign target combining right) stack heading stop returns ms alive_is room = stands line stack heading stop returns ms alive_is
  form_runs line (Get block) stack heading stop returns ms alive_is room = stands line stack heading stop returns ms alive_is
  form_runs line (Request block) stack heading stop returns ms alive_is room = stands line stack heading stop returns ms alive_is
  form_runs line (Put block how from) stack heading stop returns ms alive_is room = stands line stack heading stop returns ms alive_is
  form_runs line (Prepare block how from) stack heading stop returns ms alive_is room = stands line stack heading stop returns ms alive_is
  form_runs line (Create array) stack heading stop returns ms alive_is room = stands line stack heading stop returns ms alive_is
  form_runs line (Delete array) stack heading stop returns ms alive_is room = stands line stack heading stop returns ms alive_is
  form_runs line (Allocate array slots) stack heading stop returns ms alive_is room = stands line stack heading stop returns ms alive_is
  form_runs line (Deallocate array slots) stack heading stop returns ms alive_is room = stands line stack heading stop returns ms alive_is
  form_runs line (Collective into from) stack heading stop returns ms alive_is room = stands line stack heading stop returns ms alive_is
  form_runs line SipBarrier stack heading stop returns ms alive_is room = stands line stack heading stop returns ms alive_is
  form_runs line ServerBarrier stack heading stop returns ms alive_is room = stands line stack heading stop returns ms alive_is
  form_runs line (Print text) stack heading stop returns ms alive_is room = stands line stack heading stop returns ms alive_is
  form_runs line (PrintScalar scalar) stack heading stop returns ms alive_is room = stands line stack heading stop returns ms alive_is
  form_runs line (Integrals block) stack heading stop returns ms alive_is room = stands line stack heading stop returns ms alive_is

  body_runs : (b : Block) (stack : List Opener) (heading stop : Bool) (returns : ℕ) (m : Mark) (ms : List Mark) → alive stop returns ≡ true → body_nesting b + length stack ≤ 32 → is_test m.role ≡ false
      → run (body_marks b ++ (m ∷ ms)) (st stack heading stop returns) ≡ run (m ∷ ms) (st stack false stop returns)
  body_runs End stack heading stop returns m ms alive_is room other = ap (λ (o : Option Nest). then_go o (run ms)) (calm_step m.role m.line stack heading stop returns other)
  body_runs (Then line f rest) stack heading stop returns m ms alive_is room other =
      let here : nesting f ≤ max (nesting f) (body_nesting rest) = omega arith in
      let later : body_nesting rest ≤ max (nesting f) (body_nesting rest) = omega arith in
      ap (λ (xs : List Mark). run xs (st stack heading stop returns)) (append_assoc (form_marks line f) (body_marks rest) (m ∷ ms))
      ∙ form_runs line f stack heading stop returns (body_marks rest ++ (m ∷ ms)) alive_is (omega (arith, room, here))
      ∙ body_runs rest stack false stop returns m ms alive_is (omega (arith, room, later)) other

-- ---- programs

-- nothing is left to come
abbrev pub ended : Nest
ended = st [] false false 0

shallow : (b : Block) → is_shallow b ≡ true → body_nesting b + 0 ≤ 32
shallow b h = let deep = leb-true (body_nesting b) 32 h in omega (arith, deep)

procedures_run : (qs : List Procedure) → list_all (λ (q : Procedure). is_shallow q.body) qs ≡ true → run (procedures_marks qs) (st [] false false (length qs)) ≡ Some ended
procedures_run [] h = refl
procedures_run (q ∷ qs) h =
    let b = both (is_shallow q.body) (list_all (λ (q : Procedure). is_shallow q.body) qs) h in
    body_runs q.body [] false false (suc (length qs)) (at 0 EndProcedure) (procedures_marks qs) (alive_more (length qs)) (shallow q.body b.0) refl ∙ procedures_run qs b.1

pub program_runs : (p : Tree) → is_nested p ≡ true → run (program_marks p) (start (length p.procedures)) ≡ Some ended
program_runs p h =
    let b = both (is_shallow p.body) (list_all (λ (q : Procedure). is_shallow q.body) p.procedures) h in
    body_runs p.body [] false true (length p.procedures) (at 0 EndProgram) (procedures_marks p.procedures) refl (shallow p.body b.0) refl ∙ procedures_run p.procedures b.1
