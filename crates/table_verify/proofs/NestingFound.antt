-- Marks that run through to the end are the outline of a program.
use Rattle.std.proofs.Common.{◌≡◌, ℕ, zero, suc, ◌+◌, ◌≤◌, List, [], ◌∷◌, ◌++◌, Bool, true, false, ◌&&◌, ◌==◌, not, nat_lt, length, Option, Some, None, refl, sym, ap, subst, ◌∙◌, arith, append_assoc}
use Rattle.std.specs.List.{list_all}
use Rattle.std.proofs.lemmas.Bool.{eqb-true, ltb-true, le-leb, and_from}
use Rattle.sial_syntax.specs.declared.condition.Cond.{Cond}
use Rattle.sial_syntax.specs.declared.condition.Test.TheVariants.{Less}
use Rattle.sial_syntax.specs.declared.condition.Value.TheVariants as value
use Rattle.sial_syntax.specs.Limits.{most_nesting}
use Rattle.sial_syntax.specs.Proper.{nesting, body_nesting}
use Rattle.sial_syntax.specs.Tree.{Tree, Procedure, Block, End, Then, Plain, Do, Pardo, If, IfElse, SipBarrier}
use Rattle.table_verify.specs.declared.opener.Opener.{Opener}
use Rattle.table_verify.specs.declared.opener.Opens.{Opens}
use Rattle.table_verify.specs.declared.opener.Opens.TheVariants as opens
use Rattle.table_verify.specs.Faults.{is_shallow, is_nested}
use Rattle.table_verify.specs.Nesting.{Nest, start, is_over, is_pardo, is_first, is_loop, is_branch, where_so, step_of, then_go, run}
use Rattle.table_verify.specs.Outline.{Role, Alone, Loop, Pardo, Branch, Test, Other, EndLoop, EndPardo, EndBranch, EndProgram, EndProcedure, Mark}
use Rattle.table_verify.proofs.Closed.{both}
use Rattle.table_verify.proofs.OutlineLemmas.{at, tests, form_marks, body_marks, procedures_marks, program_marks}
use Rattle.table_verify.proofs.NestingRuns.{st, opener, alive, alive_more}

-- some condition
abbrev some_test : Cond
some_test = record { left = value.Number 0; test = Less; right = value.Number 0 }

-- the other branch of an `if`, where it has one, and its end
abbrev branch_end : (line : ℕ) → Option Block → List Mark
branch_end line None = at line EndBranch ∷ []
branch_end line (Some o) = at line Other ∷ (body_marks o ++ at line EndBranch ∷ [])

abbrev other_nesting : Option Block → ℕ
other_nesting None = 0
other_nesting (Some o) = body_nesting o

-- ---- what closes what is open

-- something, and something else behind it
record Around (now later : List Mark → Type 0) : Type 0 where
  rest : List Mark
  here : now rest
  behind : later rest

-- a body, what closes the statement in which it stands, and the rest
record Inside (last : Mark) (room : ℕ) (ms rest : List Mark) : Type 0 where
  body : Block
  deep : body_nesting body + room ≤ 32
  is : ms ≡ body_marks body ++ (last ∷ rest)

-- conditions, if they may follow, a body, the end of its pardo, and the rest
record InPardo (heading : Bool) (line room : ℕ) (ms rest : List Mark) : Type 0 where
  wheres : List Cond
  allowed : heading ≡ false → wheres ≡ []
  body : Block
  deep : body_nesting body + room ≤ 32
  is : ms ≡ tests line wheres ++ (body_marks body ++ (at line EndPardo ∷ rest))

-- a first branch, the other one or none, and the rest
record InFirst (line room : ℕ) (ms rest : List Mark) : Type 0 where
  body : Block
  other : Option Block
  deep : body_nesting body + room ≤ 32
  other_deep : other_nesting other + room ≤ 32
  is : ms ≡ body_marks body ++ (branch_end line other ++ rest)

-- what closes the innermost statement, and the rest
abbrev Level : Opens → (heading : Bool) → (line room : ℕ) → (ms rest : List Mark) → Type 0
Level opens.Loop heading line room ms rest = Inside (at line EndLoop) room ms rest
Level opens.Pardo heading line room ms rest = InPardo heading line room ms rest
Level opens.First heading line room ms rest = InFirst line room ms rest
Level opens.Second heading line room ms rest = Inside (at line EndBranch) room ms rest

-- the bodies of so many procedures
abbrev Returns : ℕ → List Mark → Type 0
Returns zero ms = ms ≡ []
Returns (suc n) ms = Around (Inside (at 0 EndProcedure) 0 ms) (Returns n)

-- the bodies that are still to be ended
abbrev Bodies : Bool → ℕ → List Mark → Type 0
Bodies true n ms = Around (Inside (at 0 EndProgram) 0 ms) (Returns n)
Bodies false n ms = Returns n ms

-- marks close all that is open, and all bodies
abbrev Closes : Bool → List Opener → Bool → ℕ → List Mark → Type 0
Closes heading [] stop returns ms = Bodies stop returns ms
Closes heading (o ∷ stack) stop returns ms = Around (Level o.opens heading o.line (suc (length stack)) ms) (Closes false stack stop returns)

-- ---- a statement more

-- a statement before a body
before : (line : ℕ) (f : Plain) (last : Mark) (room : ℕ) (ms rest : List Mark) → nesting f + room ≤ 32 → Inside last room ms rest → Inside last room (form_marks line f ++ ms) rest
before line f last room ms rest deep old = record {
  body = Then line f old.body;
  deep = let d = old.deep in omega (arith, deep, d);
  is = ap (λ (xs : List Mark). form_marks line f ++ xs) old.is ∙ sym (append_assoc (form_marks line f) (body_marks old.body) (last ∷ rest));
}

before_pardo : (line : ℕ) (f : Plain) (heading : Bool) (head room : ℕ) (ms rest : List Mark) → nesting f + room ≤ 32 → InPardo false head room ms rest → InPardo heading head room (form_marks line f ++ ms) rest
before_pardo line f heading head room ms rest deep old =
    let none = ap (λ (ws : List Cond). tests head ws ++ (body_marks old.body ++ (at head EndPardo ∷ rest))) (old.allowed refl) in
    record {
      wheres = [];
      allowed = λ e. refl;
      body = Then line f old.body;
      deep = let d = old.deep in omega (arith, deep, d);
      is = ap (λ (xs : List Mark). form_marks line f ++ xs) (old.is ∙ none) ∙ sym (append_assoc (form_marks line f) (body_marks old.body) (at head EndPardo ∷ rest));
    }

before_branch : (line : ℕ) (f : Plain) (head room : ℕ) (ms rest : List Mark) → nesting f + room ≤ 32 → InFirst head room ms rest → InFirst head room (form_marks line f ++ ms) rest
before_branch line f head room ms rest deep old = record {
  body = Then line f old.body;
  other = old.other;
  deep = let d = old.deep in omega (arith, deep, d);
  other_deep = old.other_deep;
  is = ap (λ (xs : List Mark). form_marks line f ++ xs) old.is ∙ sym (append_assoc (form_marks line f) (body_marks old.body) (branch_end head old.other ++ rest));
}

before_level : (line : ℕ) (f : Plain) (o : Opens) (heading : Bool) (head room : ℕ) (ms rest : List Mark) → nesting f + room ≤ 32 → Level o false head room ms rest → Level o heading head room (form_marks line f ++ ms) rest
before_level line f opens.Loop heading head room ms rest deep old = before line f (at head EndLoop) room ms rest deep old
before_level line f opens.Pardo heading head room ms rest deep old = before_pardo line f heading head room ms rest deep old
before_level line f opens.First heading head room ms rest deep old = before_branch line f head room ms rest deep old
before_level line f opens.Second heading head room ms rest deep old = before line f (at head EndBranch) room ms rest deep old

before_bodies : (line : ℕ) (f : Plain) (stop : Bool) (returns : ℕ) (ms : List Mark) → alive stop returns ≡ true → nesting f + 0 ≤ 32 → Bodies stop returns ms → Bodies stop returns (form_marks line f ++ ms)
before_bodies line f true n ms alive_is deep old = record { rest = old.rest; here = before line f (at 0 EndProgram) 0 ms old.rest deep old.here; behind = old.behind }
before_bodies line f false zero ms alive_is deep old = absurd cc
before_bodies line f false (suc n) ms alive_is deep old = record { rest = old.rest; here = before line f (at 0 EndProcedure) 0 ms old.rest deep old.here; behind = old.behind }

before_all : (line : ℕ) (f : Plain) (heading : Bool) (stack : List Opener) (stop : Bool) (returns : ℕ) (ms : List Mark) → alive stop returns ≡ true → nesting f + length stack ≤ 32
    → Closes false stack stop returns ms → Closes heading stack stop returns (form_marks line f ++ ms)
before_all line f heading [] stop returns ms alive_is deep old = before_bodies line f stop returns ms alive_is deep old
before_all line f heading (o ∷ stack) stop returns ms alive_is deep old =
    record { rest = old.rest; here = before_level line f o.opens heading o.line (suc (length stack)) ms old.rest deep old.here; behind = old.behind }

-- the same, where the statement is told by its marks
before_told : (line : ℕ) (f : Plain) (heading : Bool) (stack : List Opener) (stop : Bool) (returns : ℕ) (ms all : List Mark) → alive stop returns ≡ true → nesting f + length stack ≤ 32
    → all ≡ form_marks line f ++ ms → Closes false stack stop returns ms → Closes heading stack stop returns all
before_told line f heading stack stop returns ms all alive_is deep is old =
    subst (λ (xs : List Mark). Closes heading stack stop returns xs) (sym is) (before_all line f heading stack stop returns ms alive_is deep old)

-- ---- one step back

-- a step that was made
passed : (G : Type 0) (c : Bool) (s : Nest) (go : Nest → Option Nest) (end : Nest) → then_go (where_so c s) go ≡ Some end → (c ≡ true → go s ≡ Some end → G) → G
passed G true s go end e told = told refl e
passed G false s go end e told = absurd cc

-- a test that doesn't hold
false_and : (a : Bool) → (a && false) ≡ true → ⊥
false_and true e = absurd cc
false_and false e = absurd cc

never : (heading : Bool) → heading ≡ true → (ws : List Cond) → heading ≡ false → ws ≡ []
never true h ws e = absurd cc
never false h ws e = absurd cc

some_is : {s t : Nest} → Some s ≡ Some t → s ≡ t
some_is e = cc

-- nothing is left to close where all is ended
nothing : (heading : Bool) (stack : List Opener) (stop : Bool) (returns : ℕ) → is_over (st stack heading stop returns) ≡ true → Closes heading stack stop returns []
nothing heading [] true returns over = absurd cc
nothing heading [] false zero over = refl
nothing heading [] false (suc n) over = let no : false ≡ true = sym (ap (λ (b : Bool). not b) (alive_more n)) ∙ over in absurd cc
nothing heading (o ∷ stack) stop returns over = absurd cc

-- what the instructions behind one close
abbrev Later : List Mark → Nest → Type 0
Later ms end = (heading : Bool) (stack : List Opener) (stop : Bool) (returns : ℕ) → length stack ≤ 32 → run ms (st stack heading stop returns) ≡ Some end → Closes heading stack stop returns ms

module _ (ms : List Mark) (end : Nest) (later : Later ms end) (line : ℕ) where
  -- a whole statement
  alone_back : (heading : Bool) (stack : List Opener) (stop : Bool) (returns : ℕ) → length stack ≤ 32 → run (at line Alone ∷ ms) (st stack heading stop returns) ≡ Some end → Closes heading stack stop returns (at line Alone ∷ ms)
  alone_back heading stack stop returns few e =
      passed (Closes heading stack stop returns (at line Alone ∷ ms)) (alive stop returns) (st stack false stop returns) (run ms) end e
      (λ a g. before_told line SipBarrier heading stack stop returns ms (at line Alone ∷ ms) a (omega (arith, few)) refl (later false stack stop returns few g))

  -- the head of a statement, where what is behind it closes it
  loop_told : (heading : Bool) (stack : List Opener) (stop : Bool) (returns : ℕ) → alive stop returns ≡ true → Closes false (opener opens.Loop line ∷ stack) stop returns ms → Closes heading stack stop returns (at line Loop ∷ ms)
  loop_told heading stack stop returns a old =
      let x = old.here in
      let d = x.deep in
      before_told line (Do 0 x.body) heading stack stop returns old.rest (at line Loop ∷ ms) a (omega (arith, d))
      (ap (λ (xs : List Mark). at line Loop ∷ xs) (x.is ∙ sym (append_assoc (body_marks x.body) (at line EndLoop ∷ []) old.rest))) old.behind

  pardo_told : (heading : Bool) (stack : List Opener) (stop : Bool) (returns : ℕ) → alive stop returns ≡ true → Closes true (opener opens.Pardo line ∷ stack) stop returns ms → Closes heading stack stop returns (at line Pardo ∷ ms)
  pardo_told heading stack stop returns a old =
      let x = old.here in
      let d = x.deep in
      before_told line (Pardo [] x.wheres x.body) heading stack stop returns old.rest (at line Pardo ∷ ms) a (omega (arith, d))
      (ap (λ (xs : List Mark). at line Pardo ∷ xs) (x.is ∙ (ap (λ (xs : List Mark). tests line x.wheres ++ xs) (sym (append_assoc (body_marks x.body) (at line EndPardo ∷ []) old.rest))
      ∙ sym (append_assoc (tests line x.wheres) (body_marks x.body ++ at line EndPardo ∷ []) old.rest)))) old.behind

  first_by : (heading : Bool) (stack : List Opener) (stop : Bool) (returns : ℕ) (rest : List Mark) (b : Block) (other : Option Block) → alive stop returns ≡ true → body_nesting b + suc (length stack) ≤ 32 → other_nesting other + suc (length stack) ≤ 32
      → ms ≡ body_marks b ++ (branch_end line other ++ rest) → Closes false stack stop returns rest → Closes heading stack stop returns (at line Branch ∷ ms)
  first_by heading stack stop returns rest b None a deep other_deep is old =
      before_told line (If some_test b) heading stack stop returns rest (at line Branch ∷ ms) a (omega (arith, deep))
      (ap (λ (xs : List Mark). at line Branch ∷ xs) (is ∙ sym (append_assoc (body_marks b) (at line EndBranch ∷ []) rest))) old
  first_by heading stack stop returns rest b (Some o) a deep other_deep is old =
      before_told line (IfElse some_test b o) heading stack stop returns rest (at line Branch ∷ ms) a (omega (arith, deep, other_deep))
      (ap (λ (xs : List Mark). at line Branch ∷ xs) (is ∙ sym (append_assoc (body_marks b) (branch_end line (Some o)) rest))) old

  first_told : (heading : Bool) (stack : List Opener) (stop : Bool) (returns : ℕ) → alive stop returns ≡ true → Closes false (opener opens.First line ∷ stack) stop returns ms → Closes heading stack stop returns (at line Branch ∷ ms)
  first_told heading stack stop returns a old = let x = old.here in first_by heading stack stop returns old.rest x.body x.other a x.deep x.other_deep x.is old.behind

  room : (stack : List Opener) → nat_lt (length stack) most_nesting ≡ true → suc (length stack) ≤ 32
  room stack h = let l = ltb-true (length stack) 32 h in omega (arith, l)

  head_back : (o : Opens) (r : Role) (goes : Bool) (heading : Bool) (stack : List Opener) (stop : Bool) (returns : ℕ)
      → (alive stop returns ≡ true → Closes goes (opener o line ∷ stack) stop returns ms → Closes heading stack stop returns (at line r ∷ ms))
      → then_go (where_so (alive stop returns && nat_lt (length stack) most_nesting) (st (opener o line ∷ stack) goes stop returns)) (run ms) ≡ Some end → Closes heading stack stop returns (at line r ∷ ms)
  head_back o r goes heading stack stop returns told e =
      passed (Closes heading stack stop returns (at line r ∷ ms)) (alive stop returns && nat_lt (length stack) most_nesting) (st (opener o line ∷ stack) goes stop returns) (run ms) end e
      (λ a g. let b = both (alive stop returns) (nat_lt (length stack) most_nesting) a in told b.0 (later goes (opener o line ∷ stack) stop returns (room stack b.1) g))

  fewer : (stack : List Opener) → suc (length stack) ≤ 32 → length stack ≤ 32
  fewer stack few = omega (arith, few)

  -- the end of a program or a procedure
  bare_end : (r : Role) → (line == 0) ≡ true → Inside (at 0 r) 0 (at line r ∷ ms) ms
  bare_end r c = record { body = End; deep = omega arith; is = ap (λ (n : ℕ). at n r ∷ ms) (eqb-true line 0 c) }

  -- a condition
  test_told : (kind : Opens) (head : ℕ) (heading : Bool) (stack : List Opener) (stop : Bool) (returns : ℕ) → (heading && (is_pardo kind && (head == line))) ≡ true
      → Around (Level kind heading head (suc (length stack)) ms) (Closes false stack stop returns) → Around (Level kind heading head (suc (length stack)) (at line Test ∷ ms)) (Closes false stack stop returns)
  test_told opens.Loop head heading stack stop returns c old = absurd (false_and heading c)
  test_told opens.First head heading stack stop returns c old = absurd (false_and heading c)
  test_told opens.Second head heading stack stop returns c old = absurd (false_and heading c)
  test_told opens.Pardo head heading stack stop returns c old =
      let x = old.here in
      let h = both heading (head == line) c in
      let l = eqb-true head line h.1 in
      record {
        rest = old.rest;
        here = record {
          wheres = some_test ∷ x.wheres;
          allowed = never heading h.0 (some_test ∷ x.wheres);
          body = x.body;
          deep = x.deep;
          is = ap (λ (n : ℕ). at n Test ∷ ms) (sym l) ∙ ap (λ (xs : List Mark). at head Test ∷ xs) x.is;
        };
        behind = old.behind;
      }

  -- the other branch
  other_told : (kind : Opens) (head : ℕ) (heading : Bool) (stack : List Opener) (stop : Bool) (returns : ℕ) → (is_first kind && (head == line)) ≡ true → suc (length stack) ≤ 32
      → Around (Inside (at line EndBranch) (suc (length stack)) ms) (Closes false stack stop returns) → Around (Level kind heading head (suc (length stack)) (at line Other ∷ ms)) (Closes false stack stop returns)
  other_told opens.Loop head heading stack stop returns c few old = absurd cc
  other_told opens.Pardo head heading stack stop returns c few old = absurd cc
  other_told opens.Second head heading stack stop returns c few old = absurd cc
  other_told opens.First head heading stack stop returns c few old =
      let x = old.here in
      let l = eqb-true head line c in
      record {
        rest = old.rest;
        here = record {
          body = End;
          other = Some x.body;
          deep = omega (arith, few);
          other_deep = x.deep;
          is = ap (λ (xs : List Mark). at line Other ∷ xs) (x.is ∙ sym (append_assoc (body_marks x.body) (at line EndBranch ∷ []) old.rest))
              ∙ ap (λ (n : ℕ). branch_end n (Some x.body) ++ old.rest) (sym l);
        };
        behind = old.behind;
      }

  -- the ends of statements
  loop_end : (kind : Opens) (head : ℕ) (heading : Bool) (stack : List Opener) (stop : Bool) (returns : ℕ) → (is_loop kind && (head == line)) ≡ true → suc (length stack) ≤ 32
      → Closes false stack stop returns ms → Around (Level kind heading head (suc (length stack)) (at line EndLoop ∷ ms)) (Closes false stack stop returns)
  loop_end opens.Pardo head heading stack stop returns c few old = absurd cc
  loop_end opens.First head heading stack stop returns c few old = absurd cc
  loop_end opens.Second head heading stack stop returns c few old = absurd cc
  loop_end opens.Loop head heading stack stop returns c few old =
      record { rest = ms; here = record { body = End; deep = omega (arith, few); is = ap (λ (n : ℕ). at n EndLoop ∷ ms) (sym (eqb-true head line c)) }; behind = old }

  pardo_end : (kind : Opens) (head : ℕ) (heading : Bool) (stack : List Opener) (stop : Bool) (returns : ℕ) → (is_pardo kind && (head == line)) ≡ true → suc (length stack) ≤ 32
      → Closes false stack stop returns ms → Around (Level kind heading head (suc (length stack)) (at line EndPardo ∷ ms)) (Closes false stack stop returns)
  pardo_end opens.Loop head heading stack stop returns c few old = absurd cc
  pardo_end opens.First head heading stack stop returns c few old = absurd cc
  pardo_end opens.Second head heading stack stop returns c few old = absurd cc
  pardo_end opens.Pardo head heading stack stop returns c few old =
      record {
        rest = ms;
        here = record { wheres = []; allowed = λ e. refl; body = End; deep = omega (arith, few); is = ap (λ (n : ℕ). at n EndPardo ∷ ms) (sym (eqb-true head line c)) };
        behind = old;
      }

  branch_close : (kind : Opens) (head : ℕ) (heading : Bool) (stack : List Opener) (stop : Bool) (returns : ℕ) → (is_branch kind && (head == line)) ≡ true → suc (length stack) ≤ 32
      → Closes false stack stop returns ms → Around (Level kind heading head (suc (length stack)) (at line EndBranch ∷ ms)) (Closes false stack stop returns)
  branch_close opens.Loop head heading stack stop returns c few old = absurd cc
  branch_close opens.Pardo head heading stack stop returns c few old = absurd cc
  branch_close opens.First head heading stack stop returns c few old =
      record {
        rest = ms;
        here = record { body = End; other = None; deep = omega (arith, few); other_deep = omega (arith, few); is = ap (λ (n : ℕ). at n EndBranch ∷ ms) (sym (eqb-true head line c)) };
        behind = old;
      }
  branch_close opens.Second head heading stack stop returns c few old =
      record { rest = ms; here = record { body = End; deep = omega (arith, few); is = ap (λ (n : ℕ). at n EndBranch ∷ ms) (sym (eqb-true head line c)) }; behind = old }

  -- each role
  role_back : (r : Role) (heading : Bool) (stack : List Opener) (stop : Bool) (returns : ℕ) → length stack ≤ 32 → then_go (step_of r line (st stack heading stop returns)) (run ms) ≡ Some end
      → Closes heading stack stop returns (at line r ∷ ms)
  role_back Alone heading stack stop returns few e = alone_back heading stack stop returns few e
  role_back Loop heading stack stop returns few e = head_back opens.Loop Loop false heading stack stop returns (loop_told heading stack stop returns) e
  role_back Pardo heading stack stop returns few e = head_back opens.Pardo Pardo true heading stack stop returns (pardo_told heading stack stop returns) e
  role_back Branch heading stack stop returns few e = head_back opens.First Branch false heading stack stop returns (first_told heading stack stop returns) e
  role_back Test heading [] stop returns few e = absurd cc
  role_back Test heading (o ∷ stack) stop returns few e =
      passed (Closes heading (o ∷ stack) stop returns (at line Test ∷ ms)) (heading && (is_pardo o.opens && (o.line == line))) (st (o ∷ stack) heading stop returns) (run ms) end e
      (λ c g. test_told o.opens o.line heading stack stop returns c (later heading (o ∷ stack) stop returns few g))
  role_back Other heading [] stop returns few e = absurd cc
  role_back Other heading (o ∷ stack) stop returns few e =
      passed (Closes heading (o ∷ stack) stop returns (at line Other ∷ ms)) (is_first o.opens && (o.line == line)) (st (opener opens.Second line ∷ stack) false stop returns) (run ms) end e
      (λ c g. other_told o.opens o.line heading stack stop returns c few (later false (opener opens.Second line ∷ stack) stop returns few g))
  role_back EndLoop heading [] stop returns few e = absurd cc
  role_back EndLoop heading (o ∷ stack) stop returns few e =
      passed (Closes heading (o ∷ stack) stop returns (at line EndLoop ∷ ms)) (is_loop o.opens && (o.line == line)) (st stack false stop returns) (run ms) end e
      (λ c g. loop_end o.opens o.line heading stack stop returns c few (later false stack stop returns (fewer stack few) g))
  role_back EndPardo heading [] stop returns few e = absurd cc
  role_back EndPardo heading (o ∷ stack) stop returns few e =
      passed (Closes heading (o ∷ stack) stop returns (at line EndPardo ∷ ms)) (is_pardo o.opens && (o.line == line)) (st stack false stop returns) (run ms) end e
      (λ c g. pardo_end o.opens o.line heading stack stop returns c few (later false stack stop returns (fewer stack few) g))
  role_back EndBranch heading [] stop returns few e = absurd cc
  role_back EndBranch heading (o ∷ stack) stop returns few e =
      passed (Closes heading (o ∷ stack) stop returns (at line EndBranch ∷ ms)) (is_branch o.opens && (o.line == line)) (st stack false stop returns) (run ms) end e
      (λ c g. branch_close o.opens o.line heading stack stop returns c few (later false stack stop returns (fewer stack few) g))
  role_back EndProgram heading (o ∷ stack) stop returns few e = absurd cc
  role_back EndProgram heading [] false returns few e = absurd cc
  role_back EndProgram heading [] true returns few e =
      passed (Closes heading [] true returns (at line EndProgram ∷ ms)) (line == 0) (st [] false false returns) (run ms) end e
      (λ c g. record { rest = ms; here = bare_end EndProgram c; behind = later false [] false returns few g })
  role_back EndProcedure heading stack stop zero few e = absurd cc
  role_back EndProcedure heading (o ∷ stack) stop (suc n) few e = absurd cc
  role_back EndProcedure heading [] true (suc n) few e = absurd cc
  role_back EndProcedure heading [] false (suc n) few e =
      passed (Closes heading [] false (suc n) (at line EndProcedure ∷ ms)) (line == 0) (st [] false false n) (run ms) end e
      (λ c g. record { rest = ms; here = bare_end EndProcedure c; behind = later false [] false n few g })

-- marks that run through close all that is open
closes : (ms : List Mark) (end : Nest) → is_over end ≡ true → Later ms end
closes [] end over heading stack stop returns few e = nothing heading stack stop returns (subst (λ (s : Nest). is_over s ≡ true) (sym (some_is e)) over)
closes (m ∷ ms) end over heading stack stop returns few e = role_back ms end (closes ms end over) m.line m.role heading stack stop returns few e

-- ---- programs

record Procedures (n : ℕ) (ms : List Mark) : Type 0 where
  list : List Procedure
  many : length list ≡ n
  nested : list_all (λ (q : Procedure). is_shallow q.body) list ≡ true
  is : procedures_marks list ≡ ms

shallow : (b : Block) → body_nesting b + 0 ≤ 32 → is_shallow b ≡ true
shallow b d = le-leb (body_nesting b) 32 (omega (arith, d))

procedures_of : (n : ℕ) (ms : List Mark) → Returns n ms → Procedures n ms
procedures_of zero ms e = record { list = []; many = refl; nested = refl; is = sym e }
procedures_of (suc n) ms r =
    let x = r.here in
    let qs = procedures_of n r.rest r.behind in
    record {
      list = record { name = []; body = x.body } ∷ qs.list;
      many = ap suc qs.many;
      nested = and_from (is_shallow x.body) (list_all (λ (q : Procedure). is_shallow q.body) qs.list) (shallow x.body x.deep) qs.nested;
      is = ap (λ (xs : List Mark). body_marks x.body ++ (at 0 EndProcedure ∷ xs)) qs.is ∙ sym x.is;
    }

-- a program of these marks
pub record Program (n : ℕ) (ms : List Mark) : Type 0 where
  pub program : Tree
  pub many : length program.procedures ≡ n
  pub nested : is_nested program ≡ true
  pub is : program_marks program ≡ ms

pub program_of : (n : ℕ) (ms : List Mark) (end : Nest) → run ms (start n) ≡ Some end → is_over end ≡ true → Program n ms
program_of n ms end e over =
    let r = closes ms end over false [] true n (omega arith) e in
    let x = r.here in
    let qs = procedures_of n r.rest r.behind in
    record {
      program = record { name = []; indices = []; arrays = []; scalars = []; procedures = qs.list; body = x.body };
      many = qs.many;
      nested = and_from (is_shallow x.body) (list_all (λ (q : Procedure). is_shallow q.body) qs.list) (shallow x.body x.deep) qs.nested;
      is = ap (λ (xs : List Mark). body_marks x.body ++ (at 0 EndProgram ∷ xs)) qs.is ∙ sym x.is;
    }
