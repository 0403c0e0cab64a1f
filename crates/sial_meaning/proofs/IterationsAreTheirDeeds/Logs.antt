-- The log and the traps of each point of the course are those of the deeds before it.
use Rattle.std.proofs.Common.{◌≡◌, ℕ, zero, suc, List, [], ◌∷◌, ◌++◌, Bool, true, false, not, ◌||◌, if◌then◌else◌, Option, Some, None, Ok, Err, refl, sym, ap, ◌∙◌, append-nil}
use Rattle.std.specs.List.{list_any}
use Rattle.sial_syntax.specs.declared.access.Access.{Access}
use Rattle.sial_syntax.specs.declared.classes.ScalarClass.{ScalarClass}
use Rattle.sial_syntax.specs.declared.classes.ScalarClass.TheVariants.{Replicated, Private, Partial}
use Rattle.sial_syntax.specs.declared.operand.BlockRef.{BlockRef}
use Rattle.sial_syntax.specs.declared.operand.Op.{Op}
use Rattle.sial_syntax.specs.declared.operand.Target.TheVariants as target
use Rattle.sial_syntax.specs.Tree.{Plain, Do, DoIn, Pardo, If, IfElse, Call, Assign, Get, Request, Put, Prepare, Create, Delete, Allocate, Deallocate, Collective, SipBarrier, ServerBarrier, Print, PrintScalar, Integrals}
use Rattle.sial_meaning.specs.declared.trap.Trap.{Trap}
use Rattle.sial_meaning.specs.declared.trap.TrapKind.{TrapKind}
use Rattle.sial_meaning.specs.declared.trap.TrapKind.TheVariants.{UnsetScalar, LocalMissing, LocalTwice}
use Rattle.sial_meaning.specs.Access.{Touch}
use Rattle.sial_meaning.specs.Control.{Led, Goes, Halts, control}
use Rattle.sial_meaning.specs.Course.{Point, stepped, next_from, course}
use Rattle.sial_meaning.specs.CourseDeeds.{deeds_if_passed, deeds_from, deeds_at, deeds_before}
use Rattle.sial_meaning.specs.DeedLaws.{CoursesAreTheirDeeds}
use Rattle.sial_meaning.specs.Deeds.{Deed, touches, traps}
use Rattle.sial_meaning.specs.LocalStep.{Done, Answer, and_then, or_trap, quiet, scalar_assigned, scalar_value, scalar_line, to_scalar, to_target, needs_old, with_words, old_words, words_of, matched, is_allocated, integrals, side_read, all_allocated, all_deallocated, local_step}
use Rattle.sial_meaning.specs.Own.{Own, sight, scalar_of}
use Rattle.sial_meaning.specs.Ran.{view_of, Ran, Through, Broke, touch_of, reads_done, no_partials, additions, local_ran, put_ran, effect_ran, unless_broken, statement_ran}
use Rattle.sial_meaning.specs.Rest.{Rest, Over, Next, Turn, Join, Back, Within}
use Rattle.sial_meaning.specs.Right.{Side, assigned, is_insertion}
use Rattle.sial_meaning.specs.Setting.{Setting, array_kind, scalar_class}
use Rattle.sial_meaning.specs.Sound.{IsGrantedSetting}
use Rattle.sial_meaning.specs.State.{State}
use Rattle.sial_meaning.specs.Statement.{Outcome, Went, Stopped, Copied, Named, named, reads_of, reads_logged, values_of, local_done, put_done, created_trap, effect, unless_trapped, statement}
use Rattle.sial_meaning.specs.Step.{led, done}
use Rattle.sial_meaning.proofs.IterationsAreTheirDeeds.Pardos.{pardo_steps}
use Rattle.sial_meaning.proofs.CourseFollowsTheFold.Fit.{course_fit}
use Rattle.sial_meaning.proofs.CourseFollowsTheFold.Rest.{Fit}
use Rattle.sial_meaning.proofs.IterationsAreTheirDeeds.Deeds.{touches_append, traps_append}
use Rattle.sial_meaning.proofs.IterationsAreTheirDeeds.Statement.{reads_are, additions_touch}
use Rattle.sial_meaning.proofs.IterationsAreTheirDeeds.EachDeed.{Clear, clear_statement}

-- both answers are given, or both trap
abbrev pub BothEnd : Answer Done → Answer Done → Type 0
BothEnd (Ok a) (Ok b) = Unit {0}
BothEnd (Ok a) (Err kind) = ⊥
BothEnd (Err kind) (Ok b) = ⊥
BothEnd (Err kind) (Err other) = Unit {0}

-- what follows an answer
both_then : {X : Type 0} (x : Answer X) (f h : X → Answer Done) → ((y : X) → BothEnd (f y) (h y)) → BothEnd (and_then x f) (and_then x h)
both_then (Ok y) f h all = all y
both_then (Err kind) f h all = tt

-- one of two answers
both_if : (b : Bool) (x y u v : Answer Done) → BothEnd x u → BothEnd y v → BothEnd (if b then x else y) (if b then u else v)
both_if true x y u v a b = a
both_if false x y u v a b = b

-- a scalar set
both_set : (scalar : ℕ) (op : Op) (value : ℕ) (own : Own) (ps qs : List ℕ) (needed : Bool) (old : Answer ℕ) → BothEnd (scalar_assigned scalar op value own ps needed old) (scalar_assigned scalar op value own qs needed old)
both_set scalar op value own ps qs false old = tt
both_set scalar op value own ps qs true (Ok n) = tt
both_set scalar op value own ps qs true (Err kind) = tt

-- a scalar assigned
both_scalar : (g : Setting) (class : ScalarClass) (s : ℕ) (op : Op) (side : Side) (own : Own) (ps qs : List ℕ) → BothEnd (to_scalar g class s op side own ps) (to_scalar g class s op side own qs)
both_scalar g Replicated s op side own ps qs = both_set s op (scalar_value g side) own ps qs (needs_old op) (or_trap UnsetScalar (scalar_of own s))
both_scalar g Private s op side own ps qs = both_set s op (scalar_value g side) own ps qs (needs_old op) (or_trap UnsetScalar (scalar_of own s))
both_scalar g Partial s op side own ps qs = tt

-- whether a local step traps doesn't depend on the partial scalars
pub both_step : (g : Setting) (form : Plain) (values : List (List ℕ)) (own : Own) (ps qs : List ℕ) → BothEnd (local_step g form values own ps) (local_step g form values own qs)
both_step g (Assign (target.Scalar s) op right) values own ps qs =
    both_then
    (side_read g own right values)
    (λ side. to_target g (target.Scalar s) op side own ps)
    (λ side. to_target g (target.Scalar s) op side own qs)
    (λ side. both_scalar g (scalar_class g s) s op side own ps qs)
both_step g (Assign (target.Block b) op right) values own ps qs =
    both_then
    (side_read g own right values)
    (λ side. to_target g (target.Block b) op side own ps)
    (λ side. to_target g (target.Block b) op side own qs)
    (λ side.
    both_then
    (old_words g own b (needs_old op || is_insertion g.spaces b.at side) (array_kind g b.array))
    (λ old. quiet (with_words g b (assigned g.spaces op (sight g own b old) side) own (array_kind g b.array)) ps)
    (λ old. quiet (with_words g b (assigned g.spaces op (sight g own b old) side) own (array_kind g b.array)) qs)
    (λ old. tt))
both_step g (Allocate array at) values own ps qs =
    both_if
    (list_any (is_allocated own array) (matched g own array at))
    (Err LocalTwice)
    (quiet (all_allocated g array (matched g own array at) own) ps)
    (Err LocalTwice)
    (quiet (all_allocated g array (matched g own array at) own) qs)
    tt
    tt
both_step g (Deallocate array at) values own ps qs =
    both_if
    (list_any (λ n. not (is_allocated own array n)) (matched g own array at))
    (Err LocalMissing)
    (quiet (all_deallocated array (matched g own array at) own) ps)
    (Err LocalMissing)
    (quiet (all_deallocated array (matched g own array at) own) qs)
    tt
    tt
both_step g (Print text) values own ps qs = tt
both_step g (PrintScalar scalar) values own ps qs =
    both_then
    (or_trap UnsetScalar (scalar_of own scalar))
    (λ n. Ok (record { own = own; partials = ps; printed = scalar_line g scalar n ∷ [] }))
    (λ n. Ok (record { own = own; partials = qs; printed = scalar_line g scalar n ∷ [] }))
    (λ n. tt)
both_step g (Integrals block) values own ps qs =
    both_then
    (old_words g own block false (array_kind g block.array))
    (λ old. quiet (with_words g block (integrals (sight g own block [])) own (array_kind g block.array)) ps)
    (λ old. quiet (with_words g block (integrals (sight g own block [])) own (array_kind g block.array)) qs)
    (λ old. tt)
both_step g form values own ps qs = tt

-- the log of an outcome, beside the deeds of the same statement
abbrev pub LogsLike : List Touch → Outcome → Ran → Type 0
LogsLike log (Went t) (Through ds own) = t.log ≡ log ++ touches ds
LogsLike log (Went t) (Broke ds trap own) = ⊥
LogsLike log (Stopped trap t) (Through ds own) = ⊥
LogsLike log (Stopped trap t) (Broke ds other own) = Unit {0}

-- a local statement
local_logs : (g : Setting) (line : ℕ) (form : Plain) (blocks : List BlockRef) (s : State) (a b : Answer Done) → BothEnd a b → LogsLike s.log (local_done line (reads_logged g line blocks s) a) (local_ran g line form (reads_done g (view_of s) line s.own blocks) s.own b)
local_logs g line form blocks s (Ok a) (Ok b) h =
    let reads : List Deed = reads_done g (view_of s) line s.own blocks in
    ap (λ (t : State). t.log) (reads_are g line blocks s)
    ∙ ap
    (λ xs. s.log ++ xs)
    (sym (touches_append reads (additions g form b.partials) ∙ (ap (λ xs. touches reads ++ xs) (additions_touch g form b.partials) ∙ append-nil (touches reads))))
local_logs g line form blocks s (Ok a) (Err kind) h = absurd h
local_logs g line form blocks s (Err kind) (Ok b) h = absurd h
local_logs g line form blocks s (Err kind) (Err other) h = tt

-- a write
put_logs : (line : ℕ) (place : Named) (how : Access) (s : State) (answer : Answer (List ℕ)) → LogsLike s.log (put_done line place how s answer) (put_ran line (touch_of (view_of s) place how line) s.own answer)
put_logs line place how s (Ok words) = refl
put_logs line place how s (Err kind) = tt

-- the effect of any statement
effect_logs : (g : Setting) (line : ℕ) (form : Plain) (s : State) → LogsLike s.log (effect Copied g line form s) (effect_ran g (view_of s) line form s.own)
effect_logs g line (Get block) s = ap (λ (t : State). t.log) (reads_are g line (block ∷ []) s)
effect_logs g line (Request block) s = ap (λ (t : State). t.log) (reads_are g line (block ∷ []) s)
effect_logs g line (Put block how from) s = put_logs line (named g s.own block) how s (words_of g s.own from [])
effect_logs g line (Prepare block how from) s = put_logs line (named g s.own block) how s (words_of g s.own from [])
effect_logs g line (Create array) s = sym (append-nil s.log)
effect_logs g line (Delete array) s = sym (append-nil s.log)
effect_logs g line SipBarrier s = sym (append-nil s.log)
effect_logs g line ServerBarrier s = sym (append-nil s.log)
effect_logs g line (Collective into from) s = sym (append-nil s.log)
effect_logs g line form s =
    local_logs
    g
    line
    form
    (reads_of g form)
    s
    (local_step g form (values_of g Copied s (reads_of g form)) s.own s.partials)
    (local_step g form (values_of g Copied s (reads_of g form)) s.own (no_partials g))
    (both_step g form (values_of g Copied s (reads_of g form)) s.own s.partials (no_partials g))

-- a statement, unless its created flags trap
trapped_logs : (line : ℕ) (s : State) (trap : Option TrapKind) (f : State → Outcome) (next : Own → Ran) → LogsLike s.log (f s) (next s.own) → LogsLike s.log (unless_trapped line s trap f) (unless_broken line s.own trap next)
trapped_logs line s None f next h = h
trapped_logs line s (Some kind) f next h = tt

-- the log of any statement
pub statement_logs : (g : Setting) (line : ℕ) (form : Plain) (s : State) → LogsLike s.log (statement Copied g line form s) (statement_ran g (view_of s) line form s.own)
statement_logs g line form s = trapped_logs line s (created_trap g form s.own) (effect Copied g line form) (effect_ran g (view_of s) line form) (effect_logs g line form s)

-- what a step logs and notes, beside its deeds
pub record LogsBy (ds : List Deed) (p q : Point) : Type 0 where
  pub log : q.work.state.log ≡ p.work.state.log ++ touches ds
  pub noted_are : q.traps ≡ p.traps ++ traps ds

-- a step of control logs nothing
led_logs : (p : Point) (c : Led) → LogsBy [] p (stepped p (led p.work.state c))
led_logs p (Goes rest own) = record { log = sym (append-nil p.work.state.log); noted_are = sym (append-nil p.traps) }
led_logs p (Halts trap) = record { log = sym (append-nil p.work.state.log); noted_are = sym (append-nil p.traps) }

-- nor does staying
stays_logs : (p : Point) → LogsBy [] p p
stays_logs p = record { log = sym (append-nil p.work.state.log); noted_are = sym (append-nil p.traps) }

-- a statement that is passed or not
done_logs : (p : Point) (o : Outcome) (x : Ran) (rest : Rest) → Clear x → LogsLike p.work.state.log o x → LogsBy (deeds_if_passed x) p (stepped p (done o rest))
done_logs p (Went t) (Through ds own) rest clear h = record { log = h; noted_are = sym (ap (λ more. p.traps ++ more) clear ∙ append-nil p.traps) }
done_logs p (Went t) (Broke ds trap own) rest clear h = absurd h
done_logs p (Stopped trap t) (Through ds own) rest clear h = absurd h
done_logs p (Stopped trap t) (Broke ds other own) rest clear h = stays_logs p

-- the step from any point
step_logs : (g : Setting) (set : IsGrantedSetting g) (r : Rest) (s : State) (ts : List Trap) → Fit g set (record { rest = r; state = s }) → LogsBy (deeds_from g s r) (record { work = record { rest = r; state = s }; traps = ts }) (next_from g (record { work = record { rest = r; state = s }; traps = ts }) r)
step_logs g set (Next at line (Pardo these wheres body) rest) s ts f =
    let l = pardo_steps g set (record { rest = Next at line (Pardo these wheres body) rest; state = s }) ts f these wheres body (at, line, rest, refl) in
    record { log = l.log; noted_are = l.traps_are }
step_logs g set (Next at line (Do index body) rest) s ts f = led_logs (record { work = record { rest = Next at line (Do index body) rest; state = s }; traps = ts }) (control g (Next at line (Do index body) rest) s.own)
step_logs g set (Next at line (DoIn sub index body) rest) s ts f = led_logs (record { work = record { rest = Next at line (DoIn sub index body) rest; state = s }; traps = ts }) (control g (Next at line (DoIn sub index body) rest) s.own)
step_logs g set (Next at line (If test body) rest) s ts f = led_logs (record { work = record { rest = Next at line (If test body) rest; state = s }; traps = ts }) (control g (Next at line (If test body) rest) s.own)
step_logs g set (Next at line (IfElse test body other) rest) s ts f = led_logs (record { work = record { rest = Next at line (IfElse test body other) rest; state = s }; traps = ts }) (control g (Next at line (IfElse test body other) rest) s.own)
step_logs g set (Next at line (Call procedure) rest) s ts f = led_logs (record { work = record { rest = Next at line (Call procedure) rest; state = s }; traps = ts }) (control g (Next at line (Call procedure) rest) s.own)
step_logs g set (Next at line form rest) s ts f =
    done_logs
    (record { work = record { rest = Next at line form rest; state = s }; traps = ts })
    (statement Copied g line form s)
    (statement_ran g (view_of s) line form s.own)
    rest
    (clear_statement g (view_of s) line form s.own)
    (statement_logs g line form s)
step_logs g set (Over at) s ts f = stays_logs (record { work = record { rest = Over at; state = s }; traps = ts })
step_logs g set (Turn loop last rest) s ts f = led_logs (record { work = record { rest = Turn loop last rest; state = s }; traps = ts }) (control g (Turn loop last rest) s.own)
step_logs g set (Join at rest) s ts f = led_logs (record { work = record { rest = Join at rest; state = s }; traps = ts }) (control g (Join at rest) s.own)
step_logs g set (Back at values rest) s ts f = led_logs (record { work = record { rest = Back at values rest; state = s }; traps = ts }) (control g (Back at values rest) s.own)
step_logs g set (Within pardo number rest) s ts f = led_logs (record { work = record { rest = Within pardo number rest; state = s }; traps = ts }) (control g (Within pardo number rest) s.own)

-- each step of the course
pub course_step_logs : (g : Setting) (set : IsGrantedSetting g) (t : ℕ) → LogsBy (deeds_at g t) (course g t) (course g (suc t))
course_step_logs g set t = step_logs g set (course g t).work.rest (course g t).work.state (course g t).traps (course_fit g set t)

-- the log and the traps of each point
pub courses_are_deeds : CoursesAreTheirDeeds
courses_are_deeds g set zero = record { log = refl; traps = refl }
courses_are_deeds g set (suc t) =
    let before = courses_are_deeds g set t in
    let l = course_step_logs g set t in
    record {
      log = l.log ∙ (ap (λ xs. xs ++ touches (deeds_at g t)) before.log ∙ sym (touches_append (deeds_before g t) (deeds_at g t)));
      traps = l.noted_are ∙ (ap (λ xs. xs ++ traps (deeds_at g t)) before.traps ∙ sym (traps_append (deeds_before g t) (deeds_at g t)));
    }
