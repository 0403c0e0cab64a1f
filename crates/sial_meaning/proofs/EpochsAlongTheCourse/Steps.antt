-- A step of the course leaves epochs and copies, its blocks with its deeds, or ends an epoch of a class.
use Rattle.std.proofs.Common.{◌≡◌, ℕ, suc, ◌+◌, List, [], ◌∷◌, false, Option, Some, None, Ok, Err, refl, sym, ap, ◌∙◌}
use Rattle.sial_syntax.specs.declared.access.Access.{Access}
use Rattle.sial_syntax.specs.declared.access.Class.{Class}
use Rattle.sial_syntax.specs.declared.access.Class.TheVariants.{Distributed, Served}
use Rattle.sial_syntax.specs.declared.operand.BlockRef.{BlockRef}
use Rattle.sial_syntax.specs.Spaces.{same_class}
use Rattle.sial_syntax.specs.Tree.{Plain, Do, DoIn, Pardo, If, IfElse, Call, Get, Request, Put, Prepare, Create, Delete, Collective, SipBarrier, ServerBarrier}
use Rattle.sial_meaning.specs.declared.trap.Trap.{Trap}
use Rattle.sial_meaning.specs.declared.trap.TrapKind.{TrapKind}
use Rattle.sial_meaning.specs.Control.{Led, Goes, Halts, control}
use Rattle.sial_meaning.specs.Course.{Point, stepped, next_from, course}
use Rattle.sial_meaning.specs.CourseDeeds.{deeds_if_passed, deeds_from, deeds_at}
use Rattle.sial_meaning.specs.Deeds.{Deed, written}
use Rattle.sial_meaning.specs.LocalStep.{Done, Answer, words_of, local_step}
use Rattle.sial_meaning.specs.Next.{next_of, Asks, Local, Operands, Sync, Collect, asked}
use Rattle.sial_meaning.specs.Next as next
use Rattle.sial_meaning.specs.Own.{Own}
use Rattle.sial_meaning.specs.Passed.{Passed, with_asked, if_moved, passed}
use Rattle.sial_meaning.specs.Ran.{view_of, Ran, Through, Broke, touch_of, reads_done, no_partials, additions, local_ran, put_ran, effect_ran, unless_broken, statement_ran}
use Rattle.sial_meaning.specs.Rest.{Rest, Over, Next, Turn, Join, Back, Within}
use Rattle.sial_meaning.specs.Setting.{Setting}
use Rattle.sial_meaning.specs.Sound.{IsGrantedSetting}
use Rattle.sial_meaning.specs.State.{State, blocks_of_class, with_class, next_epoch, epoch_ended}
use Rattle.sial_meaning.specs.Statement.{Outcome, Went, Stopped, Copied, Named, named, reads_of, reads_logged, values_of, local_done, put_done, created, deleted, created_trap, effect, unless_trapped, statement}
use Rattle.sial_meaning.specs.Step.{led, done, step_from}
use Rattle.sial_meaning.proofs.IterationsAreTheirDeeds.Pardos.{pardo_steps}
use Rattle.sial_meaning.proofs.CourseFollowsTheFold.Fit.{pardo_stands, course_fit}
use Rattle.sial_meaning.proofs.CourseFollowsTheFold.Pardos.{pardo_kept}
use Rattle.sial_meaning.proofs.CourseFollowsTheFold.Rest.{Fit}
use Rattle.sial_meaning.proofs.IterationsAreTheirDeeds.Logs.{BothEnd, both_step, LogsLike, statement_logs}
use Rattle.sial_meaning.proofs.IterationsAreTheirDeeds.Deeds.{written_append}
use Rattle.sial_meaning.proofs.IterationsAreTheirDeeds.Statement.{reads_are, additions_write}

-- from one state to another: epochs and copies stay, and the blocks are written; or an epoch of a class ends, which is noted so
pub data Moves (noted_so : Type 0) (ds : List Deed) (s t : State) : Type 0 where
  stays : t.epochs ≡ s.epochs → t.copies ≡ s.copies → t.shared ≡ written ds s.shared → Moves noted_so ds s t
  ends : (class : Class) → noted_so → ds ≡ [] → t.epochs ≡ next_epoch s.epochs class → t.copies ≡ with_class s.copies class (blocks_of_class t.shared class)
      → ((other : Class) → same_class class other ≡ false → blocks_of_class t.shared other ≡ blocks_of_class s.shared other) → Moves noted_so ds s t

-- noted in another way
moves_with : (P Q : Type 0) (ds : List Deed) (s t : State) → (P → Q) → Moves P ds s t → Moves Q ds s t
moves_with P Q ds s t f (stays a b c) = stays a b c
moves_with P Q ds s t f (ends class p none e c others) = ends class (f p) none e c others

-- nothing changes but what these don't speak of
same_moves : (P : Type 0) (s : State) → Moves P [] s s
same_moves P s = stays refl refl refl

-- a statement asks for the end of an epoch
abbrev pub IsSync : Asks → Type 0
IsSync asks = (class : Class) × (asks ≡ Sync class)

-- where a statement leads, beside its deeds
abbrev MovesLike : Type 0 → State → Outcome → Ran → Type 0
MovesLike P s (Went t) x = Moves P (deeds_if_passed x) s t
MovesLike P s (Stopped trap t) x = Unit {0}

-- a local statement
local_moves : (P : Type 0) (g : Setting) (line : ℕ) (form : Plain) (blocks : List BlockRef) (s : State) (a b : Answer Done) → BothEnd a b → MovesLike P s (local_done line (reads_logged g line blocks s) a) (local_ran g line form (reads_done g (view_of s) line s.own blocks) s.own b)
local_moves P g line form blocks s (Ok a) (Ok b) h =
    let reads : List Deed = reads_done g (view_of s) line s.own blocks in
    let is = reads_are g line blocks s in
    stays
    (ap (λ (t : State). t.epochs) is)
    (ap (λ (t : State). t.copies) is)
    (ap (λ (t : State). t.shared) is ∙ sym (written_append reads (additions g form b.partials) s.shared ∙ additions_write g form b.partials (written reads s.shared)))
local_moves P g line form blocks s (Ok a) (Err kind) h = absurd h
local_moves P g line form blocks s (Err kind) b h = tt

-- a write
put_moves : (P : Type 0) (line : ℕ) (place : Named) (how : Access) (s : State) (answer : Answer (List ℕ)) → MovesLike P s (put_done line place how s answer) (put_ran line (touch_of (view_of s) place how line) s.own answer)
put_moves P line place how s (Ok words) = stays refl refl refl
put_moves P line place how s (Err kind) = tt

-- the other class has its blocks as before
other_distributed : (s t : State) → t.shared.served ≡ s.shared.served → (other : Class) → same_class Distributed other ≡ false → blocks_of_class t.shared other ≡ blocks_of_class s.shared other
other_distributed s t e Distributed apart = absurd cc
other_distributed s t e Served apart = e

other_served : (s t : State) → t.shared.distributed ≡ s.shared.distributed → (other : Class) → same_class Served other ≡ false → blocks_of_class t.shared other ≡ blocks_of_class s.shared other
other_served s t e Distributed apart = e
other_served s t e Served apart = absurd cc

-- the effect of any statement
effect_moves : (g : Setting) (line : ℕ) (form : Plain) (s : State) → MovesLike (IsSync (asked g form)) s (effect Copied g line form s) (effect_ran g (view_of s) line form s.own)
effect_moves g line (Get block) s = let is = reads_are g line (block ∷ []) s in stays (ap (λ (t : State). t.epochs) is) (ap (λ (t : State). t.copies) is) (ap (λ (t : State). t.shared) is)
effect_moves g line (Request block) s = let is = reads_are g line (block ∷ []) s in stays (ap (λ (t : State). t.epochs) is) (ap (λ (t : State). t.copies) is) (ap (λ (t : State). t.shared) is)
effect_moves g line (Put block how from) s = put_moves (IsSync (asked g (Put block how from))) line (named g s.own block) how s (words_of g s.own from [])
effect_moves g line (Prepare block how from) s = put_moves (IsSync (asked g (Prepare block how from))) line (named g s.own block) how s (words_of g s.own from [])
effect_moves g line (Create array) s = ends Distributed (Distributed, refl) refl refl refl (other_distributed s (created g array s) refl)
effect_moves g line (Delete array) s = ends Distributed (Distributed, refl) refl refl refl (other_distributed s (deleted g array s) refl)
effect_moves g line SipBarrier s = ends Distributed (Distributed, refl) refl refl refl (other_distributed s (epoch_ended Distributed s) refl)
effect_moves g line ServerBarrier s = ends Served (Served, refl) refl refl refl (other_served s (epoch_ended Served s) refl)
effect_moves g line (Collective into from) s = stays refl refl refl
effect_moves g line form s =
    local_moves
    (IsSync (asked g form))
    g
    line
    form
    (reads_of g form)
    s
    (local_step g form (values_of g Copied s (reads_of g form)) s.own s.partials)
    (local_step g form (values_of g Copied s (reads_of g form)) s.own (no_partials g))
    (both_step g form (values_of g Copied s (reads_of g form)) s.own s.partials (no_partials g))

-- a statement, unless its created flags trap
trapped_moves : (P : Type 0) (line : ℕ) (s : State) (trap : Option TrapKind) (f : State → Outcome) (next : Own → Ran) → MovesLike P s (f s) (next s.own) → MovesLike P s (unless_trapped line s trap f) (unless_broken line s.own trap next)
trapped_moves P line s None f next h = h
trapped_moves P line s (Some kind) f next h = tt

-- any statement
statement_moves : (g : Setting) (line : ℕ) (form : Plain) (s : State) → MovesLike (IsSync (asked g form)) s (statement Copied g line form s) (statement_ran g (view_of s) line form s.own)
statement_moves g line form s =
    trapped_moves (IsSync (asked g form)) line s (created_trap g form s.own) (effect Copied g line form) (effect_ran g (view_of s) line form) (effect_moves g line form s)

-- a step passes a sync point
abbrev pub PassesSync : Setting → Rest → State → Type 0
PassesSync g r s = (x : Passed) → (if_moved g (next_of r) (step_from Copied g r s) x).syncs ≡ x.syncs + 1

-- where the course goes on by control
led_moves : (P : Type 0) (p : Point) (c : Led) → Moves P [] p.work.state (stepped p (led p.work.state c)).work.state
led_moves P p (Goes rest own) = stays refl refl refl
led_moves P p (Halts trap) = stays refl refl refl

-- where it goes on by a statement
done_moves : (P : Type 0) (p : Point) (o : Outcome) (x : Ran) (rest : Rest) → LogsLike p.work.state.log o x → MovesLike P p.work.state o x → Moves P (deeds_if_passed x) p.work.state (stepped p (done o rest)).work.state
done_moves P p (Went t) x rest a h = h
done_moves P p (Stopped trap t) (Through ds own) rest a h = absurd a
done_moves P p (Stopped trap t) (Broke ds other own) rest a h = stays refl refl refl

-- a statement that ends an epoch and is passed passes a sync point
sync_passed : (g : Setting) (line : ℕ) (form : Plain) (rest : Rest) (o : Outcome) (t : State) → o ≡ Went t → IsSync (asked g form) → (x : Passed) → (if_moved g (next.Statement line form rest) (done o rest) x).syncs ≡ x.syncs + 1
sync_passed g line form rest o t e sync x =
    ap (λ (p : Outcome). (if_moved g (next.Statement line form rest) (done p rest) x).syncs) e ∙ ap (λ (a : Asks). (with_asked a x).syncs) sync.1

-- so does each that leads on
passing : (g : Setting) (line : ℕ) (form : Plain) (rest : Rest) (s : State) (o : Outcome) (x : Ran) → MovesLike (IsSync (asked g form)) s o x → MovesLike ((y : Passed) → (if_moved g (next.Statement line form rest) (done o rest) y).syncs ≡ y.syncs + 1) s o x
passing g line form rest s (Went t) x m =
    moves_with
    (IsSync (asked g form))
    ((y : Passed) → (if_moved g (next.Statement line form rest) (done (Went t) rest) y).syncs ≡ y.syncs + 1)
    (deeds_if_passed x)
    s
    t
    (sync_passed g line form rest (Went t) t refl)
    m
passing g line form rest s (Stopped trap t) x m = tt

-- the step from any point
step_moves : (g : Setting) (set : IsGrantedSetting g) (r : Rest) (s : State) (ts : List Trap) → Fit g set (record { rest = r; state = s }) → Moves (PassesSync g r s) (deeds_from g s r) s (next_from g (record { work = record { rest = r; state = s }; traps = ts }) r).work.state
step_moves g set (Next at line (Pardo these wheres body) rest) s ts f =
    let stands = pardo_stands g set f.d f.indices line these wheres body f.at.stands.0 in
    let kept = pardo_kept g set f.d f.indices these wheres body stands.0 s f.at.numbered.only rest ts stands.1 in
    let l = pardo_steps g set (record { rest = Next at line (Pardo these wheres body) rest; state = s }) ts f these wheres body (at, line, rest, refl) in
    stays kept.shown.epochs kept.shown.copies l.shared
step_moves g set (Next at line (Do index body) rest) s ts f = led_moves _ (record { work = record { rest = Next at line (Do index body) rest; state = s }; traps = ts }) (control g (Next at line (Do index body) rest) s.own)
step_moves g set (Next at line (DoIn sub index body) rest) s ts f = led_moves _ (record { work = record { rest = Next at line (DoIn sub index body) rest; state = s }; traps = ts }) (control g (Next at line (DoIn sub index body) rest) s.own)
step_moves g set (Next at line (If test body) rest) s ts f = led_moves _ (record { work = record { rest = Next at line (If test body) rest; state = s }; traps = ts }) (control g (Next at line (If test body) rest) s.own)
step_moves g set (Next at line (IfElse test body other) rest) s ts f = led_moves _ (record { work = record { rest = Next at line (IfElse test body other) rest; state = s }; traps = ts }) (control g (Next at line (IfElse test body other) rest) s.own)
step_moves g set (Next at line (Call procedure) rest) s ts f = led_moves _ (record { work = record { rest = Next at line (Call procedure) rest; state = s }; traps = ts }) (control g (Next at line (Call procedure) rest) s.own)
step_moves g set (Next at line form rest) s ts f =
    done_moves
    ((y : Passed) → (if_moved g (next.Statement line form rest) (done (statement Copied g line form s) rest) y).syncs ≡ y.syncs + 1)
    (record { work = record { rest = Next at line form rest; state = s }; traps = ts })
    (statement Copied g line form s)
    (statement_ran g (view_of s) line form s.own)
    rest
    (statement_logs g line form s)
    (passing g line form rest s (statement Copied g line form s) (statement_ran g (view_of s) line form s.own) (statement_moves g line form s))
step_moves g set (Over at) s ts f = stays refl refl refl
step_moves g set (Turn loop last rest) s ts f = led_moves _ (record { work = record { rest = Turn loop last rest; state = s }; traps = ts }) (control g (Turn loop last rest) s.own)
step_moves g set (Join at rest) s ts f = stays refl refl refl
step_moves g set (Back at values rest) s ts f = stays refl refl refl
step_moves g set (Within pardo number rest) s ts f = absurd f.at.stands

-- each step of the course
pub course_moves : (g : Setting) (set : IsGrantedSetting g) (t : ℕ) → Moves ((passed g (suc t)).syncs ≡ (passed g t).syncs + 1) (deeds_at g t) (course g t).work.state (course g (suc t)).work.state
course_moves g set t =
    moves_with
    (PassesSync g (course g t).work.rest (course g t).work.state)
    ((passed g (suc t)).syncs ≡ (passed g t).syncs + 1)
    (deeds_at g t)
    (course g t).work.state
    (course g (suc t)).work.state
    (λ p. p (passed g t))
    (step_moves g set (course g t).work.rest (course g t).work.state (course g t).traps (course_fit g set t))
