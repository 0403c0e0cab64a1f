-- A statement that may stand within a pardo is its deeds.
use Rattle.std.proofs.Common.{◌≡◌, ℕ, ◌<◌, List, [], ◌∷◌, ◌++◌, Bool, true, false, not, ◌||◌, if◌then◌else◌, Option, Some, None, Ok, Err, length, get_or, set, replicate, refl, sym, ap, ◌∙◌, inl, append-nil, append_assoc, arith}
use Rattle.std.specs.List.{list_any}
use Rattle.std.proofs.lemmas.List.{length-replicate, get_or-set_same}
use Rattle.sial_syntax.specs.declared.access.Access.{Access}
use Rattle.sial_syntax.specs.declared.access.Access.TheVariants.{Read}
use Rattle.sial_syntax.specs.declared.classes.ScalarClass.{ScalarClass}
use Rattle.sial_syntax.specs.declared.classes.ScalarClass.TheVariants.{Replicated, Private, Partial}
use Rattle.sial_syntax.specs.declared.operand.BlockRef.{BlockRef}
use Rattle.sial_syntax.specs.declared.operand.Op.{Op}
use Rattle.sial_syntax.specs.declared.operand.Op.TheVariants as op
use Rattle.sial_syntax.specs.declared.operand.Right.{Right}
use Rattle.sial_syntax.specs.declared.operand.Target.TheVariants as target
use Rattle.sial_syntax.specs.Sides.{accumulates}
use Rattle.sial_syntax.specs.Tree.{Plain, Assign, Get, Request, Put, Prepare, Create, Delete, Allocate, Deallocate, Collective, SipBarrier, ServerBarrier, Print, PrintScalar, Integrals}
use Rattle.sial_meaning.specs.declared.trap.TrapKind.{TrapKind}
use Rattle.sial_meaning.specs.declared.trap.TrapKind.TheVariants.{UnsetScalar, LocalMissing, LocalTwice}
use Rattle.sial_meaning.specs.Access.{Touch}
use Rattle.sial_meaning.specs.Deeds.{Deed, touches, written, added, applied}
use Rattle.sial_meaning.specs.LocalStep.{Done, Answer, and_then, or_trap, quiet, scalar_assigned, scalar_value, to_scalar, to_target, needs_old, with_words, old_words, words_of, matched, is_allocated, integrals, side_read, all_allocated, all_deallocated, local_step}
use Rattle.sial_meaning.specs.Number.{plus, combined}
use Rattle.sial_meaning.specs.Own.{Own, sight, scalar_of}
use Rattle.sial_meaning.specs.Ran.{View, view_of, Ran, outcome_in, touch_of, reads_done, no_partials, added_to, additions, local_ran, put_ran, effect_ran, unless_broken, statement_ran}
use Rattle.sial_meaning.specs.Right.{Side, assigned, is_insertion}
use Rattle.sial_meaning.specs.Setting.{Setting, array_kind, scalar_class}
use Rattle.sial_meaning.specs.State.{Shared, State, with_own, logged}
use Rattle.sial_meaning.specs.Statement.{Outcome, Went, Stopped, Copied, Named, named, reads_of, reads_logged, values_of, local_done, put_done, created_trap, effect, unless_trapped, statement, trap_at}
use Rattle.sial_meaning.proofs.PardosKeepTheControl.Calls.{zeros_at}
use Rattle.sial_meaning.proofs.PardosKeepTheControl.Statement.{Calm}
use Rattle.sial_meaning.proofs.CourseFollowsTheFold.Stand.{written_there}
use Rattle.sial_meaning.proofs.IterationsAreTheirDeeds.Deeds.{outside_same, applied_none, written_append, added_append, touches_append}

-- reads change no block
pub reads_written : (g : Setting) (v : View) (line : ℕ) (own : Own) (blocks : List BlockRef) (shared : Shared) → written (reads_done g v line own blocks) shared ≡ shared
reads_written g v line own [] shared = refl
reads_written g v line own (b ∷ bs) shared = reads_written g v line own bs shared

-- nor any partial scalar
pub reads_added : (g : Setting) (v : View) (line : ℕ) (own : Own) (blocks : List BlockRef) (partials : List ℕ) → added (reads_done g v line own blocks) partials ≡ partials
reads_added g v line own [] partials = refl
reads_added g v line own (b ∷ bs) partials = reads_added g v line own bs partials

-- logged reads are deeds
pub reads_are : (g : Setting) (line : ℕ) (blocks : List BlockRef) (s : State) → reads_logged g line blocks s ≡ applied (reads_done g (view_of s) line s.own blocks) s
reads_are g line [] s = sym (applied_none s)
reads_are g line (b ∷ bs) s =
    let t : Touch = touch_of (view_of s) (named g s.own b) Read line in
    let reads : List Deed = reads_done g (view_of s) line s.own bs in
    reads_are g line bs (logged s (named g s.own b).class (named g s.own b).block Read line)
    ∙ outside_same
    s
    ((s.log ++ t ∷ []) ++ touches reads)
    (s.log ++ t ∷ touches reads)
    (written reads s.shared)
    (written reads s.shared)
    (added reads s.partials)
    (added reads s.partials)
    (append_assoc s.log (t ∷ []) (touches reads))
    refl
    refl

-- what a local step does where the partial scalars are these, beside what it does where they are 0
abbrev Alike : Setting → Plain → (partials : List ℕ) → Answer Done → Answer Done → Type 0
Alike g form partials (Ok a) (Ok b) = (a.own ≡ b.own) × (a.printed ≡ []) × (a.partials ≡ added (additions g form b.partials) partials)
Alike g form partials (Ok a) (Err kind) = ⊥
Alike g form partials (Err kind) (Ok b) = ⊥
Alike g form partials (Err kind) (Err other) = kind ≡ other

-- what follows an answer
alike_then : {X : Type 0} (g : Setting) (form : Plain) (partials : List ℕ) (x : Answer X) (f h : X → Answer Done) → ((y : X) → Alike g form partials (f y) (h y)) → Alike g form partials (and_then x f) (and_then x h)
alike_then g form partials (Ok y) f h all = all y
alike_then g form partials (Err kind) f h all = refl

-- one of two answers
alike_if : (g : Setting) (form : Plain) (partials : List ℕ) (b : Bool) (x y u v : Answer Done) → Alike g form partials x u → Alike g form partials y v → Alike g form partials (if b then x else y) (if b then u else v)
alike_if g form partials true x y u v a b = a
alike_if g form partials false x y u v a b = b

-- a scalar set, which is not partial
scalar_alike : (g : Setting) (form : Plain) (partials : List ℕ) (scalar : ℕ) (op : Op) (value : ℕ) (own : Own) (needed : Bool) (old : Answer ℕ) → additions g form (no_partials g) ≡ [] → Alike g form partials (scalar_assigned scalar op value own partials needed old) (scalar_assigned scalar op value own (no_partials g) needed old)
scalar_alike g form partials scalar op value own false old none = (refl, refl, sym (ap (λ ds. added ds partials) none))
scalar_alike g form partials scalar op value own true (Ok n) none = (refl, refl, sym (ap (λ ds. added ds partials) none))
scalar_alike g form partials scalar op value own true (Err kind) none = refl

-- what is made of 0 and then added is what is made of the old number
added_so : (op : Op) (old value : ℕ) → accumulates op ≡ true → combined op old value ≡ plus old (combined op 0 value)
added_so op.Set old value e = absurd cc
added_so op.Add old value e = omega arith
added_so op.Subtract old value e = omega arith
added_so op.Scale old value e = absurd cc

-- a partial scalar that was 0
zero_made : (n scalar : ℕ) (made : ℕ → ℕ) → scalar < n → get_or (set (replicate n 0) scalar (made (get_or (replicate n 0) scalar 0))) scalar 0 ≡ made 0
zero_made n scalar made there =
    let long = length-replicate {A = ℕ} n 0 in
    get_or-set_same (replicate n 0) scalar (made (get_or (replicate n 0) scalar 0)) 0 (omega (arith, there, long)) ∙ ap made (zeros_at n scalar)

-- nothing is added to a scalar that isn't partial
none_added : (b : Bool) (class : ScalarClass) (scalar n : ℕ) → (class ≡ Partial → ⊥) → (if b then added_to class scalar n else []) ≡ []
none_added true Replicated scalar n apart = refl
none_added true Private scalar n apart = refl
none_added true Partial scalar n apart = absurd (apart refl)
none_added false class scalar n apart = refl

-- a scalar assigned
target_alike : (g : Setting) (s : ℕ) (op : Op) (right : Right) (side : Side) (class : ScalarClass) (own : Own) (partials : List ℕ) → scalar_class g s ≡ class → s < length g.program.scalars → (class ≡ Partial → accumulates op ≡ true)
    → Alike g (Assign (target.Scalar s) op right) partials (to_scalar g class s op side own partials) (to_scalar g class s op side own (no_partials g))
target_alike g s op right side Replicated own partials e there only =
    scalar_alike g (Assign (target.Scalar s) op right) partials s op (scalar_value g side) own (needs_old op) (or_trap UnsetScalar (scalar_of own s)) (none_added (accumulates op) (scalar_class g s) s (get_or (no_partials g) s 0) (λ same. absurd cc))
target_alike g s op right side Private own partials e there only =
    scalar_alike g (Assign (target.Scalar s) op right) partials s op (scalar_value g side) own (needs_old op) (or_trap UnsetScalar (scalar_of own s)) (none_added (accumulates op) (scalar_class g s) s (get_or (no_partials g) s 0) (λ same. absurd cc))
target_alike g s op right side Partial own partials e there only =
    let value = scalar_value g side in
    let made : ℕ = get_or (set (no_partials g) s (combined op (get_or (no_partials g) s 0) value)) s 0 in
    let is : made ≡ combined op 0 value = zero_made (length g.program.scalars) s (λ n. combined op n value) there in (
      refl,
      refl,
      ap (set partials s) (added_so op (get_or partials s 0) value (only refl) ∙ ap (plus (get_or partials s 0)) (sym is))
          ∙ sym (ap (λ c. added (if accumulates op then added_to c s made else []) partials) e ∙ ap (λ b. added (if b then added_to Partial s made else []) partials) (only refl)),
    )

-- a local step
step_alike : (g : Setting) (form : Plain) → Calm g form → (values : List (List ℕ)) (own : Own) (partials : List ℕ) → Alike g form partials (local_step g form values own partials) (local_step g form values own (no_partials g))
step_alike g (Assign (target.Scalar s) op right) calm values own partials =
    alike_then
    g
    (Assign (target.Scalar s) op right)
    partials
    (side_read g own right values)
    (λ side. to_target g (target.Scalar s) op side own partials)
    (λ side. to_target g (target.Scalar s) op side own (no_partials g))
    (λ side.
    target_alike
    g
    s
    op
    right
    side
    (scalar_class g s)
    own
    partials
    refl
    (written_there g.program (Assign (target.Scalar s) op right) calm.there s (inl refl))
    (calm.partials s (inl refl)))
step_alike g (Assign (target.Block b) op right) calm values own partials =
    alike_then
    g
    (Assign (target.Block b) op right)
    partials
    (side_read g own right values)
    (λ side. to_target g (target.Block b) op side own partials)
    (λ side. to_target g (target.Block b) op side own (no_partials g))
    (λ side.
    alike_then
    g
    (Assign (target.Block b) op right)
    partials
    (old_words g own b (needs_old op || is_insertion g.spaces b.at side) (array_kind g b.array))
    (λ old. quiet (with_words g b (assigned g.spaces op (sight g own b old) side) own (array_kind g b.array)) partials)
    (λ old. quiet (with_words g b (assigned g.spaces op (sight g own b old) side) own (array_kind g b.array)) (no_partials g))
    (λ old. (refl, refl, refl)))
step_alike g (Allocate array at) calm values own partials =
    alike_if
    g
    (Allocate array at)
    partials
    (list_any (is_allocated own array) (matched g own array at))
    (Err LocalTwice)
    (quiet (all_allocated g array (matched g own array at) own) partials)
    (Err LocalTwice)
    (quiet (all_allocated g array (matched g own array at) own) (no_partials g))
    refl
    (refl, refl, refl)
step_alike g (Deallocate array at) calm values own partials =
    alike_if
    g
    (Deallocate array at)
    partials
    (list_any (λ n. not (is_allocated own array n)) (matched g own array at))
    (Err LocalMissing)
    (quiet (all_deallocated array (matched g own array at) own) partials)
    (Err LocalMissing)
    (quiet (all_deallocated array (matched g own array at) own) (no_partials g))
    refl
    (refl, refl, refl)
step_alike g (Print text) calm values own partials = let never : true ≡ false = calm.print in absurd cc
step_alike g (PrintScalar scalar) calm values own partials = let never : true ≡ false = calm.print in absurd cc
step_alike g (Integrals block) calm values own partials =
    alike_then
    g
    (Integrals block)
    partials
    (old_words g own block false (array_kind g block.array))
    (λ old. quiet (with_words g block (integrals (sight g own block [])) own (array_kind g block.array)) partials)
    (λ old. quiet (with_words g block (integrals (sight g own block [])) own (array_kind g block.array)) (no_partials g))
    (λ old. (refl, refl, refl))
step_alike g form calm values own partials = (refl, refl, refl)

-- an addition is no access
none_touched : (b : Bool) (class : ScalarClass) (scalar n : ℕ) → touches (if b then added_to class scalar n else []) ≡ []
none_touched true Replicated scalar n = refl
none_touched true Private scalar n = refl
none_touched true Partial scalar n = refl
none_touched false class scalar n = refl

-- nor are those of a statement
pub additions_touch : (g : Setting) (form : Plain) (ps : List ℕ) → touches (additions g form ps) ≡ []
additions_touch g (Assign (target.Scalar s) op right) ps = none_touched (accumulates op) (scalar_class g s) s (get_or ps s 0)
additions_touch g form ps = refl

-- an addition writes no block
none_written : (b : Bool) (class : ScalarClass) (scalar n : ℕ) (shared : Shared) → written (if b then added_to class scalar n else []) shared ≡ shared
none_written true Replicated scalar n shared = refl
none_written true Private scalar n shared = refl
none_written true Partial scalar n shared = refl
none_written false class scalar n shared = refl

-- nor do those of a statement
pub additions_write : (g : Setting) (form : Plain) (ps : List ℕ) (shared : Shared) → written (additions g form ps) shared ≡ shared
additions_write g (Assign (target.Scalar s) op right) ps shared = none_written (accumulates op) (scalar_class g s) s (get_or ps s 0) shared
additions_write g form ps shared = refl

-- a state with other accesses, partial scalars, worker's part and lines
abbrev after_local : State → List Touch → Shared → List ℕ → Own → List (List ℕ) → State
after_local s log shared partials own lines = record s { log = log; shared = shared; partials = partials; own = own; lines = lines }

-- a local statement behind its reads
local_is : (g : Setting) (line : ℕ) (form : Plain) (blocks : List BlockRef) (s : State) (a b : Answer Done) → Alike g form s.partials a b → local_done line (reads_logged g line blocks s) a ≡ outcome_in s (local_ran g line form (reads_done g (view_of s) line s.own blocks) s.own b)
local_is g line form blocks s (Ok a) (Ok b) (same, quiet_so, partials) =
    let reads : List Deed = reads_done g (view_of s) line s.own blocks in
    let more : List Deed = additions g form b.partials in
    ap (λ r. local_done line r (Ok a)) (reads_are g line blocks s)
    ∙ (ap (λ own. Went (after_local s (s.log ++ touches reads) (written reads s.shared) a.partials own (s.lines ++ a.printed))) same
    ∙ (ap (λ ps. Went (after_local s (s.log ++ touches reads) (written reads s.shared) ps b.own (s.lines ++ a.printed))) partials
    ∙ (ap (λ ls. Went (after_local s (s.log ++ touches reads) (written reads s.shared) (added more s.partials) b.own (s.lines ++ ls))) quiet_so
    ∙ (ap (λ ls. Went (after_local s (s.log ++ touches reads) (written reads s.shared) (added more s.partials) b.own ls)) (append-nil s.lines)
    ∙ ap
    (λ (t : State). Went (with_own t b.own))
    (outside_same
    s
    (s.log ++ touches reads)
    (s.log ++ touches (reads ++ more))
    (written reads s.shared)
    (written (reads ++ more) s.shared)
    (added more s.partials)
    (added (reads ++ more) s.partials)
    (ap (λ xs. s.log ++ xs) (sym (touches_append reads more ∙ (ap (λ xs. touches reads ++ xs) (additions_touch g form b.partials) ∙ append-nil (touches reads)))))
    (sym (written_append reads more s.shared ∙ additions_write g form b.partials (written reads s.shared)))
    (sym (added_append reads more s.partials ∙ ap (added more) (reads_added g (view_of s) line s.own blocks s.partials))))))))
local_is g line form blocks s (Ok a) (Err kind) h = absurd h
local_is g line form blocks s (Err kind) (Ok b) h = absurd h
local_is g line form blocks s (Err kind) (Err other) h =
    ap (λ r. local_done line r (Err kind)) (reads_are g line blocks s)
    ∙ ap (λ k. local_done line (applied (reads_done g (view_of s) line s.own blocks) s) (Err k)) h

-- a write
put_is : (line : ℕ) (place : Named) (how : Access) (s : State) (answer : Answer (List ℕ)) → put_done line place how s answer ≡ outcome_in s (put_ran line (touch_of (view_of s) place how line) s.own answer)
put_is line place how s (Ok words) = refl
put_is line place how s (Err kind) = ap (λ t. Stopped (trap_at line kind) t) (sym (applied_none s))

-- the effect of a statement
effect_is : (g : Setting) (line : ℕ) (form : Plain) → Calm g form → (s : State) → effect Copied g line form s ≡ outcome_in s (effect_ran g (view_of s) line form s.own)
effect_is g line (Get block) calm s = ap Went (reads_are g line (block ∷ []) s)
effect_is g line (Request block) calm s = ap Went (reads_are g line (block ∷ []) s)
effect_is g line (Put block how from) calm s = put_is line (named g s.own block) how s (words_of g s.own from [])
effect_is g line (Prepare block how from) calm s = put_is line (named g s.own block) how s (words_of g s.own from [])
effect_is g line (Create array) calm s = let never : true ≡ false = calm.sync in absurd cc
effect_is g line (Delete array) calm s = let never : true ≡ false = calm.sync in absurd cc
effect_is g line SipBarrier calm s = let never : true ≡ false = calm.sync in absurd cc
effect_is g line ServerBarrier calm s = let never : true ≡ false = calm.sync in absurd cc
effect_is g line (Collective into from) calm s = let never : true ≡ false = calm.sync in absurd cc
effect_is g line form calm s =
    local_is
    g
    line
    form
    (reads_of g form)
    s
    (local_step g form (values_of g Copied s (reads_of g form)) s.own s.partials)
    (local_step g form (values_of g Copied s (reads_of g form)) s.own (no_partials g))
    (step_alike g form calm (values_of g Copied s (reads_of g form)) s.own s.partials)

-- a statement, unless its created flags trap
trapped_is : (line : ℕ) (s : State) (trap : Option TrapKind) (f : State → Outcome) (next : Own → Ran) → f s ≡ outcome_in s (next s.own) → unless_trapped line s trap f ≡ outcome_in s (unless_broken line s.own trap next)
trapped_is line s None f next e = e
trapped_is line s (Some kind) f next e = ap (λ t. Stopped (trap_at line kind) t) (sym (applied_none s))

-- a statement that may stand within a pardo is its deeds
pub statement_is : (g : Setting) (line : ℕ) (form : Plain) → Calm g form → (s : State) → statement Copied g line form s ≡ outcome_in s (statement_ran g (view_of s) line form s.own)
statement_is g line form calm s = trapped_is line s (created_trap g form s.own) (effect Copied g line form) (effect_ran g (view_of s) line form) (effect_is g line form calm s)
