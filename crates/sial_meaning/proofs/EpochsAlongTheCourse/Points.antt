-- Epochs, copies and counts along the course.
use Rattle.std.proofs.Common.{◌≡◌, ℕ, zero, suc, ◌+◌, ◌-◌, ◌<◌, ◌≤◌, List, [], ◌∷◌, Bool, true, false, ◌⊎◌, inl, inr, ⊎_elim, refl, sym, ap, ◌∙◌, subst, arith}
use Rattle.std.proofs.lemmas.Bool.{cases_lt}
use Rattle.sial_syntax.specs.declared.access.Class.{Class}
use Rattle.sial_syntax.specs.declared.access.Class.TheVariants.{Distributed, Served}
use Rattle.sial_syntax.specs.declared.operand.BlockRef.{BlockRef}
use Rattle.sial_syntax.specs.Spaces.{same_class}
use Rattle.sial_syntax.specs.Tree.{Plain, Do, DoIn, Pardo, If, IfElse, Call, Assign}
use Rattle.sial_meaning.specs.AlongLaws.{state_at, epoch_at, copies_at, EpochsRise, OneEpochOneCopy, CountsRise, SyncsSayEpochs, IsMeeting, IsCounted, SameCountsOnePoint}
use Rattle.sial_meaning.specs.Course.{Point, stepped, next_point, course}
use Rattle.sial_meaning.specs.CourseDeeds.{deeds_at}
use Rattle.sial_meaning.specs.Deeds.{Deed}
use Rattle.sial_meaning.specs.LocalStep.{shared_in}
use Rattle.sial_meaning.specs.Next as next
use Rattle.sial_meaning.specs.Next.{Task, next_of, Asks, Local, Operands, Get, Put, Sync, Collect, local_or, asked}
use Rattle.sial_meaning.specs.Passed.{Passed, with_asked, with_task, if_moved, passed}
use Rattle.sial_meaning.specs.Rest.{Rest, Over, Next, Turn, Join, Back, Within}
use Rattle.sial_meaning.specs.Setting.{Setting}
use Rattle.sial_meaning.specs.Sound.{IsGrantedSetting}
use Rattle.sial_meaning.specs.State.{Shared, Epochs, State, blocks_of_class, with_class, epoch_of, next_epoch}
use Rattle.sial_meaning.specs.Statement.{Outcome, Went, Stopped, Copied, statement}
use Rattle.sial_meaning.specs.Step.{Stepped, Moved, Halted, Ended, done, step}
use Rattle.sial_meaning.proofs.EpochsAlongTheCourse.Steps.{Moves, stays, ends, course_moves}

-- an epoch of a class ends for that class alone
pub next_here : (e : Epochs) (class other : Class) → same_class class other ≡ true → epoch_of (next_epoch e class) other ≡ epoch_of e other + 1
next_here e Distributed Distributed is = refl
next_here e Distributed Served is = absurd cc
next_here e Served Distributed is = absurd cc
next_here e Served Served is = refl

-- an epoch that ends leaves that of another class
pub next_other : (e : Epochs) (class other : Class) → same_class class other ≡ false → epoch_of (next_epoch e class) other ≡ epoch_of e other
next_other e Distributed Distributed is = absurd cc
next_other e Distributed Served is = refl
next_other e Served Distributed is = refl
next_other e Served Served is = absurd cc

-- so are its copies made anew
pub class_here : (s : Shared) (class other : Class) (t : Shared) → same_class class other ≡ true → blocks_of_class (with_class s class (blocks_of_class t class)) other ≡ blocks_of_class t other
class_here s Distributed Distributed t is = refl
class_here s Distributed Served t is = absurd cc
class_here s Served Distributed t is = absurd cc
class_here s Served Served t is = refl

-- the blocks of one class replaced leave those of another
pub class_other : (s : Shared) (class other : Class) (blocks : List (List ℕ)) → same_class class other ≡ false → blocks_of_class (with_class s class blocks) other ≡ blocks_of_class s other
class_other s Distributed Distributed blocks is = absurd cc
class_other s Distributed Served blocks is = refl
class_other s Served Distributed blocks is = refl
class_other s Served Served blocks is = absurd cc

-- what a step does to the epoch and the copies of a class: both stay, or the epoch is the next
pub data Turns (s t : State) (class : Class) : Type 0 where
  same_epoch : epoch_of t.epochs class ≡ epoch_of s.epochs class → blocks_of_class t.copies class ≡ blocks_of_class s.copies class → Turns s t class
  new_epoch : epoch_of t.epochs class ≡ epoch_of s.epochs class + 1 → Turns s t class

-- so does each step
turns_by : (P : Type 0) (ds : List Deed) (s t : State) (class : Class) → Moves P ds s t → Turns s t class
turns_by P ds s t class (stays e c b) = same_epoch (ap (λ e. epoch_of e class) e) (ap (λ c. blocks_of_class c class) c)
turns_by P ds s t class (ends other p none e c b) = by_test (same_class other class) refl
  where
    by_test : (x : Bool) → same_class other class ≡ x → Turns s t class
    by_test true is = new_epoch (ap (λ e. epoch_of e class) e ∙ next_here s.epochs other class is)
    by_test false is =
        same_epoch
        (ap (λ e. epoch_of e class) e ∙ next_other s.epochs other class is)
        (ap (λ c. blocks_of_class c class) c ∙ class_other s.copies other class (blocks_of_class t.shared other) is)

-- each step of the course
pub course_turns : (g : Setting) (set : IsGrantedSetting g) (t : ℕ) (class : Class) → Turns (state_at g t) (state_at g (suc t)) class
course_turns g set t class = turns_by ((passed g (suc t)).syncs ≡ (passed g t).syncs + 1) (deeds_at g t) (state_at g t) (state_at g (suc t)) class (course_moves g set t)

-- no step lowers an epoch
epoch_up : (s t : State) (class : Class) → Turns s t class → epoch_of s.epochs class ≤ epoch_of t.epochs class
epoch_up s t class (same_epoch e c) = omega (arith, e)
epoch_up s t class (new_epoch e) = omega (arith, e)

-- epochs never fall
pub epochs_rise : EpochsRise
epochs_rise g set t zero below class = let same : t ≡ zero = omega (arith, below) in subst (λ (n : ℕ). epoch_at g n class ≤ epoch_at g zero class) (sym same) (omega arith)
epochs_rise g set t (suc u) below class =
    ⊎_elim
    (λ (less : t < suc u).
    let before = epochs_rise g set t u (omega (arith, less)) class in
    let here = epoch_up (state_at g u) (state_at g (suc u)) class (course_turns g set u class) in
    omega (arith, before, here))
    (λ (more : suc u ≤ t). let same : t ≡ suc u = omega (arith, below, more) in subst (λ (n : ℕ). epoch_at g n class ≤ epoch_at g (suc u) class) (sym same) (omega arith))
    (cases_lt t (suc u))

-- as long as the epoch is the same, so are the copies
copies_stay : (g : Setting) (set : IsGrantedSetting g) (t u : ℕ) (class : Class) → t ≤ u → epoch_at g t class ≡ epoch_at g u class → copies_at g t class ≡ copies_at g u class
copies_stay g set t zero class below e = let same : t ≡ zero = omega (arith, below) in ap (λ (n : ℕ). copies_at g n class) same
copies_stay g set t (suc u) class below e =
    ⊎_elim
    (λ (less : t < suc u).
    let before = epochs_rise g set t u (omega (arith, less)) class in
    let here = epoch_up (state_at g u) (state_at g (suc u)) class (course_turns g set u class) in
    let level : epoch_at g t class ≡ epoch_at g u class = omega (arith, before, here, e) in
    copies_stay g set t u class (omega (arith, less)) level
    ∙ by_turn (course_turns g set u class) (omega (arith, level, e)))
    (λ (more : suc u ≤ t). let same : t ≡ suc u = omega (arith, below, more) in ap (λ (n : ℕ). copies_at g n class) same)
    (cases_lt t (suc u))
  where
    by_turn : Turns (state_at g u) (state_at g (suc u)) class → epoch_at g u class ≡ epoch_at g (suc u) class → copies_at g u class ≡ copies_at g (suc u) class
    by_turn (same_epoch a c) level = sym c
    by_turn (new_epoch a) level = absurd (omega (arith, a, level))

-- points of one epoch have one copy
pub one_epoch_one_copy : OneEpochOneCopy
one_epoch_one_copy g set t u class e =
    ⊎_elim
    (λ (less : t < u). copies_stay g set t u class (omega (arith, less)) e)
    (λ (more : u ≤ t). sym (copies_stay g set u t class more (sym e)))
    (cases_lt t u)

-- neither count is lower
record AtLeast (a b : Passed) : Type 0 where
  syncs : a.syncs ≤ b.syncs
  instances : a.instances ≤ b.instances

-- what comes next counts upwards
task_up : (g : Setting) (task : Task) (x : Passed) → AtLeast x (with_task g task x)
task_up g next.Pardo x = record { syncs = omega arith; instances = omega arith }
task_up g (next.Statement line form rest) x = by_asks (asked g form)
  where
    by_asks : (a : Asks) → AtLeast x (with_asked a x)
    by_asks (Sync class) = record { syncs = omega arith; instances = omega arith }
    by_asks (Collect into from) = record { syncs = omega arith; instances = omega arith }
    by_asks Local = record { syncs = omega arith; instances = omega arith }
    by_asks (Operands blocks) = record { syncs = omega arith; instances = omega arith }
    by_asks (Get block) = record { syncs = omega arith; instances = omega arith }
    by_asks (Put block how from) = record { syncs = omega arith; instances = omega arith }
task_up g next.Over x = record { syncs = omega arith; instances = omega arith }
task_up g next.Control x = record { syncs = omega arith; instances = omega arith }
task_up g next.End x = record { syncs = omega arith; instances = omega arith }

-- so does each step
step_up : (g : Setting) (task : Task) (led_to : Stepped) (x : Passed) → AtLeast x (if_moved g task led_to x)
step_up g task (Moved w) x = task_up g task x
step_up g task (Halted trap s) x = record { syncs = omega arith; instances = omega arith }
step_up g task Ended x = record { syncs = omega arith; instances = omega arith }

-- no count falls
pub counts_rise : CountsRise
counts_rise g t zero below = let same : t ≡ zero = omega (arith, below) in subst (λ (n : ℕ). ((passed g n).syncs ≤ (passed g zero).syncs) × ((passed g n).instances ≤ (passed g zero).instances)) (sym same) (omega arith, omega arith)
counts_rise g t (suc u) below =
    ⊎_elim
    (λ (less : t < suc u).
    let before = counts_rise g t u (omega (arith, less)) in
    let here = step_up g (next_of (course g u).work.rest) (step Copied g (course g u).work) (passed g u) in
    let syncs = here.syncs in
    let instances = here.instances in
    let s0 = before.0 in
    let i0 = before.1 in
    (omega (arith, s0, syncs), omega (arith, i0, instances)))
    (λ (more : suc u ≤ t).
    let same : t ≡ suc u = omega (arith, below, more) in
    subst (λ (n : ℕ). ((passed g n).syncs ≤ (passed g (suc u)).syncs) × ((passed g n).instances ≤ (passed g (suc u)).instances)) (sym same) (omega arith, omega arith))
    (cases_lt t (suc u))

-- the same epochs and copies
abbrev SameEpochs : State → State → Type 0
SameEpochs s t = (s.epochs ≡ t.epochs) × (s.copies ≡ t.copies)

-- as long as no sync point is passed
epochs_stay : (g : Setting) (set : IsGrantedSetting g) (t u : ℕ) → t ≤ u → (passed g t).syncs ≡ (passed g u).syncs → SameEpochs (state_at g t) (state_at g u)
epochs_stay g set t zero below e = let same : t ≡ zero = omega (arith, below) in (ap (λ (n : ℕ). (state_at g n).epochs) same, ap (λ (n : ℕ). (state_at g n).copies) same)
epochs_stay g set t (suc u) below e =
    ⊎_elim
    (λ (less : t < suc u).
    let before = (counts_rise g t u (omega (arith, less))).0 in
    let here = (counts_rise g u (suc u) (omega arith)).0 in
    let level : (passed g t).syncs ≡ (passed g u).syncs = omega (arith, before, here, e) in
    let start = epochs_stay g set t u (omega (arith, less)) level in
    let last = by_move (course_moves g set u) (omega (arith, level, e)) in
    (start.0 ∙ last.0, start.1 ∙ last.1))
    (λ (more : suc u ≤ t).
    let same : t ≡ suc u = omega (arith, below, more) in (ap (λ (n : ℕ). (state_at g n).epochs) same, ap (λ (n : ℕ). (state_at g n).copies) same))
    (cases_lt t (suc u))
  where
    by_move : Moves ((passed g (suc u)).syncs ≡ (passed g u).syncs + 1) (deeds_at g u) (state_at g u) (state_at g (suc u)) → (passed g u).syncs ≡ (passed g (suc u)).syncs → SameEpochs (state_at g u) (state_at g (suc u))
    by_move (stays e c b) level = (sym e, sym c)
    by_move (ends class p none e c b) level = absurd (omega (arith, p, level))

-- points with as many sync points before them have the same epochs and copies
pub syncs_say_epochs : SyncsSayEpochs
syncs_say_epochs g set t u e =
    ⊎_elim
    (λ (less : t < u). epochs_stay g set t u (omega (arith, less)) e)
    (λ (more : u ≤ t). let r = epochs_stay g set u t more (sym e) in (sym r.0, sym r.1))
    (cases_lt t u)

-- a step stays, or counts one more
abbrev StaysOrCounts : Setting → Point → Point → Type 0
StaysOrCounts g p q =
    (q ≡ p)
    ⊎ ((x : Passed) → x.syncs + x.instances < (if_moved g (next_of p.work.rest) (step Copied g p.work) x).syncs + (if_moved g (next_of p.work.rest) (step Copied g p.work) x).instances)

-- no local statement is a meeting
no_meeting : (blocks : List BlockRef) → IsMeeting (local_or blocks) → ⊥
no_meeting [] m = m
no_meeting (b ∷ bs) m = m

-- a meeting counts
meeting_counts : (a : Asks) → IsMeeting a → (x : Passed) → x.syncs + x.instances < (with_asked a x).syncs + (with_asked a x).instances
meeting_counts (Sync class) m x = omega arith
meeting_counts (Collect into from) m x = omega arith
meeting_counts Local m x = absurd m
meeting_counts (Operands blocks) m x = absurd m
meeting_counts (Get block) m x = absurd m
meeting_counts (Put block how from) m x = absurd m

-- a statement at the head
statement_counts : (g : Setting) (line : ℕ) (form : Plain) (rest : Rest) (p : Point) (o : Outcome) → IsMeeting (asked g form)
    → (stepped p (done o rest) ≡ p) ⊎ ((x : Passed) → x.syncs + x.instances < (if_moved g (next.Statement line form rest) (done o rest) x).syncs + (if_moved g (next.Statement line form rest) (done o rest) x).instances)
statement_counts g line form rest p (Went t) m = inr (meeting_counts (asked g form) m)
statement_counts g line form rest p (Stopped trap t) m = inl refl

-- a pardo or a sync point
counted_or_stays : (g : Setting) (p : Point) (r : Rest) → p.work.rest ≡ r → IsCounted g (next_of r) → StaysOrCounts g p (next_point g p)
counted_or_stays g p r e c = subst (λ (q : Point). StaysOrCounts g q (next_point g q)) (sym (point_is e)) (by_rest r c)
  where
    at_rest : Rest → Point
    at_rest r = record { work = record { rest = r; state = p.work.state }; traps = p.traps }

    point_is : p.work.rest ≡ r → p ≡ at_rest r
    point_is e = ap (λ (x : Rest). record { work = record { rest = x; state = p.work.state }; traps = p.traps }) e

    by_rest : (r : Rest) → IsCounted g (next_of r) → StaysOrCounts g (record { work = record { rest = r; state = p.work.state }; traps = p.traps }) (next_point g (record { work = record { rest = r; state = p.work.state }; traps = p.traps }))
    by_rest (Over at) c = absurd c
    by_rest (Next at line (Do index body) rest) c = absurd c
    by_rest (Next at line (DoIn sub index body) rest) c = absurd c
    by_rest (Next at line (Pardo indices wheres body) rest) c = inr (λ x. omega arith)
    by_rest (Next at line (If test body) rest) c = absurd c
    by_rest (Next at line (IfElse test body other) rest) c = absurd c
    by_rest (Next at line (Call procedure) rest) c = absurd c
    by_rest (Next at line (Assign target op right) rest) c = absurd (no_meeting (shared_in g right) c)
    by_rest (Next at line form rest) c =
        statement_counts g line form rest (record { work = record { rest = Next at line form rest; state = p.work.state }; traps = p.traps }) (statement Copied g line form p.work.state) c
    by_rest (Turn loop last rest) c = absurd c
    by_rest (Join at rest) c = absurd c
    by_rest (Back at values rest) c = absurd c
    by_rest (Within pardo number rest) c = absurd c

-- a point at which the course stays is all that follows
stays_there : (g : Setting) (t : ℕ) → course g (suc t) ≡ course g t → (n : ℕ) → course g (t + n) ≡ course g t
stays_there g t e zero = let none : ◌≡◌ {A = ℕ} (t + 0) t = omega arith in ap (course g) none
stays_there g t e (suc n) = let one : t + suc n ≡ suc (t + n) = omega arith in ap (course g) one ∙ (ap (next_point g) (stays_there g t e n) ∙ e)

-- one of two points, the first of which isn't behind the other
one_point_up : (g : Setting) (t u : ℕ) → t ≤ u → IsCounted g (next_of (course g t).work.rest) → passed g t ≡ passed g u → course g t ≡ course g u
one_point_up g t u below c e =
    ⊎_elim
    (λ (less : t < u).
    ⊎_elim
    (λ (there : course g (suc t) ≡ course g t).
    let apart : u ≡ t + (u - t) = omega (arith, below) in sym (ap (course g) apart ∙ stays_there g t there (u - t)))
    (λ (more : (x : Passed) → x.syncs + x.instances < (if_moved g (next_of (course g t).work.rest) (step Copied g (course g t).work) x).syncs + (if_moved g (next_of (course g t).work.rest) (step Copied g (course g t).work) x).instances).
    let now : (passed g t).syncs + (passed g t).instances < (passed g (suc t)).syncs + (passed g (suc t)).instances = more (passed g t) in
    let later = counts_rise g (suc t) u (omega (arith, less)) in
    let s0 = later.0 in
    let i0 = later.1 in
    let s1 = ap (λ (x : Passed). x.syncs) e in
    let i1 = ap (λ (x : Passed). x.instances) e in
    absurd (omega (arith, now, s0, i0, s1, i1)))
    (counted_or_stays g (course g t) (course g t).work.rest refl c))
    (λ (more : u ≤ t). let same : t ≡ u = omega (arith, below, more) in ap (course g) same)
    (cases_lt t u)

-- two points with the same counts are one
pub same_counts_one_point : SameCountsOnePoint
same_counts_one_point g t u c d e =
    ⊎_elim
    (λ (less : t < u). one_point_up g t u (omega (arith, less)) c e)
    (λ (more : u ≤ t). sym (one_point_up g u t more d (sym e)))
    (cases_lt t u)
