-- Laws along the course: epochs, copies, blocks, and what was passed.
use Rattle.std.specs.Prelude.{◌≡◌, ℕ, ◌≤◌, List, [], ◌∷◌, length, ◌==◌, ◌&&◌, if◌then◌else◌}
use Rattle.std.specs.List.{Contains}
use Rattle.sial_syntax.specs.declared.access.Class.{Class}
use Rattle.sial_syntax.specs.Spaces.{same_class}
use Rattle.sial_meaning.specs.Access.{Touch}
use Rattle.sial_meaning.specs.Course.{course}
use Rattle.sial_meaning.specs.CourseDeeds.{deeds_at, deeds_before}
use Rattle.sial_meaning.specs.Deeds.{Deed, Reads, Writes, Adds, Traps, touches, written}
use Rattle.sial_meaning.specs.Next as next
use Rattle.sial_meaning.specs.Next.{Task, next_of, Asks, Local, Operands, Get, Put, Sync, Collect, asked}
use Rattle.sial_meaning.specs.NumberStates.{HasNumbers}
use Rattle.sial_meaning.specs.Passed.{passed}
use Rattle.sial_meaning.specs.Setting.{Setting}
use Rattle.sial_meaning.specs.Sound.{IsGrantedSetting, IsSound}
use Rattle.sial_meaning.specs.State.{State, blocks_of_class, shared_block, epoch_of}
use Rattle.sial_meaning.specs.WholeStates.{IsWhole}

-- the state of a point of the course
abbrev pub state_at : Setting → ℕ → State
state_at g t = (course g t).work.state

-- the epoch of a class at a point
abbrev pub epoch_at : Setting → ℕ → Class → ℕ
epoch_at g t class = epoch_of (state_at g t).epochs class

-- the copies of a class at a point
abbrev pub copies_at : Setting → ℕ → Class → List (List ℕ)
copies_at g t class = blocks_of_class (state_at g t).copies class

-- the blocks of a class at a point
abbrev pub blocks_at : Setting → ℕ → Class → List (List ℕ)
blocks_at g t class = blocks_of_class (state_at g t).shared class

-- epochs never fall
abbrev pub EpochsRise : Type 0
EpochsRise = (g : Setting) → IsGrantedSetting g → (t u : ℕ) → t ≤ u → (class : Class) → epoch_at g t class ≤ epoch_at g u class

-- points of one epoch have one copy
abbrev pub OneEpochOneCopy : Type 0
OneEpochOneCopy = (g : Setting) → IsGrantedSetting g → (t u : ℕ) (class : Class) → epoch_at g t class ≡ epoch_at g u class → copies_at g t class ≡ copies_at g u class

-- the accesses of a step, a whole pardo's too, are in the epochs of its point
abbrev pub StepsTouchInTheirEpochs : Type 0
StepsTouchInTheirEpochs = (g : Setting) (t : ℕ) (touch : Touch) → Contains (touches (deeds_at g t)) touch → touch.epoch ≡ epoch_at g t touch.class

-- the writes to blocks of a class in an epoch
abbrev pub writes_in : Class → (epoch : ℕ) → List Deed → List Deed
writes_in class epoch [] = []
writes_in class epoch (Reads touch ∷ more) = writes_in class epoch more
writes_in class epoch (Writes touch words ∷ more) =
    if same_class touch.class class && (touch.epoch == epoch) then Writes touch words ∷ writes_in class epoch more else writes_in class epoch more
writes_in class epoch (Adds scalar number ∷ more) = writes_in class epoch more
writes_in class epoch (Traps trap ∷ more) = writes_in class epoch more

-- the blocks of a class are its copies with the writes of the present epoch
abbrev pub BlocksAreCopiesWritten : Type 0
BlocksAreCopiesWritten =
    (g : Setting) → IsGrantedSetting g
    → (t : ℕ) (class : Class)
    → blocks_at g t class ≡ blocks_of_class (written (writes_in class (epoch_at g t class) (deeds_before g t)) (state_at g t).copies) class

-- no count falls
abbrev pub CountsRise : Type 0
CountsRise = (g : Setting) (t u : ℕ) → t ≤ u → ((passed g t).syncs ≤ (passed g u).syncs) × ((passed g t).instances ≤ (passed g u).instances)

-- points with as many sync points before them have the same epochs and the same copies
abbrev pub SyncsSayEpochs : Type 0
SyncsSayEpochs =
    (g : Setting) → IsGrantedSetting g
    → (t u : ℕ) → (passed g t).syncs ≡ (passed g u).syncs
    → ((state_at g t).epochs ≡ (state_at g u).epochs) × ((state_at g t).copies ≡ (state_at g u).copies)

-- a statement asks for a meeting of all workers
abbrev pub IsMeeting : Asks → Type 0
IsMeeting (Sync class) = Unit {0}
IsMeeting (Collect into from) = Unit {0}
IsMeeting Local = ⊥
IsMeeting (Operands blocks) = ⊥
IsMeeting (Get block) = ⊥
IsMeeting (Put block how from) = ⊥

-- a pardo or a sync point comes next
abbrev pub IsCounted : Setting → Task → Type 0
IsCounted g next.Pardo = Unit {0}
IsCounted g (next.Statement line form rest) = IsMeeting (asked g form)
IsCounted g next.Over = ⊥
IsCounted g next.Control = ⊥
IsCounted g next.End = ⊥

-- two points, each at a pardo or a sync point, before which as many sync points and pardos were passed, are one
abbrev pub SameCountsOnePoint : Type 0
SameCountsOnePoint =
    (g : Setting) (t u : ℕ)
    → IsCounted g (next_of (course g t).work.rest) → IsCounted g (next_of (course g u).work.rest) → passed g t ≡ passed g u → course g t ≡ course g u

-- each point's state is whole, behind noted traps too
abbrev pub PointsAreWhole : Type 0
PointsAreWhole = (g : Setting) → IsSound g → (t : ℕ) → IsWhole g (state_at g t)

-- and its numbers are below 2^64
abbrev pub PointsHaveNumbers : Type 0
PointsHaveNumbers = (g : Setting) → IsSound g → (t : ℕ) → HasNumbers (state_at g t)

-- each write of a step has as many elements as its block
abbrev pub WritesFit : Type 0
WritesFit =
    (g : Setting) → IsSound g
    → (t : ℕ) (touch : Touch) (words : List ℕ) → Contains (deeds_at g t) (Writes touch words)
    → length words ≡ length (shared_block (state_at g t).shared touch.class touch.block)

-- each write of the present epoch of a class has as many elements as the copy of its block
abbrev pub EpochWritesFit : Type 0
EpochWritesFit =
    (g : Setting) → IsSound g
    → (t : ℕ) (class : Class) (touch : Touch) (words : List ℕ) → Contains (writes_in class (epoch_at g t class) (deeds_before g t)) (Writes touch words)
    → length words ≡ length (shared_block (state_at g t).copies touch.class touch.block)
