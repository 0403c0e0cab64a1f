-- Deeds along the course are in the epochs of their points, and make the blocks of the copies.
use Rattle.std.proofs.Common.{◌≡◌, ℕ, zero, suc, ◌+◌, ◌<◌, ◌≤◌, List, [], ◌∷◌, ◌++◌, flat_map, length, get_or, set, Bool, true, false, ◌&&◌, eqb, if◌then◌else◌, refl, sym, ap, ◌∙◌, subst, arith, eqb-true, append-nil}
use Rattle.std.proofs.lemmas.Bool.{and_parts, eq-eqb}
use Rattle.sial_syntax.specs.declared.access.Class.{Class}
use Rattle.sial_syntax.specs.declared.access.Class.TheVariants.{Distributed, Served}
use Rattle.sial_syntax.specs.Boxes.{numbers_from, volume, tuple_at}
use Rattle.sial_syntax.specs.Spaces.{same_class, box_of}
use Rattle.sial_syntax.specs.Tree.{Pardo}
use Rattle.sial_meaning.specs.Access.{Touch}
use Rattle.sial_meaning.specs.AlongLaws.{state_at, epoch_at, blocks_at, writes_in, StepsTouchInTheirEpochs, BlocksAreCopiesWritten}
use Rattle.sial_meaning.specs.Control.{depth_left}
use Rattle.sial_meaning.specs.Course.{course}
use Rattle.sial_meaning.specs.CourseDeeds.{deeds_if_passed, iteration_deeds, deeds_from, deeds_at, deeds_before}
use Rattle.sial_meaning.specs.Deeds.{Deed, Reads, Writes, Adds, Traps, touches, write_to, written}
use Rattle.sial_meaning.specs.Meaning.{taken_up}
use Rattle.sial_meaning.specs.Own.{unset}
use Rattle.sial_meaning.specs.Passed.{passed}
use Rattle.sial_meaning.specs.Ran.{View, view_of, Ran, Through, Broke, deeds_of, statement_ran, iteration_ran}
use Rattle.sial_meaning.specs.Rest.{Rest, Over, Next, Turn, Join, Back, Within}
use Rattle.sial_meaning.specs.Setting.{Setting}
use Rattle.sial_meaning.specs.Sound.{IsGrantedSetting}
use Rattle.sial_meaning.specs.State.{Shared, State, blocks_of_class, with_class, accessed_words, epoch_of}
use Rattle.sial_meaning.proofs.EpochsAlongTheCourse.Points.{class_here, class_other, next_here, next_other, epochs_rise}
use Rattle.sial_meaning.proofs.EpochsAlongTheCourse.Steps.{Moves, stays, ends, course_moves}
use Rattle.sial_meaning.proofs.IterationsAreTheirDeeds.Deeds.{written_append}
use Rattle.sial_meaning.proofs.AcceptedInOtherWords.Pairs.{class-is}
use Rattle.sial_meaning.proofs.IterationsAreTheirDeeds.EachDeed.{Each, each_append, EachBefore, each_statement, each_iteration}

-- of all deeds, the trap with them
pub each_of : (P : Deed → Type 0) (x : Ran) → ((trap : _) → P (Traps trap)) → EachBefore P x → Each P (deeds_of x)
each_of P (Through before own) t e = e
each_of P (Broke before trap own) t e = each_append P before (Traps trap ∷ []) e (t trap, tt)

-- of those that are passed
pub each_passed : (P : Deed → Type 0) (x : Ran) → EachBefore P x → Each P (deeds_if_passed x)
each_passed P (Through before own) e = e
each_passed P (Broke before trap own) e = tt

-- of the deeds of each number
each_flat : (P : Deed → Type 0) (f : ℕ → List Deed) (ns : List ℕ) → ((n : ℕ) → Each P (f n)) → Each P (flat_map f ns)
each_flat P f [] h = tt
each_flat P f (n ∷ ns) h = each_append P (f n) (flat_map f ns) (h n) (each_flat P f ns h)

-- what holds of each deed holds in another way
each_with : (P Q : Deed → Type 0) (ds : List Deed) → ((d : Deed) → P d → Q d) → Each P ds → Each Q ds
each_with P Q [] h e = tt
each_with P Q (d ∷ ds) h e = (h d e.0, each_with P Q ds h e.1)

-- an access of a deed is so
abbrev OfTouch : (Touch → Type 0) → Deed → Type 0
OfTouch P (Reads t) = P t
OfTouch P (Writes t words) = P t
OfTouch P (Adds s n) = Unit {0}
OfTouch P (Traps t) = Unit {0}

-- an access is in the epoch that is seen
abbrev InView : View → Touch → Type 0
InView v t = t.epoch ≡ epoch_of v.epochs t.class

-- the accesses of a step are in the epochs of its state
from_in_view : (g : Setting) (s : State) (r : Rest) → Each (OfTouch (InView (view_of s))) (deeds_from g s r)
from_in_view g s (Next at line (Pardo indices wheres body) rest) =
    each_flat
    (OfTouch (InView (view_of s)))
    (iteration_deeds g s indices wheres body rest)
    (numbers_from 0 (volume (box_of g.spaces indices)))
    (λ n.
    let own = taken_up g indices (tuple_at (box_of g.spaces indices) n) (unset g s.own) in
    each_of
    (OfTouch (InView (view_of s)))
    (iteration_ran g (view_of s) (depth_left rest) wheres body own)
    (λ t. tt)
    (each_iteration g (view_of s) (OfTouch (InView (view_of s))) (λ p l. refl) (λ q m. tt) (λ p h l w. refl) (depth_left rest) wheres body own))
from_in_view g s (Next at line form rest) =
    each_passed
    (OfTouch (InView (view_of s)))
    (statement_ran g (view_of s) line form s.own)
    (each_statement g (view_of s) (OfTouch (InView (view_of s))) (λ p l. refl) (λ q m. tt) (λ p h l w. refl) line form s.own)
from_in_view g s (Over at) = tt
from_in_view g s (Turn loop last rest) = tt
from_in_view g s (Join at rest) = tt
from_in_view g s (Back at values rest) = tt
from_in_view g s (Within pardo number rest) = tt

-- each access of some deeds
touch_of_each : (P : Touch → Type 0) (ds : List Deed) → Each (OfTouch P) ds → (k : ℕ) (d : Touch) → k < length (touches ds) → P (get_or (touches ds) k d)
touch_of_each P [] e k d below = absurd (omega (arith, below))
touch_of_each P (Reads t ∷ ds) e zero d below = e.0
touch_of_each P (Reads t ∷ ds) e (suc k) d below = touch_of_each P ds e.1 k d (omega (arith, below))
touch_of_each P (Writes t words ∷ ds) e zero d below = e.0
touch_of_each P (Writes t words ∷ ds) e (suc k) d below = touch_of_each P ds e.1 k d (omega (arith, below))
touch_of_each P (Adds s n ∷ ds) e k d below = touch_of_each P ds e.1 k d below
touch_of_each P (Traps t ∷ ds) e k d below = touch_of_each P ds e.1 k d below

-- the accesses of a step are in the epochs of its point
pub steps_touch_in_epochs : StepsTouchInTheirEpochs
steps_touch_in_epochs g t touch (k, below, is) =
    subst
    (λ (x : Touch). x.epoch ≡ epoch_at g t x.class)
    is
    (touch_of_each (InView (view_of (state_at g t))) (deeds_at g t) (from_in_view g (state_at g t) (course g t).work.rest) k touch below)

-- an access is in no later epoch than this one
abbrev UpTo : Setting → ℕ → Touch → Type 0
UpTo g t touch = touch.epoch ≤ epoch_at g t touch.class

-- the accesses before a point are in no later epochs
before_up_to : (g : Setting) (set : IsGrantedSetting g) (t : ℕ) → Each (OfTouch (UpTo g t)) (deeds_before g t)
before_up_to g set zero = tt
before_up_to g set (suc t) =
    let up : (touch : Touch) → epoch_at g t touch.class ≤ epoch_at g (suc t) touch.class = λ touch. epochs_rise g set t (suc t) (omega arith) touch.class in
    each_append
    (OfTouch (UpTo g (suc t)))
    (deeds_before g t)
    (deeds_at g t)
    (each_with
    (OfTouch (UpTo g t))
    (OfTouch (UpTo g (suc t)))
    (deeds_before g t)
    (λ d. later up d)
    (before_up_to g set t))
    (each_with (OfTouch (InView (view_of (state_at g t)))) (OfTouch (UpTo g (suc t))) (deeds_at g t) (λ d. now up d) (from_in_view g (state_at g t) (course g t).work.rest))
  where
    later : ((touch : Touch) → epoch_at g t touch.class ≤ epoch_at g (suc t) touch.class) → (d : Deed) → OfTouch (UpTo g t) d → OfTouch (UpTo g (suc t)) d
    later up (Reads touch) e = let more = up touch in omega (arith, e, more)
    later up (Writes touch words) e = let more = up touch in omega (arith, e, more)
    later up (Adds s n) e = tt
    later up (Traps trap) e = tt

    now : ((touch : Touch) → epoch_at g t touch.class ≤ epoch_at g (suc t) touch.class) → (d : Deed) → OfTouch (InView (view_of (state_at g t))) d → OfTouch (UpTo g (suc t)) d
    now up (Reads touch) e = let more = up touch in omega (arith, e, more)
    now up (Writes touch words) e = let more = up touch in omega (arith, e, more)
    now up (Adds s n) e = tt
    now up (Traps trap) e = tt

module _ (class : Class) (epoch : ℕ) where
  -- an access is to this class in this epoch
  abbrev pub is_here : Touch → Bool
  is_here touch = same_class touch.class class && (eqb touch.epoch epoch)

  -- the writes of some deeds and others
  pub in_append : (a b : List Deed) → writes_in class epoch (a ++ b) ≡ writes_in class epoch a ++ writes_in class epoch b
  in_append [] b = refl
  in_append (Reads t ∷ ds) b = in_append ds b
  in_append (Adds s n ∷ ds) b = in_append ds b
  in_append (Traps t ∷ ds) b = in_append ds b
  in_append (Writes t words ∷ ds) b = by_test (is_here t) (in_append ds b)
    where
      by_test : (x : Bool) → writes_in class epoch (ds ++ b) ≡ writes_in class epoch ds ++ writes_in class epoch b
          → (if x then Writes t words ∷ writes_in class epoch (ds ++ b) else writes_in class epoch (ds ++ b)) ≡ (if x then Writes t words ∷ writes_in class epoch ds else writes_in class epoch ds) ++ writes_in class epoch b
      by_test true e = ap (λ xs. Writes t words ∷ xs) e
      by_test false e = e

  -- none of accesses to other classes or in other epochs
  in_none : (ds : List Deed) → Each (OfTouch (λ t. is_here t ≡ false)) ds → writes_in class epoch ds ≡ []
  in_none [] e = refl
  in_none (Reads t ∷ ds) e = in_none ds e.1
  in_none (Adds s n ∷ ds) e = in_none ds e.1
  in_none (Traps t ∷ ds) e = in_none ds e.1
  in_none (Writes t words ∷ ds) e = ap (λ x. if x then Writes t words ∷ writes_in class epoch ds else writes_in class epoch ds) e.0 ∙ in_none ds e.1

-- a write to another class
write_apart : (t : Touch) (words : List ℕ) (shared : Shared) (class : Class) → same_class t.class class ≡ false → blocks_of_class (write_to t words shared) class ≡ blocks_of_class shared class
write_apart t words shared class e = class_other shared t.class class _ e

-- a write to a class depends on the blocks of that class alone
write_alike : (t : Touch) (words : List ℕ) (a b : Shared) (class : Class) → same_class t.class class ≡ true → blocks_of_class a class ≡ blocks_of_class b class → blocks_of_class (write_to t words a) class ≡ blocks_of_class (write_to t words b) class
write_alike t words a b class e same = by_class t.class class e same
  where
    set_block : List (List ℕ) → List (List ℕ)
    set_block blocks = set blocks t.block (accessed_words t.kind (get_or blocks t.block []) words)

    by_class : (c d : Class) → same_class c d ≡ true → blocks_of_class a d ≡ blocks_of_class b d
        → blocks_of_class (with_class a c (set_block (blocks_of_class a c))) d ≡ blocks_of_class (with_class b c (set_block (blocks_of_class b c))) d
    by_class Distributed Distributed e same = ap set_block same
    by_class Distributed Served e same = absurd cc
    by_class Served Distributed e same = absurd cc
    by_class Served Served e same = ap set_block same

-- writes to a class depend on the blocks of that class alone, and those to other classes may be left out
in_alike : (class : Class) (v : View) (ds : List Deed) (a b : Shared) → Each (OfTouch (InView v)) ds → blocks_of_class a class ≡ blocks_of_class b class → blocks_of_class (written (writes_in class (epoch_of v.epochs class) ds) a) class ≡ blocks_of_class (written ds b) class
in_alike class v [] a b e same = same
in_alike class v (Reads t ∷ ds) a b e same = in_alike class v ds a b e.1 same
in_alike class v (Adds s n ∷ ds) a b e same = in_alike class v ds a b e.1 same
in_alike class v (Traps t ∷ ds) a b e same = in_alike class v ds a b e.1 same
in_alike class v (Writes t words ∷ ds) a b e same = by_class (same_class t.class class) refl (in_alike class v ds)
  where
    by_class : (x : Bool) → same_class t.class class ≡ x
        → ((a b : Shared) → Each (OfTouch (InView v)) ds → blocks_of_class a class ≡ blocks_of_class b class → blocks_of_class (written (writes_in class (epoch_of v.epochs class) ds) a) class ≡ blocks_of_class (written ds b) class)
        → blocks_of_class (written (if same_class t.class class && (eqb t.epoch (epoch_of v.epochs class)) then Writes t words ∷ writes_in class (epoch_of v.epochs class) ds else writes_in class (epoch_of v.epochs class) ds) a) class ≡ blocks_of_class (written ds (write_to t words b)) class
    by_class true is more =
        let here : eqb t.epoch (epoch_of v.epochs class) ≡ true = eq-eqb t.epoch (epoch_of v.epochs class) (e.0 ∙ ap (epoch_of v.epochs) (class-is t.class class is)) in
        ap (λ x. blocks_of_class (written (if x && (eqb t.epoch (epoch_of v.epochs class)) then Writes t words ∷ writes_in class (epoch_of v.epochs class) ds else writes_in class (epoch_of v.epochs class) ds) a) class) is
        ∙ (ap (λ x. blocks_of_class (written (if x then Writes t words ∷ writes_in class (epoch_of v.epochs class) ds else writes_in class (epoch_of v.epochs class) ds) a) class) here
        ∙ more (write_to t words a) (write_to t words b) e.1 (write_alike t words a b class is same))
    by_class false is more =
        ap (λ x. blocks_of_class (written (if x && (eqb t.epoch (epoch_of v.epochs class)) then Writes t words ∷ writes_in class (epoch_of v.epochs class) ds else writes_in class (epoch_of v.epochs class) ds) a) class) is
        ∙ more a (write_to t words b) e.1 (same ∙ sym (write_apart t words b class is))

-- so do the writes to it in any epoch
in_class : (class : Class) (epoch : ℕ) (ds : List Deed) (a b : Shared) → blocks_of_class a class ≡ blocks_of_class b class → blocks_of_class (written (writes_in class epoch ds) a) class ≡ blocks_of_class (written (writes_in class epoch ds) b) class
in_class class epoch [] a b same = same
in_class class epoch (Reads t ∷ ds) a b same = in_class class epoch ds a b same
in_class class epoch (Adds s n ∷ ds) a b same = in_class class epoch ds a b same
in_class class epoch (Traps t ∷ ds) a b same = in_class class epoch ds a b same
in_class class epoch (Writes t words ∷ ds) a b same = by_test (is_here class epoch t) refl (in_class class epoch ds)
  where
    by_test : (x : Bool) → is_here class epoch t ≡ x
        → ((a b : Shared) → blocks_of_class a class ≡ blocks_of_class b class → blocks_of_class (written (writes_in class epoch ds) a) class ≡ blocks_of_class (written (writes_in class epoch ds) b) class)
        → blocks_of_class (written (if x then Writes t words ∷ writes_in class epoch ds else writes_in class epoch ds) a) class ≡ blocks_of_class (written (if x then Writes t words ∷ writes_in class epoch ds else writes_in class epoch ds) b) class
    by_test true is more = more (write_to t words a) (write_to t words b) (write_alike t words a b class (and_parts (same_class t.class class) (eqb t.epoch epoch) is).0 same)
    by_test false is more = more a b same

-- different numbers
unequal : (a b : ℕ) → (a ≡ b → ⊥) → eqb a b ≡ false
unequal a b apart = by_test (eqb a b) refl
  where
    by_test : (x : Bool) → eqb a b ≡ x → x ≡ false
    by_test true is = absurd (apart (eqb-true a b is))
    by_test false is = refl

-- an access in no later epoch isn't in the next
not_next : (class : Class) (e : Class → ℕ) (touch : Touch) → touch.epoch ≤ e touch.class → is_here class (e class + 1) touch ≡ false
not_next class e touch low = by_test (same_class touch.class class) refl
  where
    by_test : (x : Bool) → same_class touch.class class ≡ x → (x && (eqb touch.epoch (e class + 1))) ≡ false
    by_test true is = let same : e touch.class ≡ e class = ap e (class-is touch.class class is) in unequal touch.epoch (e class + 1) (λ equal. absurd (omega (arith, low, same, equal)))
    by_test false is = refl

-- no write before a point or in its step is in the next epoch
pub none_yet : (g : Setting) (set : IsGrantedSetting g) (class : Class) (t : ℕ) → writes_in class (epoch_at g t class + 1) (deeds_before g t ++ deeds_at g t) ≡ []
none_yet g set class t =
    in_none
    class
    (epoch_at g t class + 1)
    (deeds_before g t ++ deeds_at g t)
    (each_append
    (OfTouch Later)
    (deeds_before g t)
    (deeds_at g t)
    (each_with (OfTouch (UpTo g t)) (OfTouch Later) (deeds_before g t) past (before_up_to g set t))
    (each_with (OfTouch (InView (view_of (state_at g t)))) (OfTouch Later) (deeds_at g t) now (from_in_view g (state_at g t) (course g t).work.rest)))
  where
    Later : Touch → Type 0
    Later touch = is_here class (epoch_at g t class + 1) touch ≡ false

    past : (d : Deed) → OfTouch (UpTo g t) d → OfTouch Later d
    past (Reads touch) low = not_next class (epoch_at g t) touch low
    past (Writes touch words) low = not_next class (epoch_at g t) touch low
    past (Adds s n) low = tt
    past (Traps trap) low = tt

    now : (d : Deed) → OfTouch (InView (view_of (state_at g t))) d → OfTouch Later d
    now (Reads touch) at = not_next class (epoch_at g t) touch (omega (arith, at))
    now (Writes touch words) at = not_next class (epoch_at g t) touch (omega (arith, at))
    now (Adds s n) at = tt
    now (Traps trap) at = tt

module _ (g : Setting) (set : IsGrantedSetting g) (class : Class) where
  -- the blocks by the deeds before a point, from these copies, in this epoch
  abbrev made : (epoch : ℕ) → List Deed → Shared → List (List ℕ)
  made epoch ds copies = blocks_of_class (written (writes_in class epoch ds) copies) class

  -- a step that ends no epoch
  made_more : (t : ℕ) (e1 : ℕ) (copies : Shared) (shared : Shared) → e1 ≡ epoch_at g t class → copies ≡ (state_at g t).copies → shared ≡ written (deeds_at g t) (state_at g t).shared
      → blocks_at g t class ≡ made (epoch_at g t class) (deeds_before g t) (state_at g t).copies → blocks_of_class shared class ≡ made e1 (deeds_before g t ++ deeds_at g t) copies
  made_more t e1 copies shared e c b before =
      let s : State = state_at g t in
      let epoch : ℕ = epoch_at g t class in
      let first : List Deed = writes_in class epoch (deeds_before g t) in
      let last : List Deed = writes_in class epoch (deeds_at g t) in
      ap (λ x. blocks_of_class x class) b
      ∙ (sym (in_alike class (view_of s) (deeds_at g t) (written first s.copies) s.shared (from_in_view g s (course g t).work.rest) (sym before))
      ∙ (ap (λ x. blocks_of_class x class) (sym (written_append first last s.copies))
      ∙ (ap (λ ds. blocks_of_class (written ds s.copies) class) (sym (in_append class epoch (deeds_before g t) (deeds_at g t)))
      ∙ (ap (λ n. made n (deeds_before g t ++ deeds_at g t) s.copies) (sym e) ∙ ap (made e1 (deeds_before g t ++ deeds_at g t)) (sym c)))))

  -- each point
  pub blocks_are : (t : ℕ) → blocks_at g t class ≡ made (epoch_at g t class) (deeds_before g t) (state_at g t).copies
  blocks_are zero = by_class class
    where
      by_class : (c : Class) → blocks_at g zero c ≡ blocks_of_class (state_at g zero).copies c
      by_class Distributed = refl
      by_class Served = refl
  blocks_are (suc t) = by_move (course_moves g set t) (blocks_are t)
    where
      by_move : Moves ((passed g (suc t)).syncs ≡ (passed g t).syncs + 1) (deeds_at g t) (state_at g t) (state_at g (suc t)) → blocks_at g t class ≡ made (epoch_at g t class) (deeds_before g t) (state_at g t).copies
          → blocks_at g (suc t) class ≡ made (epoch_at g (suc t) class) (deeds_before g t ++ deeds_at g t) (state_at g (suc t)).copies
      by_move (stays e c b) before = made_more t (epoch_at g (suc t) class) (state_at g (suc t)).copies (state_at g (suc t)).shared (ap (λ e. epoch_of e class) e) c b before
      by_move (ends other p none e c b) before = by_test (same_class other class) refl
        where
          by_test : (x : Bool) → same_class other class ≡ x → blocks_at g (suc t) class ≡ made (epoch_at g (suc t) class) (deeds_before g t ++ deeds_at g t) (state_at g (suc t)).copies
          by_test true is =
              let later : epoch_at g (suc t) class ≡ epoch_at g t class + 1 = ap (λ e. epoch_of e class) e ∙ next_here (state_at g t).epochs other class is in
              sym
              (ap (λ n. made n (deeds_before g t ++ deeds_at g t) (state_at g (suc t)).copies) later
              ∙ (ap (λ ds. blocks_of_class (written ds (state_at g (suc t)).copies) class) (none_yet g set class t)
              ∙ (ap (λ x. blocks_of_class x class) c ∙ class_here (state_at g t).copies other class (state_at g (suc t)).shared is)))
          by_test false is =
              let same : epoch_at g (suc t) class ≡ epoch_at g t class = ap (λ e. epoch_of e class) e ∙ next_other (state_at g t).epochs other class is in
              b class is
              ∙ (before
              ∙ (in_class class (epoch_at g t class) (deeds_before g t) (state_at g t).copies (state_at g (suc t)).copies (sym (ap (λ x. blocks_of_class x class) c ∙ class_other (state_at g t).copies other class _ is))
              ∙ (ap (λ ds. made (epoch_at g t class) ds (state_at g (suc t)).copies) (sym (ap (λ ds. deeds_before g t ++ ds) none ∙ append-nil (deeds_before g t)))
              ∙ ap (λ n. made n (deeds_before g t ++ deeds_at g t) (state_at g (suc t)).copies) (sym same))))

-- the blocks are the copies with the writes of the present epoch
pub blocks_are_copies_written : BlocksAreCopiesWritten
blocks_are_copies_written g set t class = blocks_are g set class t
