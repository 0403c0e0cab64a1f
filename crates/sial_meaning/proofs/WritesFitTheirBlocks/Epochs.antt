-- Each write of the present epoch has as many elements as the copy of its block.
use Rattle.std.proofs.Common.{◌≡◌, ℕ, zero, suc, ◌+◌, List, [], ◌∷◌, ◌++◌, length, get_or, Bool, true, false, eqb, if◌then◌else◌, refl, sym, ap, ◌∙◌, subst, append-nil}
use Rattle.std.proofs.lemmas.Bool.{and_parts}
use Rattle.sial_syntax.specs.declared.access.Class.{Class}
use Rattle.sial_syntax.specs.Spaces.{same_class}
use Rattle.sial_meaning.specs.AlongLaws.{state_at, epoch_at, writes_in, EpochWritesFit}
use Rattle.sial_meaning.specs.Course.{course}
use Rattle.sial_meaning.specs.CourseDeeds.{deeds_at, deeds_before}
use Rattle.sial_meaning.specs.Deeds.{Deed, Reads, Writes, Adds, Traps}
use Rattle.sial_meaning.specs.Passed.{passed}
use Rattle.sial_meaning.specs.Setting.{Setting}
use Rattle.sial_meaning.specs.Sound.{IsSound}
use Rattle.sial_meaning.specs.State.{Shared, blocks_of_class, shared_block, epoch_of}
use Rattle.sial_meaning.proofs.EpochsAlongTheCourse.Deeds.{is_here, in_append, none_yet, blocks_are}
use Rattle.sial_meaning.proofs.WritesFitTheirBlocks.Course.{each-at, from-fits}
use Rattle.sial_meaning.proofs.EpochsAlongTheCourse.Points.{class_other, next_here, next_other}
use Rattle.sial_meaning.proofs.EpochsAlongTheCourse.Steps.{Moves, stays, ends, course_moves}
use Rattle.sial_meaning.proofs.PointsAreWhole.Whole.{course-good}
use Rattle.sial_meaning.proofs.CourseFollowsTheFold.Fit.{course_fit}
use Rattle.sial_meaning.proofs.IterationsAreTheirDeeds.EachDeed.{Each, each_append}
use Rattle.sial_meaning.proofs.WritesFitTheirBlocks.Iterations.{Fits, written-keeps}
use Rattle.sial_meaning.proofs.AcceptedInOtherWords.Pairs.{class-is}

-- how many elements the blocks have
abbrev long_in : Shared → Class → ℕ → ℕ
long_in shared class block = length (shared_block shared class block)

-- writes of a class that fit some blocks fit others that are as long in that class
writes-alike : (class : Class) (epoch : ℕ) (a b : Shared) → ((block : ℕ) → long_in a class block ≡ long_in b class block) → (ds : List Deed) → Each (Fits (long_in a)) ds → Each (Fits (long_in b)) (writes_in class epoch ds)
writes-alike class epoch a b alike [] e = tt
writes-alike class epoch a b alike (Reads t ∷ ds) e = writes-alike class epoch a b alike ds e.1
writes-alike class epoch a b alike (Adds s n ∷ ds) e = writes-alike class epoch a b alike ds e.1
writes-alike class epoch a b alike (Traps t ∷ ds) e = writes-alike class epoch a b alike ds e.1
writes-alike class epoch a b alike (Writes t words ∷ ds) e = by_test (is_here class epoch t) refl (writes-alike class epoch a b alike ds e.1)
  where
    by_test : (x : Bool) → is_here class epoch t ≡ x → Each (Fits (long_in b)) (writes_in class epoch ds) → Each (Fits (long_in b)) (if x then Writes t words ∷ writes_in class epoch ds else writes_in class epoch ds)
    by_test true is rest =
        let same : t.class ≡ class = class-is t.class class (and_parts (same_class t.class class) (eqb t.epoch epoch) is).0 in
        (e.0 ∙ (ap (λ c. long_in a c t.block) same ∙ (alike t.block ∙ ap (λ c. long_in b c t.block) (sym same))), rest)
    by_test false is rest = rest

-- such writes again
again-alike : (class : Class) (epoch : ℕ) (a b : Shared) → ((block : ℕ) → long_in a class block ≡ long_in b class block) → (ds : List Deed) → Each (Fits (long_in a)) (writes_in class epoch ds) → Each (Fits (long_in b)) (writes_in class epoch ds)
again-alike class epoch a b alike [] e = tt
again-alike class epoch a b alike (Reads t ∷ ds) e = again-alike class epoch a b alike ds e
again-alike class epoch a b alike (Adds s n ∷ ds) e = again-alike class epoch a b alike ds e
again-alike class epoch a b alike (Traps t ∷ ds) e = again-alike class epoch a b alike ds e
again-alike class epoch a b alike (Writes t words ∷ ds) e = by_test (is_here class epoch t) refl e (again-alike class epoch a b alike ds)
  where
    by_test : (x : Bool) → is_here class epoch t ≡ x → Each (Fits (long_in a)) (if x then Writes t words ∷ writes_in class epoch ds else writes_in class epoch ds) → (Each (Fits (long_in a)) (writes_in class epoch ds) → Each (Fits (long_in b)) (writes_in class epoch ds))
        → Each (Fits (long_in b)) (if x then Writes t words ∷ writes_in class epoch ds else writes_in class epoch ds)
    by_test true is first more =
        let same : t.class ≡ class = class-is t.class class (and_parts (same_class t.class class) (eqb t.epoch epoch) is).0 in
        (first.0 ∙ (ap (λ c. long_in a c t.block) same ∙ (alike t.block ∙ ap (λ c. long_in b c t.block) (sym same))), more first.1)
    by_test false is first more = more first

module _ (g : Setting) (sound : IsSound g) (class : Class) where
  -- the writes of the present epoch
  abbrev now : ℕ → List Deed
  now t = writes_in class (epoch_at g t class) (deeds_before g t)

  -- they fit the copies
  abbrev FitAt : ℕ → Type 0
  FitAt t = Each (Fits (long_in (state_at g t).copies)) (now t)

  -- so the blocks are as long as the copies
  blocks-long : (t : ℕ) → FitAt t → (block : ℕ) → long_in (state_at g t).shared class block ≡ long_in (state_at g t).copies class block
  blocks-long t fits block =
      ap (λ (blocks : List (List ℕ)). length (get_or blocks block [])) (blocks_are g sound.setting class t)
      ∙ written-keeps (long_in (state_at g t).copies) (now t) (state_at g t).copies fits (λ c b. refl) class block

  -- each point
  fit-at : (t : ℕ) → FitAt t
  fit-at zero = tt
  fit-at (suc t) = by_move (course_moves g sound.setting t) (fit-at t)
    where
      by_move : Moves ((passed g (suc t)).syncs ≡ (passed g t).syncs + 1) (deeds_at g t) (state_at g t) (state_at g (suc t)) → FitAt t → Each (Fits (long_in (state_at g (suc t)).copies)) (writes_in class (epoch_at g (suc t) class) (deeds_before g t ++ deeds_at g t))
      by_move (stays e c b) fits =
          let same : epoch_at g (suc t) class ≡ epoch_at g t class = ap (λ e. epoch_of e class) e in
          subst
          (λ (n : ℕ). Each (Fits (long_in (state_at g (suc t)).copies)) (writes_in class n (deeds_before g t ++ deeds_at g t)))
          (sym same)
          (subst
          (λ (copies : Shared). Each (Fits (long_in copies)) (writes_in class (epoch_at g t class) (deeds_before g t ++ deeds_at g t)))
          (sym c)
          (subst
          (Each (Fits (long_in (state_at g t).copies)))
          (sym (in_append class (epoch_at g t class) (deeds_before g t) (deeds_at g t)))
          (each_append
          (Fits (long_in (state_at g t).copies))
          (now t)
          (writes_in class (epoch_at g t class) (deeds_at g t))
          fits
          (writes-alike
          class
          (epoch_at g t class)
          (state_at g t).shared
          (state_at g t).copies
          (blocks-long t fits)
          (deeds_at g t)
          (from-fits g sound (course g t).work.rest (course g t).work.state (course_fit g sound.setting t) (course-good g sound t))))))
      by_move (ends other p none e c b) fits = by_test (same_class other class) refl
        where
          by_test : (x : Bool) → same_class other class ≡ x → Each (Fits (long_in (state_at g (suc t)).copies)) (writes_in class (epoch_at g (suc t) class) (deeds_before g t ++ deeds_at g t))
          by_test true is =
              let later : epoch_at g (suc t) class ≡ epoch_at g t class + 1 = ap (λ e. epoch_of e class) e ∙ next_here (state_at g t).epochs other class is in
              subst
              (Each (Fits (long_in (state_at g (suc t)).copies)))
              (sym (ap (λ n. writes_in class n (deeds_before g t ++ deeds_at g t)) later ∙ none_yet g sound.setting class t))
              tt
          by_test false is =
              let same : epoch_at g (suc t) class ≡ epoch_at g t class = ap (λ e. epoch_of e class) e ∙ next_other (state_at g t).epochs other class is in
              let kept : blocks_of_class (state_at g (suc t)).copies class ≡ blocks_of_class (state_at g t).copies class =
              ap (λ x. blocks_of_class x class) c ∙ class_other (state_at g t).copies other class _ is in
              subst
              (Each (Fits (long_in (state_at g (suc t)).copies)))
              (sym
              (ap (λ n. writes_in class n (deeds_before g t ++ deeds_at g t)) same
              ∙ ap (writes_in class (epoch_at g t class)) (ap (λ ds. deeds_before g t ++ ds) none ∙ append-nil (deeds_before g t))))
              (again-alike
              class
              (epoch_at g t class)
              (state_at g t).copies
              (state_at g (suc t)).copies
              (λ block. sym (ap (λ (blocks : List (List ℕ)). length (get_or blocks block [])) kept))
              (deeds_before g t)
              fits)

-- each write of the present epoch
pub epoch-writes-fit : EpochWritesFit
epoch-writes-fit g sound t class touch words (k, below, is) =
    subst
    (Fits (long_in (state_at g t).copies))
    is
    (each-at (Fits (long_in (state_at g t).copies)) (writes_in class (epoch_at g t class) (deeds_before g t)) (fit-at g sound class t) k (Writes touch words) below)
