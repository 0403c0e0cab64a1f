-- Each write of an iteration has as many elements as its block.
use Rattle.std.proofs.Common.{◌≡◌, ℕ, zero, suc, List, [], ◌∷◌, length, Bool, true, false, eqb, if◌then◌else◌, Option, Some, None, Ok, Err, refl, sym, ap, ◌∙◌, subst}
use Rattle.std.proofs.lemmas.Bool.{and_parts, eqb-true}
use Rattle.sial_syntax.specs.declared.access.Access.{Access}
use Rattle.sial_syntax.specs.declared.access.Class.{Class}
use Rattle.sial_syntax.specs.declared.operand.BlockRef.{BlockRef}
use Rattle.sial_syntax.specs.Spaces.{same_class}
use Rattle.sial_syntax.specs.Tree.{Plain, Do, DoIn, Pardo, If, IfElse, Call, Get, Request, Put, Prepare}
use Rattle.sial_meaning.specs.declared.trap.TrapKind.{TrapKind}
use Rattle.sial_meaning.specs.Access.{Touch}
use Rattle.sial_meaning.specs.Control.{Led, Goes, Halts, control}
use Rattle.sial_meaning.specs.Deeds.{Deed, Reads, Writes, Adds, Traps, write_to, written, applied}
use Rattle.sial_meaning.specs.DeedSums.{is_to}
use Rattle.sial_meaning.specs.LocalStep.{Answer, words_of, local_step}
use Rattle.sial_meaning.specs.Own.{Own}
use Rattle.sial_meaning.specs.Ran.{View, view_of, Ran, Through, Broke, outcome_in, touch_of, reads_done, values_seen, no_partials, put_ran, effect_ran, unless_broken, statement_ran}
use Rattle.sial_meaning.specs.Rest.{PardoAt, Rest, Over, Next, Turn, Join, Back, Within}
use Rattle.sial_meaning.specs.Setting.{Setting}
use Rattle.sial_meaning.specs.Sound.{IsSound}
use Rattle.sial_meaning.specs.State.{Shared, State, with_own, shared_block, accessed_words}
use Rattle.sial_meaning.specs.Statement.{Outcome, Went, Stopped, Copied, named, reads_of, created_trap}
use Rattle.sial_meaning.specs.Step.{Stepped, Moved, Halted, Ended, led, done, go_on, steps}
use Rattle.sial_meaning.specs.ToCome.{rest_ran, led_on, done_on}
use Rattle.sial_meaning.specs.WholeStates.{IsWhole}
use Rattle.sial_meaning.proofs.IterationsAreTheirDeeds.Statement.{statement_is}
use Rattle.sial_meaning.proofs.DeedsOfOneKind.Writes.{write_is}
use Rattle.sial_meaning.proofs.IterationsAreTheirDeeds.EachDeed.{Each, EachBefore, each_behind, each_read, each_local}
use Rattle.sial_meaning.proofs.Granted.Visits.{Good}
use Rattle.sial_meaning.proofs.AcceptedInOtherWords.Pairs.{class-is}
use Rattle.sial_meaning.proofs.Granted.Ranges.{InRange}
use Rattle.sial_meaning.proofs.StepsTakeTheFirstPartOff.Step.{Took, step_took}
use Rattle.sial_meaning.proofs.StepsTakeTheFirstPartOff.Stands.{RestIn, AsMany}
use Rattle.sial_meaning.proofs.StatesAreWhole.Effects.{put-long, prepare-long, accessed-long}
use Rattle.sial_meaning.proofs.StatesAreWhole.Rest.{GoodWork, GoodAt}
use Rattle.sial_meaning.proofs.StatesAreWhole.Steps.{step-good}

module _ (long : Class → ℕ → ℕ) where
  -- a write has as many elements as is said of its block
  abbrev pub Fits : Deed → Type 0
  Fits (Reads touch) = Unit {0}
  Fits (Writes touch words) = length words ≡ long touch.class touch.block
  Fits (Adds scalar number) = Unit {0}
  Fits (Traps trap) = Unit {0}

  -- the blocks are as long as is said
  abbrev pub AreLong : Shared → Type 0
  AreLong shared = (class : Class) (block : ℕ) → length (shared_block shared class block) ≡ long class block

  -- a write that fits leaves them so
  write-keeps : (t : Touch) (words : List ℕ) (shared : Shared) → length words ≡ long t.class t.block → AreLong shared → AreLong (write_to t words shared)
  write-keeps t words shared fits are class block = ap length (write_is t words shared class block) ∙ by_test (is_to class block t) refl
    where
      same_block : is_to class block t ≡ true → long t.class t.block ≡ long class block
      same_block e =
          let parts = and_parts (same_class t.class class) (eqb t.block block) e in
          ap (λ c. long c t.block) (class-is t.class class parts.0) ∙ ap (long class) (eqb-true t.block block parts.1)

      by_test : (b : Bool) → is_to class block t ≡ b → length (if b then accessed_words t.kind (shared_block shared class block) words else shared_block shared class block) ≡ long class block
      by_test true e = accessed-long t.kind (shared_block shared class block) words (fits ∙ (same_block e ∙ sym (are class block))) ∙ are class block
      by_test false e = are class block

  -- so do all deeds that fit
  pub written-keeps : (ds : List Deed) (shared : Shared) → Each Fits ds → AreLong shared → AreLong (written ds shared)
  written-keeps [] shared e are = are
  written-keeps (Reads t ∷ ds) shared e are = written-keeps ds shared e.1 are
  written-keeps (Adds s n ∷ ds) shared e are = written-keeps ds shared e.1 are
  written-keeps (Traps t ∷ ds) shared e are = written-keeps ds shared e.1 are
  written-keeps (Writes t words ∷ ds) shared e are = written-keeps ds (write_to t words shared) e.1 (write-keeps t words shared e.0 are)

  module _ (g : Setting) (sound : IsSound g) where
    -- a write
    put-fits : (line : ℕ) (s : State) (block : BlockRef) (how : Access) (answer : Answer (List ℕ)) → AreLong s.shared
        → ((words : List ℕ) → answer ≡ Ok words → length words ≡ length (shared_block s.shared (named g s.own block).class (named g s.own block).block))
        → EachBefore Fits (put_ran line (touch_of (view_of s) (named g s.own block) how line) s.own answer)
    put-fits line s block how (Ok words) are h = (h words refl ∙ are (named g s.own block).class (named g s.own block).block, tt)
    put-fits line s block how (Err kind) are h = tt

    -- the effect of a statement whose created flags are as it wants them
    effect-fits : (line : ℕ) (bound : List ℕ) (within : Bool) (form : Plain) (s : State) → InRange g bound s.own.values → Good g (record { line = line; form = form; bound = bound; within = within }) → IsWhole g s → AreLong s.shared
        → created_trap g form s.own ≡ None → EachBefore Fits (effect_ran g (view_of s) line form s.own)
    effect-fits line bound within (Get block) s in-range good whole are there = each_read g (view_of s) Fits (λ p l. tt) (λ q n. tt) line s.own (block ∷ [])
    effect-fits line bound within (Request block) s in-range good whole are there = each_read g (view_of s) Fits (λ p l. tt) (λ q n. tt) line s.own (block ∷ [])
    effect-fits line bound within (Put block how from) s in-range good whole are there =
        put-fits line s block how (words_of g s.own from []) are (λ words is. put-long g line bound within block how from s words sound in-range good there whole is)
    effect-fits line bound within (Prepare block how from) s in-range good whole are there =
        put-fits line s block how (words_of g s.own from []) are (λ words is. prepare-long g line bound within block how from s words sound in-range good whole is)
    effect-fits line bound within form s in-range good whole are there =
        each_local
        g
        (view_of s)
        Fits
        (λ p l. tt)
        (λ q n. tt)
        line
        form
        (reads_done g (view_of s) line s.own (reads_of g form))
        s.own
        (local_step g form (values_seen g (view_of s) s.own (reads_of g form)) s.own (no_partials g))
        (each_read g (view_of s) Fits (λ p l. tt) (λ q n. tt) line s.own (reads_of g form))

    -- a statement
    pub statement-fits : (line : ℕ) (bound : List ℕ) (within : Bool) (form : Plain) (s : State) → InRange g bound s.own.values → Good g (record { line = line; form = form; bound = bound; within = within }) → IsWhole g s → AreLong s.shared → EachBefore Fits (statement_ran g (view_of s) line form s.own)
    statement-fits line bound within form s in-range good whole are = by_trap (created_trap g form s.own) refl
      where
        by_trap : (trap : Option TrapKind) → created_trap g form s.own ≡ trap → EachBefore Fits (unless_broken line s.own trap (effect_ran g (view_of s) line form))
        by_trap None there = effect-fits line bound within form s in-range good whole are there
        by_trap (Some kind) there = tt

    module _ (pardo : PardoAt) (number : ℕ) (behind_it : Rest) where
      -- the end of the body
      abbrev to : Rest
      to = Within pardo number behind_it

      -- what holds of all work inside from which so many steps lead to the end of the body or to a trap
      abbrev WalksTo : ℕ → Type 0
      WalksTo n = (r : Rest) (s : State) → RestIn g sound.setting r → AsMany g sound.setting s.own → GoodWork g r s → AreLong s.shared → (o : Outcome) → steps Copied g n (record { rest = r; state = s }) ≡ done o to → EachBefore Fits (rest_ran g (view_of s) r s.own)

      -- by control
      led-walks : (n : ℕ) → WalksTo n → (r : Rest) (s : State) (c : Led) → AreLong s.shared → Took g sound.setting (view_of s) r s.own (led_on s.own c) → GoodAt g (led s c) → (o : Outcome) → go_on (steps Copied g n) (led s c) ≡ done o to → EachBefore Fits (rest_ran g (view_of s) r s.own)
      led-walks n more r s (Goes rest own) are took good o e =
          subst (EachBefore Fits) (sym took.1) (each_behind g (view_of s) Fits (λ p l. tt) (λ q m. tt) [] (rest_ran g (view_of s) rest own) tt (more rest (with_own s own) took.0.0 took.0.1 good are o e))
      led-walks n more r s (Halts trap) are took good o e = subst (EachBefore Fits) (sym took) tt

      -- by a statement
      done-walks : (n : ℕ) → WalksTo n → (r : Rest) (s : State) (x : Ran) (rest : Rest) → AreLong s.shared → EachBefore Fits x → Took g sound.setting (view_of s) r s.own (done_on x rest) → GoodAt g (done (outcome_in s x) rest) → (o : Outcome) → go_on (steps Copied g n) (done (outcome_in s x) rest) ≡ done o to → EachBefore Fits (rest_ran g (view_of s) r s.own)
      done-walks n more r s (Through ds own) rest are fits took good o e =
          subst
          (EachBefore Fits)
          (sym took.1)
          (each_behind
          g
          (view_of s)
          Fits
          (λ p l. tt)
          (λ q m. tt)
          ds
          (rest_ran g (view_of s) rest own)
          fits
          (more rest (with_own (applied ds s) own) took.0.0 took.0.1 good (written-keeps ds s.shared fits are) o e))
      done-walks n more r s (Broke ds trap own) rest are fits took good o e = subst (EachBefore Fits) (sym took) fits

      -- work at an end
      abbrev work_at : Stepped → Rest
      work_at (Moved w) = w.rest
      work_at (Halted trap s) = to
      work_at Ended = to

      -- the end of the body has nothing to come
      none-to-come : (v : View) (r : Rest) (own : Own) → r ≡ to → EachBefore Fits (rest_ran g v r own)
      none-to-come v r own e = subst (λ (x : Rest). EachBefore Fits (rest_ran g v x own)) (sym e) tt

      -- any number of steps
      pub walks : (n : ℕ) → WalksTo n
      walks zero r s stands many good are (Went u) e = none-to-come (view_of s) r s.own (ap work_at e)
      walks zero r s stands many good are (Stopped trap u) e = absurd cc
      walks (suc n) (Over at) s stands many good are o e = absurd stands
      walks (suc n) (Within pardo-here number-here rest) s stands many good are o e = tt
      walks (suc n) (Next at line (Pardo these wheres body) rest) s stands many good are o e = let never : true ≡ false = stands.0.2.here.0.pardo in absurd cc
      walks (suc n) (Next at line (Do index body) rest) s stands many good are o e =
          led-walks n (walks n) (Next at line (Do index body) rest) s (control g (Next at line (Do index body) rest) s.own) are (step_took g sound.setting (view_of s) (Next at line (Do index body) rest) s.own stands many) (step-good Copied g sound (Next at line (Do index body) rest) s good) o e
      walks (suc n) (Next at line (DoIn sub index body) rest) s stands many good are o e =
          led-walks n (walks n) (Next at line (DoIn sub index body) rest) s (control g (Next at line (DoIn sub index body) rest) s.own) are (step_took g sound.setting (view_of s) (Next at line (DoIn sub index body) rest) s.own stands many) (step-good Copied g sound (Next at line (DoIn sub index body) rest) s good) o e
      walks (suc n) (Next at line (If test body) rest) s stands many good are o e =
          led-walks n (walks n) (Next at line (If test body) rest) s (control g (Next at line (If test body) rest) s.own) are (step_took g sound.setting (view_of s) (Next at line (If test body) rest) s.own stands many) (step-good Copied g sound (Next at line (If test body) rest) s good) o e
      walks (suc n) (Next at line (IfElse test body other) rest) s stands many good are o e =
          led-walks n (walks n) (Next at line (IfElse test body other) rest) s (control g (Next at line (IfElse test body other) rest) s.own) are (step_took g sound.setting (view_of s) (Next at line (IfElse test body other) rest) s.own stands many) (step-good Copied g sound (Next at line (IfElse test body other) rest) s good) o e
      walks (suc n) (Next at line (Call procedure) rest) s stands many good are o e =
          led-walks n (walks n) (Next at line (Call procedure) rest) s (control g (Next at line (Call procedure) rest) s.own) are (step_took g sound.setting (view_of s) (Next at line (Call procedure) rest) s.own stands many) (step-good Copied g sound (Next at line (Call procedure) rest) s good) o e
      walks (suc n) (Next at line form rest) s stands many good are o e =
          let is = statement_is g line form stands.0.2.here.0 s in
          let work = good.good in
          done-walks
          n
          (walks n)
          (Next at line form rest)
          s
          (statement_ran g (view_of s) line form s.own)
          rest
          are
          (statement-fits line good.indices work.0 form s good.in_range work.1 good.whole are)
          (step_took g sound.setting (view_of s) (Next at line form rest) s.own stands many)
          (subst (λ (p : Outcome). GoodAt g (done p rest)) is (step-good Copied g sound (Next at line form rest) s good))
          o
          (subst (λ (p : Outcome). go_on (steps Copied g n) (done p rest) ≡ done o to) is e)
      walks (suc n) (Turn loop last rest) s stands many good are o e =
          led-walks n (walks n) (Turn loop last rest) s (control g (Turn loop last rest) s.own) are (step_took g sound.setting (view_of s) (Turn loop last rest) s.own stands many) (step-good Copied g sound (Turn loop last rest) s good) o e
      walks (suc n) (Join at rest) s stands many good are o e =
          led-walks n (walks n) (Join at rest) s (control g (Join at rest) s.own) are (step_took g sound.setting (view_of s) (Join at rest) s.own stands many) (step-good Copied g sound (Join at rest) s good) o e
      walks (suc n) (Back at values rest) s stands many good are o e =
          led-walks n (walks n) (Back at values rest) s (control g (Back at values rest) s.own) are (step_took g sound.setting (view_of s) (Back at values rest) s.own stands many) (step-good Copied g sound (Back at values rest) s good) o e
