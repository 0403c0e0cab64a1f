-- The log of a program goes through epochs that never fall.
use Rattle.std.proofs.Common.{ℕ, zero, suc, ◌≤◌, Bool, true, false, List, [], ◌∷◌, Option, Some, None, Ok, Err, subst, arith}
use Rattle.std.proofs.lemmas.List.Elements.{All-nil, All-push}
use Rattle.std.proofs.lemmas.List.Quantifiers.{all_pairs_push}
use Rattle.std.specs.Prelude.{All, AllPairs, slice_index_or}
use Rattle.sial_syntax.specs.Boxes.{tuples}
use Rattle.sial_syntax.specs.Spaces.{box_of}
use Rattle.sial_syntax.specs.Tree.{Block, End, Then, Plain, Do, DoIn, Pardo, If, IfElse, Call, Get, Request, Put, Prepare, Create, Delete, Collective, SipBarrier, ServerBarrier}
use Rattle.sial_syntax.specs.declared.access.Access.{Access}
use Rattle.sial_syntax.specs.declared.access.Access.TheVariants.{Read}
use Rattle.sial_syntax.specs.declared.access.Class.{Class}
use Rattle.sial_syntax.specs.declared.access.Class.TheVariants.{Distributed, Served}
use Rattle.sial_syntax.specs.declared.operand.BlockRef.{BlockRef}
use Rattle.sial_meaning.specs.Accepted.{log_of}
use Rattle.sial_meaning.specs.Access.{Touch}
use Rattle.sial_meaning.specs.LocalStep.{Answer, Done, words_of, local_step}
use Rattle.sial_meaning.specs.MarkLaws.{NeverFalls, EpochsNeverFall, MarksFindClashOfProgram}
use Rattle.sial_meaning.specs.Meaning.{on_own, then_own, over, chosen, condition, iteration, unless_left_out, all_met, segments_over, pieces_over, taken_up, left, block_meaning, form_meaning, calls, call_depth, meaning}
use Rattle.sial_meaning.specs.Own.{Own, bound, unset, none_bound, with_values}
use Rattle.sial_meaning.specs.Setting.{Setting, procedure_body}
use Rattle.sial_meaning.specs.State.{State, Epochs, epoch_of, next_epoch, logged, epoch_ended, start_state}
use Rattle.sial_meaning.specs.Statement.{Outcome, Went, Stopped, after, Reading, Present, Named, named, reads_of, reads_logged, values_of, local_done, put_done, created_trap, unless_trapped, effect, statement}
use Rattle.sial_meaning.specs.declared.trap.TrapKind.{TrapKind}
use Rattle.sial_meaning.proofs.AcceptedInOtherWords.Marks.{marks-find-first-clash}
use Rattle.sial_meaning.proofs.AcceptedInOtherWords.Pairs.{class-is}

-- the log never falls, and no epoch of it lies past the present one of its class
record Tidy (s : State) : Type 0 where
  pairs : AllPairs NeverFalls s.log
  low : All (λ (u : Touch). u.epoch ≤ epoch_of s.epochs u.class) s.log

-- an outcome with such a state
abbrev Sound : Outcome → Type 0
Sound (Went s) = Tidy s
Sound (Stopped trap s) = Tidy s

after-sound : (o : Outcome) (next : State → Outcome) → Sound o → ((s : State) → Tidy s → Sound (next s)) → Sound (after o next)
after-sound (Went s) next tidy on = on s tidy
after-sound (Stopped trap s) next tidy on = tidy

own-tidy : (f : Own → Own) (s : State) → Tidy s → Tidy (on_own f s)
own-tidy f s tidy = record { pairs = tidy.pairs; low = tidy.low }

then-sound : (o : Outcome) (f : Own → Own) → Sound o → Sound (then_own o f)
then-sound o f sound = after-sound o (λ s. Went (on_own f s)) sound (λ s tidy. own-tidy f s tidy)

-- an access that is logged is in the present epoch
logged-tidy : (s : State) (class : Class) (block : ℕ) (kind : Access) (line : ℕ) → Tidy s → Tidy (logged s class block kind line)
logged-tidy s class block kind line tidy =
    let t : Touch = record { class = class; epoch = epoch_of s.epochs class; block = block; kind = kind; line = line } in
    record {
      pairs = all_pairs_push NeverFalls s.log t tidy.pairs (λ k d below same.
          subst (λ c. (slice_index_or s.log k d).epoch ≤ epoch_of s.epochs c) (class-is (slice_index_or s.log k d).class class same) (tidy.low k d below));
      low = All-push (λ (u : Touch). u.epoch ≤ epoch_of s.epochs u.class) s.log t tidy.low (omega arith);
    }

-- epochs only rise
rises : (epochs : Epochs) (class c : Class) → epoch_of epochs c ≤ epoch_of (next_epoch epochs class) c
rises epochs Distributed Distributed = omega arith
rises epochs Distributed Served = omega arith
rises epochs Served Distributed = omega arith
rises epochs Served Served = omega arith

ended-tidy : (class : Class) (s : State) → Tidy s → Tidy (epoch_ended class s)
ended-tidy class s tidy = record {
  pairs = tidy.pairs;
  low = λ k d below.
      let u = slice_index_or s.log k d in
      let was : u.epoch ≤ epoch_of s.epochs u.class = tidy.low k d below in
      let now : epoch_of s.epochs u.class ≤ epoch_of (next_epoch s.epochs class) u.class = rises s.epochs class u.class in
      omega (arith, was, now);
}

reads-tidy : (g : Setting) (line : ℕ) (blocks : List BlockRef) (s : State) → Tidy s → Tidy (reads_logged g line blocks s)
reads-tidy g line [] s tidy = tidy
reads-tidy g line (b ∷ bs) s tidy =
    reads-tidy g line bs (logged s (named g s.own b).class (named g s.own b).block Read line) (logged-tidy s (named g s.own b).class (named g s.own b).block Read line tidy)

local-sound : (line : ℕ) (s : State) (answer : Answer Done) → Tidy s → Sound (local_done line s answer)
local-sound line s (Ok done) tidy = record { pairs = tidy.pairs; low = tidy.low }
local-sound line s (Err kind) tidy = tidy

put-sound : (line : ℕ) (place : Named) (how : Access) (s : State) (answer : Answer (List ℕ)) → Tidy s → Sound (put_done line place how s answer)
put-sound line place how s (Err kind) tidy = tidy
put-sound line place how s (Ok words) tidy =
    let t = logged-tidy s place.class place.block how line tidy in
    record { pairs = t.pairs; low = t.low }

effect-sound : (reading : Reading) (g : Setting) (line : ℕ) (form : Plain) (s : State) → Tidy s → Sound (effect reading g line form s)
effect-sound reading g line (Get block) s tidy = reads-tidy g line (block ∷ []) s tidy
effect-sound reading g line (Request block) s tidy = reads-tidy g line (block ∷ []) s tidy
effect-sound reading g line (Put block how from) s tidy = put-sound line (named g s.own block) how s (words_of g s.own from []) tidy
effect-sound reading g line (Prepare block how from) s tidy = put-sound line (named g s.own block) how s (words_of g s.own from []) tidy
effect-sound reading g line (Create array) s tidy = let t = ended-tidy Distributed s tidy in record { pairs = t.pairs; low = t.low }
effect-sound reading g line (Delete array) s tidy = let t = ended-tidy Distributed s tidy in record { pairs = t.pairs; low = t.low }
effect-sound reading g line SipBarrier s tidy = ended-tidy Distributed s tidy
effect-sound reading g line ServerBarrier s tidy = ended-tidy Served s tidy
effect-sound reading g line (Collective into from) s tidy = record { pairs = tidy.pairs; low = tidy.low }
effect-sound reading g line form s tidy =
    local-sound line (reads_logged g line (reads_of g form) s) (local_step g form (values_of g reading s (reads_of g form)) s.own s.partials) (reads-tidy g line (reads_of g form) s tidy)

unless-sound : (line : ℕ) (s : State) (kind : Option TrapKind) (next : State → Outcome) → Tidy s → Sound (next s) → Sound (unless_trapped line s kind next)
unless-sound line s None next tidy sound = sound
unless-sound line s (Some kind) next tidy sound = tidy

statement-sound : (reading : Reading) (g : Setting) (line : ℕ) (form : Plain) (s : State) → Tidy s → Sound (statement reading g line form s)
statement-sound reading g line form s tidy = unless-sound line s (created_trap g form s.own) (effect reading g line form) tidy (effect-sound reading g line form s tidy)

over-sound : {X : Type 0} (xs : List X) (turn : X → State → Outcome) → ((x : X) (s : State) → Tidy s → Sound (turn x s)) → (s : State) → Tidy s → Sound (over xs turn s)
over-sound [] turn each s tidy = tidy
over-sound (x ∷ xs) turn each s tidy = after-sound (turn x s) (over xs turn) (each x s tidy) (λ t on. over-sound xs turn each t on)

chosen-sound : (line : ℕ) (answer : Answer Bool) (met unmet : State → Outcome) (s : State) → Tidy s → Sound (met s) → Sound (unmet s) → Sound (chosen line answer met unmet s)
chosen-sound line (Ok true) met unmet s tidy yes' no' = yes'
chosen-sound line (Ok false) met unmet s tidy yes' no' = no'
chosen-sound line (Err kind) met unmet s tidy yes' no' = tidy

out-sound : (b : Bool) (body : State → Outcome) (s : State) → Tidy s → Sound (body s) → Sound (unless_left_out b body s)
out-sound true body s tidy sound = sound
out-sound false body s tidy sound = tidy

-- calls that keep the log tidy
abbrev CallsSound : (ℕ → State → Outcome) → Type 0
CallsSound call = (procedure : ℕ) (s : State) → Tidy s → Sound (call procedure s)

mutual
  block-sound : (reading : Reading) (g : Setting) (call : ℕ → State → Outcome) → CallsSound call → (body : Block) (s : State) → Tidy s → Sound (block_meaning reading g call body s)
  block-sound reading g call sound End s tidy = tidy
  block-sound reading g call sound (Then line form rest) s tidy =
      after-sound (form_meaning reading g call line form s) (block_meaning reading g call rest) (form-sound reading g call sound line form s tidy) (λ t on. block-sound reading g call sound rest t on)

  form-sound : (reading : Reading) (g : Setting) (call : ℕ → State → Outcome) → CallsSound call → (line : ℕ) (form : Plain) (s : State) → Tidy s → Sound (form_meaning reading g call line form s)
  form-sound reading g call sound line (Do index body) s tidy =
      then-sound (over (segments_over g index) (λ k t. block_meaning reading g call body (on_own (bound index k) t)) s) (bound index 0)
      (over-sound (segments_over g index) (λ k t. block_meaning reading g call body (on_own (bound index k) t))
      (λ k t on. block-sound reading g call sound body (on_own (bound index k) t) (own-tidy (bound index k) t on)) s tidy)
  form-sound reading g call sound line (DoIn sub index body) s tidy =
      then-sound (over (pieces_over g s.own sub index) (λ k t. block_meaning reading g call body (on_own (bound sub k) t)) s) (bound sub 0)
      (over-sound (pieces_over g s.own sub index) (λ k t. block_meaning reading g call body (on_own (bound sub k) t))
      (λ k t on. block-sound reading g call sound body (on_own (bound sub k) t) (own-tidy (bound sub k) t on)) s tidy)
  form-sound reading g call sound line (Pardo indices wheres body) s tidy =
      then-sound
      (over (tuples (box_of g.spaces indices)) (λ tuple t. iteration wheres (block_meaning reading g call body) (on_own (taken_up g indices tuple) t)) (on_own (unset g) s))
      (left g indices)
      (over-sound (tuples (box_of g.spaces indices)) (λ tuple t. iteration wheres (block_meaning reading g call body) (on_own (taken_up g indices tuple) t))
      (λ tuple t on.
      out-sound (all_met (on_own (taken_up g indices tuple) t).own wheres) (block_meaning reading g call body) (on_own (taken_up g indices tuple) t) (own-tidy (taken_up g indices tuple) t on)
      (block-sound reading g call sound body (on_own (taken_up g indices tuple) t) (own-tidy (taken_up g indices tuple) t on)))
      (on_own (unset g) s) (own-tidy (unset g) s tidy))
  form-sound reading g call sound line (If test body) s tidy =
      chosen-sound line (condition s.own test) (block_meaning reading g call body) Went s tidy (block-sound reading g call sound body s tidy) tidy
  form-sound reading g call sound line (IfElse test body other) s tidy =
      chosen-sound line (condition s.own test) (block_meaning reading g call body) (block_meaning reading g call other) s tidy
      (block-sound reading g call sound body s tidy) (block-sound reading g call sound other s tidy)
  form-sound reading g call sound line (Call procedure) s tidy = sound procedure s tidy
  form-sound reading g call sound line form s tidy = statement-sound reading g line form s tidy

calls-sound : (reading : Reading) (g : Setting) (depth : ℕ) → CallsSound (calls reading g depth)
calls-sound reading g zero procedure s tidy = tidy
calls-sound reading g (suc depth) procedure s tidy =
    then-sound (block_meaning reading g (calls reading g depth) (procedure_body g procedure) (on_own none_bound s)) (with_values s.own.values)
    (block-sound reading g (calls reading g depth) (calls-sound reading g depth) (procedure_body g procedure) (on_own none_bound s) (own-tidy none_bound s tidy))

start-tidy : (g : Setting) → Tidy (start_state g)
start-tidy g = record { pairs = λ i j d before below. absurd (omega (arith, below)); low = All-nil (λ (u : Touch). u.epoch ≤ epoch_of (start_state g).epochs u.class) }

log-pairs : (o : Outcome) → Sound o → AllPairs NeverFalls (log_of o)
log-pairs (Went s) tidy = tidy.pairs
log-pairs (Stopped trap s) tidy = tidy.pairs

-- the epochs of a program's log never fall
pub epochs-never-fall : EpochsNeverFall
epochs-never-fall reading g = log-pairs (meaning reading g) (block-sound reading g (calls reading g call_depth) (calls-sound reading g call_depth) g.program.body (start_state g) (start-tidy g))

-- so marks find the first clash of a program
pub marks-find-clash-of-program : MarksFindClashOfProgram
marks-find-clash-of-program g = marks-find-first-clash (log_of (meaning Present g)) (epochs-never-fall Present g)
