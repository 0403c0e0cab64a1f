-- Steps lead to the same in both readings, or an access of both has clashed.
use Rattle.std.proofs.Common.{◌≡◌, ℕ, zero, suc, ◌+◌, List, [], Bool, true, false, ◌&&◌, ◌⊎◌, ◌↔◌, Some, Ok, Err, length, nat_lt, refl, sym, ap, ◌∙◌, subst, inl, inr, IsTrue}
use Rattle.std.specs.List.{list_all}
use Rattle.sial_syntax.proofs.DepthLemmas.{procedure_there, body_there}
use Rattle.sial_syntax.specs.Boxes.{volume, tuple_at}
use Rattle.sial_syntax.specs.Limits.{most_pardo}
use Rattle.sial_syntax.specs.Numbering.{size, sizes, entry_of, stop_at}
use Rattle.sial_syntax.specs.Proper.{IsProper, has_index, has_length, proper_body, proper_cond, proper_form}
use Rattle.sial_syntax.specs.Spaces.{first_of, count_of, box_of, pieces_of}
use Rattle.sial_syntax.specs.Tree.{Tree, Block, End, Then, Plain, Do, DoIn, Pardo, If, IfElse, Call}
use Rattle.sial_meaning.specs.Accepted.{log_of}
use Rattle.sial_meaning.specs.Access.{Touch, first_clash}
use Rattle.sial_meaning.specs.EpochLaws.{IsUnclashed}
use Rattle.sial_meaning.specs.LocalStep.{Answer}
use Rattle.sial_meaning.specs.Meaning.{call_depth, condition, taken_up, all_met}
use Rattle.sial_meaning.specs.Own.{Own, value_of}
use Rattle.sial_meaning.specs.Control.{entered, turned, branched, called, begun, went_within, loop_at}
use Rattle.sial_meaning.specs.Rest.{LoopAt, PardoAt, Rest, Over, Next, Turn, Join, Back, Within, depth, push}
use Rattle.sial_meaning.specs.Step.{Stepped, Moved, Halted, Ended, led, done, step, step_from, go_on, steps, start_work}
use Rattle.sial_meaning.specs.Setting.{Setting, procedure_body}
use Rattle.sial_meaning.specs.State.{State}
use Rattle.sial_meaning.specs.Statement.{Outcome, Went, Stopped, Reading, Present, Copied, statement}
use Rattle.sial_meaning.proofs.EpochsAgree.Clashes.{Extends, Clashes, extends_same, extends_then, clash_is}
use Rattle.sial_meaning.proofs.EpochsAgree.Untouched.{Fine, FineTo, fine_start}
use Rattle.sial_meaning.proofs.EpochsAgree.Statement.{Agree, statement_agrees, statement_extends}
use Rattle.sial_meaning.proofs.EpochsAgree.Fold.{proper_writes}
use Rattle.sial_meaning.proofs.StepsReachTheFold.Rules.{both}

-- the parts of all that is left to do are there
abbrev pub ProperRest : Tree → Rest → Type 0
ProperRest p (Over at) = Unit {0}
ProperRest p (Next at line form rest) = IsTrue (proper_form p form) × ProperRest p rest
ProperRest p (Turn loop last rest) = IsTrue (proper_body p loop.body) × ProperRest p rest
ProperRest p (Join at rest) = ProperRest p rest
ProperRest p (Back at values rest) = ProperRest p rest
ProperRest p (Within pardo number rest) = IsTrue (proper_body p pardo.body) × ProperRest p rest

-- steps led to proper work in a fine state, to a trap, or nowhere
abbrev FineAt : Tree → Stepped → Type 0
FineAt p (Moved w) = ProperRest p w.rest × Fine w.state
FineAt p (Halted trap s) = Unit {0}
FineAt p Ended = Unit {0}

-- steps logged behind what was logged
abbrev pub ExtendsAt : List Touch → Stepped → Type 0
ExtendsAt log (Moved w) = Extends log w.state.log
ExtendsAt log (Halted trap s) = Extends log s.log
ExtendsAt log Ended = Unit {0}

-- where steps led the logs begin alike, with a clash
record PartedAt (p c : Stepped) : Type 0 where
  log : List Touch
  clash : Clashes [] log
  present : ExtendsAt log p
  copied : ExtendsAt log c

-- steps led to the same, or an access of both has clashed
abbrev AgreeAt : Tree → Stepped → Stepped → Type 0
AgreeAt program p c = ((p ≡ c) × FineAt program p) ⊎ PartedAt p c

-- statements before the rest
pushed : (p : Tree) (at : ℕ) (body : Block) (rest : Rest) → IsTrue (proper_body p body) → ProperRest p rest → ProperRest p (push at body rest)
pushed p at End rest there proper = proper
pushed p at (Then line form more) rest there proper =
    let parts = both (proper_form p form) (proper_body p more) there in (parts.0, pushed p (at + size form) more rest parts.1 proper)

-- a step that does the same in both readings
same_at : (program : Tree) (t : Stepped) → FineAt program t → AgreeAt program t t
same_at program t fine = inl (refl, fine)

-- a loop entered leaves a fine state
entered_fine : (p : Tree) (loop : LoopAt) (first count : ℕ) (rest : Rest) (s : State) → IsTrue (proper_body p loop.body) → ProperRest p rest → Fine s → FineAt p (led s (entered loop first count rest s.own))
entered_fine p loop first zero rest s there proper fine = (proper, fine)
entered_fine p loop first (suc n) rest s there proper fine = (pushed p (loop.head + 1) loop.body (Turn loop (first + n) rest) there (there, proper), fine)

-- so does the end of a loop's body
turned_fine : (p : Tree) (more : Bool) (loop : LoopAt) (last : ℕ) (rest : Rest) (s : State) → IsTrue (proper_body p loop.body) → ProperRest p rest → Fine s → FineAt p (led s (turned more loop last rest s.own))
turned_fine p true loop last rest s there proper fine = (pushed p (loop.head + 1) loop.body (Turn loop last rest) there (there, proper), fine)
turned_fine p false loop last rest s there proper fine = (proper, fine)

-- so does a branch
branched_fine : (p : Tree) (line : ℕ) (answer : Answer Bool) (met unmet : Rest) (s : State) → ProperRest p met → ProperRest p unmet → Fine s → FineAt p (led s (branched line answer met unmet s.own))
branched_fine p line (Ok true) met unmet s a b fine = (a, fine)
branched_fine p line (Ok false) met unmet s a b fine = (b, fine)
branched_fine p line (Err kind) met unmet s a b fine = tt

-- so does a call
called_fine : (g : Setting) (more : Bool) (procedure : ℕ) (rest : Rest) (s : State) → IsTrue (proper_body g.program (procedure_body g procedure)) → ProperRest g.program rest → Fine s → FineAt g.program (led s (called g more procedure rest s.own))
called_fine g true procedure rest s there proper fine =
    (pushed g.program (entry_of g.program procedure) (procedure_body g procedure) (Back (entry_of g.program procedure + sizes (procedure_body g procedure)) s.own.values rest) there proper, fine)
called_fine g false procedure rest s there proper fine = (proper, fine)

-- so does a tuple taken up
begun_fine : (p : Tree) (met : Bool) (pardo : PardoAt) (number : ℕ) (rest : Rest) (s : State) (own : Own) → IsTrue (proper_body p pardo.body) → ProperRest p rest → Fine s → FineAt p (led s (begun met pardo number rest own))
begun_fine p true pardo number rest s own there proper fine =
    (pushed p (pardo.head + 1 + length pardo.wheres) pardo.body (Within pardo (number + 1) rest) there (there, proper), fine)
begun_fine p false pardo number rest s own there proper fine = ((there, proper), fine)

-- so does a pardo in progress
within_fine : (g : Setting) (more : Bool) (pardo : PardoAt) (number : ℕ) (rest : Rest) (s : State) → IsTrue (proper_body g.program pardo.body) → ProperRest g.program rest → Fine s → FineAt g.program (led s (went_within g more pardo number rest s.own))
within_fine g true pardo number rest s there proper fine =
    let held : Own = taken_up g pardo.indices (tuple_at (box_of g.spaces pardo.indices) number) s.own in
    begun_fine g.program (all_met held pardo.wheres) pardo number rest s held there proper fine
within_fine g false pardo number rest s there proper fine = (proper, fine)

-- so does a statement that holds no other
done_fine : (p : Tree) (o : Outcome) (rest : Rest) → ProperRest p rest → FineTo o → FineAt p (done o rest)
done_fine p (Went s) rest proper fine = (proper, fine)
done_fine p (Stopped trap s) rest proper fine = tt

-- a statement that holds no other logs behind what was logged
done_extends : (log : List Touch) (o : Outcome) (rest : Rest) → Extends log (log_of o) → ExtendsAt log (done o rest)
done_extends log (Went s) rest x = x
done_extends log (Stopped trap s) rest x = x

-- a statement that holds no other in both readings
done_agrees : (p : Tree) (present copied : Outcome) (rest : Rest) → ProperRest p rest → Agree present copied → AgreeAt p (done present rest) (done copied rest)
done_agrees p present copied rest proper (inl (same, fine)) = inl (ap (λ o. done o rest) same, done_fine p present rest proper fine)
done_agrees p present copied rest proper (inr parted) = inr (record {
  log = parted.log;
  clash = parted.clash;
  present = done_extends parted.log present rest parted.present;
  copied = done_extends parted.log copied rest parted.copied;
})

module _ (g : Setting) (proper : IsProper g.program) where
  -- a statement at the head
  next_agrees : (at line : ℕ) (form : Plain) (rest : Rest) (s : State) → IsTrue (proper_form g.program form) → ProperRest g.program rest → Fine s → AgreeAt g.program (step_from Present g (Next at line form rest) s) (step_from Copied g (Next at line form rest) s)
  next_agrees at line (Do index body) rest s there others fine =
      let parts = both (has_index g.program index) (proper_body g.program body) there in
      inl (refl, entered_fine g.program (loop_at at index body) (first_of g.spaces index) (count_of g.spaces index) rest s parts.1 others fine)
  next_agrees at line (DoIn sub index body) rest s there others fine =
      let first = both (has_index g.program sub) (has_index g.program index && proper_body g.program body) there in
      let parts = both (has_index g.program index) (proper_body g.program body) first.1 in
      inl (refl, entered_fine g.program (loop_at at sub body) 1 (pieces_of g.spaces sub (value_of s.own index)) rest s parts.1 others fine)
  next_agrees at line (Pardo indices wheres body) rest s there others fine =
      let ranked = both (has_length most_pardo indices) (list_all (has_index g.program) indices && (list_all (proper_cond g.program) wheres && proper_body g.program body)) there in
      let indexed = both (list_all (has_index g.program) indices) (list_all (proper_cond g.program) wheres && proper_body g.program body) ranked.1 in
      let parts = both (list_all (proper_cond g.program) wheres) (proper_body g.program body) indexed.1 in
      inl (refl, ((parts.1, others), fine))
  next_agrees at line (If test body) rest s there others fine =
      let parts = both (proper_cond g.program test) (proper_body g.program body) there in
      inl (refl, branched_fine g.program line (condition s.own test) (push (at + 1) body (Join (at + 1 + sizes body) rest)) rest s (pushed g.program (at + 1) body (Join (at + 1 + sizes body) rest) parts.1 others) others fine)
  next_agrees at line (IfElse test body other) rest s there others fine =
      let tested = both (proper_cond g.program test) (proper_body g.program body && proper_body g.program other) there in
      let parts = both (proper_body g.program body) (proper_body g.program other) tested.1 in
      inl (
        refl,
        branched_fine
            g.program
            line
            (condition s.own test)
            (push (at + 1) body (Join (at + 1 + sizes body) rest))
            (push (at + 2 + sizes body) other (Join (at + 2 + sizes body + sizes other) rest))
            s
            (pushed g.program (at + 1) body (Join (at + 1 + sizes body) rest) parts.0 others)
            (pushed g.program (at + 2 + sizes body) other (Join (at + 2 + sizes body + sizes other) rest) parts.1 others)
            fine,
      )
  next_agrees at line (Call procedure) rest s there others fine =
      inl (refl, called_fine g (nat_lt (depth rest) call_depth) procedure rest s (procedure_there g.program g.program.procedures procedure proper.procedures) others fine)
  next_agrees at line form rest s there others fine =
      done_agrees g.program (statement Present g line form s) (statement Copied g line form s) rest others (statement_agrees g line form s (proper_writes g.program form there) fine)

  -- a step
  step_agrees : (r : Rest) (s : State) → ProperRest g.program r → Fine s → AgreeAt g.program (step_from Present g r s) (step_from Copied g r s)
  step_agrees (Over at) s there fine = inl (refl, tt)
  step_agrees (Next at line form rest) s there fine = next_agrees at line form rest s there.0 there.1 fine
  step_agrees (Turn loop last rest) s there fine = inl (refl, turned_fine g.program (nat_lt (value_of s.own loop.index) last) loop last rest s there.0 there.1 fine)
  step_agrees (Join at rest) s there fine = inl (refl, (there, fine))
  step_agrees (Back at values rest) s there fine = inl (refl, (there, fine))
  step_agrees (Within pardo number rest) s there fine =
      inl (refl, within_fine g (nat_lt number (volume (box_of g.spaces pardo.indices))) pardo number rest s there.0 there.1 fine)

module _ (reading : Reading) (g : Setting) where
  -- a loop entered logs nothing
  entered_extends : (loop : LoopAt) (first count : ℕ) (rest : Rest) (s : State) → ExtendsAt s.log (led s (entered loop first count rest s.own))
  entered_extends loop first zero rest s = extends_same s.log
  entered_extends loop first (suc n) rest s = extends_same s.log

  -- nor does the end of a loop's body
  turned_extends : (more : Bool) (loop : LoopAt) (last : ℕ) (rest : Rest) (s : State) → ExtendsAt s.log (led s (turned more loop last rest s.own))
  turned_extends true loop last rest s = extends_same s.log
  turned_extends false loop last rest s = extends_same s.log

  -- nor does a branch
  branched_extends : (line : ℕ) (answer : Answer Bool) (met unmet : Rest) (s : State) → ExtendsAt s.log (led s (branched line answer met unmet s.own))
  branched_extends line (Ok true) met unmet s = extends_same s.log
  branched_extends line (Ok false) met unmet s = extends_same s.log
  branched_extends line (Err kind) met unmet s = extends_same s.log

  -- nor does a call
  called_extends : (more : Bool) (procedure : ℕ) (rest : Rest) (s : State) → ExtendsAt s.log (led s (called g more procedure rest s.own))
  called_extends true procedure rest s = extends_same s.log
  called_extends false procedure rest s = extends_same s.log

  -- nor does a tuple taken up
  begun_extends : (met : Bool) (pardo : PardoAt) (number : ℕ) (rest : Rest) (s : State) (own : Own) → ExtendsAt s.log (led s (begun met pardo number rest own))
  begun_extends true pardo number rest s own = extends_same s.log
  begun_extends false pardo number rest s own = extends_same s.log

  -- nor does a pardo in progress
  within_extends : (more : Bool) (pardo : PardoAt) (number : ℕ) (rest : Rest) (s : State) → ExtendsAt s.log (led s (went_within g more pardo number rest s.own))
  within_extends true pardo number rest s =
      let held : Own = taken_up g pardo.indices (tuple_at (box_of g.spaces pardo.indices) number) s.own in begun_extends (all_met held pardo.wheres) pardo number rest s held
  within_extends false pardo number rest s = extends_same s.log

  -- a statement at the head logs behind what was logged
  next_extends : (at line : ℕ) (form : Plain) (rest : Rest) (s : State) → ExtendsAt s.log (step_from reading g (Next at line form rest) s)
  next_extends at line (Do index body) rest s = entered_extends (loop_at at index body) (first_of g.spaces index) (count_of g.spaces index) rest s
  next_extends at line (DoIn sub index body) rest s = entered_extends (loop_at at sub body) 1 (pieces_of g.spaces sub (value_of s.own index)) rest s
  next_extends at line (Pardo indices wheres body) rest s = extends_same s.log
  next_extends at line (If test body) rest s = branched_extends line (condition s.own test) (push (at + 1) body (Join (at + 1 + sizes body) rest)) rest s
  next_extends at line (IfElse test body other) rest s =
      branched_extends line (condition s.own test) (push (at + 1) body (Join (at + 1 + sizes body) rest)) (push (at + 2 + sizes body) other (Join (at + 2 + sizes body + sizes other) rest)) s
  next_extends at line (Call procedure) rest s = called_extends (nat_lt (depth rest) call_depth) procedure rest s
  next_extends at line form rest s = done_extends s.log (statement reading g line form s) rest (statement_extends reading g line form s)

  -- a step logs behind what was logged
  pub step_extends : (r : Rest) (s : State) → ExtendsAt s.log (step_from reading g r s)
  step_extends (Over at) s = tt
  step_extends (Next at line form rest) s = next_extends at line form rest s
  step_extends (Turn loop last rest) s = turned_extends (nat_lt (value_of s.own loop.index) last) loop last rest s
  step_extends (Join at rest) s = extends_same s.log
  step_extends (Back at values rest) s = extends_same s.log
  step_extends (Within pardo number rest) s = within_extends (nat_lt number (volume (box_of g.spaces pardo.indices))) pardo number rest s

  -- what is logged behind a log that goes on
  at_then : (a b : List Touch) (t : Stepped) → Extends a b → ExtendsAt b t → ExtendsAt a t
  at_then a b (Moved w) x y = extends_then a b w.state.log x y
  at_then a b (Halted trap s) x y = extends_then a b s.log x y
  at_then a b Ended x y = tt

  -- so do more
  steps_extend : (n : ℕ) (log : List Touch) (t : Stepped) → ExtendsAt log t → ExtendsAt log (go_on (steps reading g n) t)
  steps_extend zero log (Moved w) x = x
  steps_extend (suc n) log (Moved w) x = steps_extend n log (step reading g w) (at_then log w.state.log (step reading g w) x (step_extends w.rest w.state))
  steps_extend n log (Halted trap s) x = x
  steps_extend n log Ended x = x

module _ (g : Setting) (proper : IsProper g.program) where
  -- so many more steps from where both stand, where such steps agree from one place
  steps_on : (n : ℕ) → ((t : Stepped) → FineAt g.program t → AgreeAt g.program (go_on (steps Present g n) t) (go_on (steps Copied g n) t)) → (p c : Stepped) → AgreeAt g.program p c → AgreeAt g.program (go_on (steps Present g n) p) (go_on (steps Copied g n) c)
  steps_on n from p c (inl (same, fine)) = subst (λ (t : Stepped). AgreeAt g.program (go_on (steps Present g n) p) (go_on (steps Copied g n) t)) same (from p fine)
  steps_on n from p c (inr parted) = inr (record {
    log = parted.log;
    clash = parted.clash;
    present = steps_extend Present g n parted.log p parted.present;
    copied = steps_extend Copied g n parted.log c parted.copied;
  })

  -- so many more steps from one place
  steps_agree : (n : ℕ) (t : Stepped) → FineAt g.program t → AgreeAt g.program (go_on (steps Present g n) t) (go_on (steps Copied g n) t)
  steps_agree zero (Moved w) fine = inl (refl, fine)
  steps_agree (suc n) (Moved w) fine = steps_on n (steps_agree n) (step Present g w) (step Copied g w) (step_agrees g proper w.rest w.state fine.0 fine.1)
  steps_agree n (Halted trap s) fine = inl (refl, tt)
  steps_agree n Ended fine = inl (refl, tt)

-- no unclashed place is one where the logs have parted
unclashed : (log : List Touch) (t : Stepped) → Clashes [] log → ExtendsAt log t → IsUnclashed t → ⊥
unclashed log (Moved w) clash x e = let met : first_clash [] w.state.log ≡ Some clash.0 = clash_is [] log w.state.log clash.0 x clash.1 in absurd cc
unclashed log (Halted trap s) clash x e = let met : first_clash [] s.log ≡ Some clash.0 = clash_is [] log s.log clash.0 x clash.1 in absurd cc
unclashed log Ended clash x e = e

-- places that agree are one place where no access has clashed
one_place : (program : Tree) (p c t : Stepped) → AgreeAt program p c → IsUnclashed t → (p ≡ t) ↔ (c ≡ t)
one_place program p c t (inl (same, fine)) clear = (λ e. sym same ∙ e, λ e. same ∙ e)
one_place program p c t (inr parted) clear = (
  λ e. absurd (unclashed parted.log t parted.clash (subst (λ (u : Stepped). ExtendsAt parted.log u) e parted.present) clear),
  λ e. absurd (unclashed parted.log t parted.clash (subst (λ (u : Stepped). ExtendsAt parted.log u) e parted.copied) clear),
)

-- after any number of steps both stand at the same place, as long as no access has clashed
pub same_states : (g : Setting) (count : ℕ) (t : Stepped) → IsProper g.program → IsUnclashed t → (steps Present g count (start_work g) ≡ t) ↔ (steps Copied g count (start_work g) ≡ t)
same_states g count t proper clear =
    one_place
    g.program
    (steps Present g count (start_work g))
    (steps Copied g count (start_work g))
    t
    (steps_agree g proper count (Moved (start_work g)) (pushed g.program 0 g.program.body (Over (stop_at g.program)) (body_there g.program proper) tt, fine_start g))
    clear
