-- The fold does the same in both readings, or an access of both has clashed.
use Rattle.std.proofs.Common.{◌≡◌, ℕ, zero, suc, List, [], ◌∷◌, Bool, true, false, ◌&&◌, Some, None, Ok, Err, sym, ap, ◌∙◌, subst, inl, inr, IsTrue}
use Rattle.std.specs.List.{list_all}
use Rattle.sial_syntax.proofs.DepthLemmas.{procedure_there, body_there}
use Rattle.sial_syntax.specs.Boxes.{tuples}
use Rattle.sial_syntax.specs.Limits.{most_pardo}
use Rattle.sial_syntax.specs.Proper.{IsProper, has_index, has_length, is_write, proper_block, proper_body, proper_cond, proper_form}
use Rattle.sial_syntax.specs.Spaces.{box_of}
use Rattle.sial_syntax.specs.Tree.{Tree, Block, End, Then, Plain, Do, DoIn, Pardo, If, IfElse, Call, Put, Prepare}
use Rattle.sial_meaning.specs.Accepted.{log_of, trap_of, refused, refusal_of, first_refusal}
use Rattle.sial_meaning.specs.Access.{first_clash}
use Rattle.sial_meaning.specs.EpochLaws.{up_to_clash}
use Rattle.sial_meaning.specs.LocalStep.{Answer}
use Rattle.sial_meaning.specs.Meaning.{block_meaning, form_meaning, calls, call_depth, chosen, condition, over, on_own, iteration, unless_left_out, all_met, taken_up, left, segments_over, pieces_over, sequential, by_epochs}
use Rattle.sial_meaning.specs.Own.{bound, none_bound, unset, with_values}
use Rattle.sial_meaning.specs.Setting.{Setting, procedure_body}
use Rattle.sial_meaning.specs.State.{State, start_state}
use Rattle.sial_meaning.specs.Statement.{Outcome, Went, Stopped, after, Present, Copied, trap_at}
use Rattle.sial_meaning.proofs.EpochsAgree.Clashes.{Extends, extends_same, extends_then, clash_is, up_to_clash_on}
use Rattle.sial_meaning.proofs.EpochsAgree.Untouched.{Fine, FineTo, fine_start}
use Rattle.sial_meaning.proofs.EpochsAgree.Statement.{Agree, Writes, alike, statement_agrees, statement_extends}
use Rattle.sial_meaning.proofs.StepsReachTheFold.Rules.{both}

-- two outcomes from one state: both log behind what was logged, and from a fine state they agree
abbrev pub AgreeFrom : State → Outcome → Outcome → Type 0
AgreeFrom s p c = (Fine s → Agree p c) × Extends s.log (log_of p) × Extends s.log (log_of c)

-- nothing done
from_here : (s : State) → AgreeFrom s (Went s) (Went s)
from_here s = (λ fine. alike (Went s) fine, extends_same s.log, extends_same s.log)

-- what follows logs behind what was logged
after_extends : (p : Outcome) (h : State → Outcome) → ((t : State) → Extends t.log (log_of (h t))) → Extends (log_of p) (log_of (after p h))
after_extends (Went t) h k = k t
after_extends (Stopped trap t) h k = extends_same t.log

-- what follows one outcome in both readings
after_same : (p : Outcome) (h i : State → Outcome) → ((t : State) → AgreeFrom t (h t) (i t)) → FineTo p → Agree (after p h) (after p i)
after_same (Went t) h i k fine = (k t).0 fine
after_same (Stopped trap t) h i k fine = alike (Stopped trap t) tt

-- what follows two outcomes that agree
after_agree : (p c : Outcome) (h i : State → Outcome) → ((t : State) → AgreeFrom t (h t) (i t)) → Agree p c → Agree (after p h) (after c i)
after_agree p c h i k (inl (same, fine)) = subst (λ (o : Outcome). Agree (after p h) (after o i)) same (after_same p h i k fine)
after_agree p c h i k (inr parted) = inr (record {
  log = parted.log;
  clash = parted.clash;
  present = extends_then parted.log (log_of p) (log_of (after p h)) parted.present (after_extends p h (λ t. (k t).1));
  copied = extends_then parted.log (log_of c) (log_of (after c i)) parted.copied (after_extends c i (λ t. (k t).2));
})

-- what follows two outcomes
from_after : (s : State) (p c : Outcome) (h i : State → Outcome) → AgreeFrom s p c → ((t : State) → AgreeFrom t (h t) (i t)) → AgreeFrom s (after p h) (after c i)
from_after s p c h i a k = (λ fine. after_agree p c h i k (a.0 fine), extends_then s.log (log_of p) (log_of (after p h)) a.1 (after_extends p h (λ t. (k t).1)), extends_then s.log (log_of c) (log_of (after c i)) a.2 (after_extends c i (λ t. (k t).2)))

-- one thing after another
from_over : {X : Type 0} (xs : List X) (turn copied : X → State → Outcome) → ((x : X) (t : State) → AgreeFrom t (turn x t) (copied x t)) → (s : State) → AgreeFrom s (over xs turn s) (over xs copied s)
from_over [] turn copied k s = from_here s
from_over (x ∷ xs) turn copied k s = from_after s (turn x s) (copied x s) (over xs turn) (over xs copied) (k x s) (from_over xs turn copied k)

-- one of two ways
from_chosen : (line : ℕ) (answer : Answer Bool) (met unmet met_copied unmet_copied : State → Outcome) (s : State) → AgreeFrom s (met s) (met_copied s) → AgreeFrom s (unmet s) (unmet_copied s) → AgreeFrom s (chosen line answer met unmet s) (chosen line answer met_copied unmet_copied s)
from_chosen line (Ok true) met unmet met_copied unmet_copied s a b = a
from_chosen line (Ok false) met unmet met_copied unmet_copied s a b = b
from_chosen line (Err kind) met unmet met_copied unmet_copied s a b = (λ fine. alike (Stopped (trap_at line kind) s) tt, extends_same s.log, extends_same s.log)

-- a body that may be left out
from_unless : (met : Bool) (body copied : State → Outcome) (s : State) → AgreeFrom s (body s) (copied s) → AgreeFrom s (unless_left_out met body s) (unless_left_out met copied s)
from_unless true body copied s a = a
from_unless false body copied s a = from_here s

-- a proper statement writes by a kind that writes
pub proper_writes : (p : Tree) (form : Plain) → IsTrue (proper_form p form) → Writes form
proper_writes p (Put block how from) e = (both (is_write how) (proper_block p from) (both (proper_block p block) (is_write how && proper_block p from) e).1).0
proper_writes p (Prepare block how from) e = (both (is_write how) (proper_block p from) (both (proper_block p block) (is_write how && proper_block p from) e).1).0
proper_writes p form e = tt

module _ (g : Setting) (present copied : ℕ → State → Outcome) (called : (procedure : ℕ) (s : State) → AgreeFrom s (present procedure s) (copied procedure s)) where
  mutual
    -- statements
    pub block_agrees : (body : Block) → IsTrue (proper_body g.program body) → (s : State) → AgreeFrom s (block_meaning Present g present body s) (block_meaning Copied g copied body s)
    block_agrees End there s = from_here s
    block_agrees (Then line form rest) there s =
        let parts = both (proper_form g.program form) (proper_body g.program rest) there in
        from_after
        s
        (form_meaning Present g present line form s)
        (form_meaning Copied g copied line form s)
        (block_meaning Present g present rest)
        (block_meaning Copied g copied rest)
        (form_agrees line form parts.0 s)
        (λ t. block_agrees rest parts.1 t)

    -- each of them
    form_agrees : (line : ℕ) (form : Plain) → IsTrue (proper_form g.program form) → (s : State) → AgreeFrom s (form_meaning Present g present line form s) (form_meaning Copied g copied line form s)
    form_agrees line (Do index body) there s =
        let parts = both (has_index g.program index) (proper_body g.program body) there in
        from_after
        s
        (over (segments_over g index) (λ k t. block_meaning Present g present body (on_own (bound index k) t)) s)
        (over (segments_over g index) (λ k t. block_meaning Copied g copied body (on_own (bound index k) t)) s)
        (λ t. Went (on_own (bound index 0) t))
        (λ t. Went (on_own (bound index 0) t))
        (from_over
        (segments_over g index)
        (λ k t. block_meaning Present g present body (on_own (bound index k) t))
        (λ k t. block_meaning Copied g copied body (on_own (bound index k) t))
        (λ k t. block_agrees body parts.1 (on_own (bound index k) t))
        s)
        (λ t. from_here (on_own (bound index 0) t))
    form_agrees line (DoIn sub index body) there s =
        let parts = both (has_index g.program sub) (has_index g.program index && proper_body g.program body) there in
        let others = both (has_index g.program index) (proper_body g.program body) parts.1 in
        from_after
        s
        (over (pieces_over g s.own sub index) (λ k t. block_meaning Present g present body (on_own (bound sub k) t)) s)
        (over (pieces_over g s.own sub index) (λ k t. block_meaning Copied g copied body (on_own (bound sub k) t)) s)
        (λ t. Went (on_own (bound sub 0) t))
        (λ t. Went (on_own (bound sub 0) t))
        (from_over
        (pieces_over g s.own sub index)
        (λ k t. block_meaning Present g present body (on_own (bound sub k) t))
        (λ k t. block_meaning Copied g copied body (on_own (bound sub k) t))
        (λ k t. block_agrees body others.1 (on_own (bound sub k) t))
        s)
        (λ t. from_here (on_own (bound sub 0) t))
    form_agrees line (Pardo indices wheres body) there s =
        let ranked = both (has_length most_pardo indices) (list_all (has_index g.program) indices && (list_all (proper_cond g.program) wheres && proper_body g.program body)) there in
        let indexed = both (list_all (has_index g.program) indices) (list_all (proper_cond g.program) wheres && proper_body g.program body) ranked.1 in
        let parts = both (list_all (proper_cond g.program) wheres) (proper_body g.program body) indexed.1 in
        from_after
        s
        (over (tuples (box_of g.spaces indices)) (λ tuple t. iteration wheres (block_meaning Present g present body) (on_own (taken_up g indices tuple) t)) (on_own (unset g) s))
        (over (tuples (box_of g.spaces indices)) (λ tuple t. iteration wheres (block_meaning Copied g copied body) (on_own (taken_up g indices tuple) t)) (on_own (unset g) s))
        (λ t. Went (on_own (left g indices) t))
        (λ t. Went (on_own (left g indices) t))
        (from_over
        (tuples (box_of g.spaces indices))
        (λ tuple t. iteration wheres (block_meaning Present g present body) (on_own (taken_up g indices tuple) t))
        (λ tuple t. iteration wheres (block_meaning Copied g copied body) (on_own (taken_up g indices tuple) t))
        (λ tuple t.
        from_unless
        (all_met (taken_up g indices tuple t.own) wheres)
        (block_meaning Present g present body)
        (block_meaning Copied g copied body)
        (on_own (taken_up g indices tuple) t)
        (block_agrees body parts.1 (on_own (taken_up g indices tuple) t)))
        (on_own (unset g) s))
        (λ t. from_here (on_own (left g indices) t))
    form_agrees line (If test body) there s =
        let parts = both (proper_cond g.program test) (proper_body g.program body) there in
        from_chosen line (condition s.own test) (block_meaning Present g present body) Went (block_meaning Copied g copied body) Went s (block_agrees body parts.1 s) (from_here s)
    form_agrees line (IfElse test body other) there s =
        let tested = both (proper_cond g.program test) (proper_body g.program body && proper_body g.program other) there in
        let parts = both (proper_body g.program body) (proper_body g.program other) tested.1 in
        from_chosen
        line
        (condition s.own test)
        (block_meaning Present g present body)
        (block_meaning Present g present other)
        (block_meaning Copied g copied body)
        (block_meaning Copied g copied other)
        s
        (block_agrees body parts.0 s)
        (block_agrees other parts.1 s)
    form_agrees line (Call procedure) there s = called procedure s
    form_agrees line form there s = (λ fine. statement_agrees g line form s (proper_writes g.program form there) fine, statement_extends Present g line form s, statement_extends Copied g line form s)

module _ (g : Setting) (proper : IsProper g.program) where
  -- procedures that may call so deep
  pub calls_agree : (d procedure : ℕ) (s : State) → AgreeFrom s (calls Present g d procedure s) (calls Copied g d procedure s)
  calls_agree zero procedure s = from_here s
  calls_agree (suc d) procedure s =
      from_after
      s
      (block_meaning Present g (calls Present g d) (procedure_body g procedure) (on_own none_bound s))
      (block_meaning Copied g (calls Copied g d) (procedure_body g procedure) (on_own none_bound s))
      (λ t. Went (on_own (with_values s.own.values) t))
      (λ t. Went (on_own (with_values s.own.values) t))
      (block_agrees g (calls Present g d) (calls Copied g d) (calls_agree d) (procedure_body g procedure) (procedure_there g.program g.program.procedures procedure proper.procedures) (on_own none_bound s))
      (λ t. from_here (on_own (with_values s.own.values) t))

  -- both meanings from the start
  meanings_agree : Agree (sequential g) (by_epochs g)
  meanings_agree =
      (block_agrees g (calls Present g call_depth) (calls Copied g call_depth) (calls_agree call_depth) g.program.body (body_there g.program proper) (start_state g)).0 (fine_start g)

-- outcomes that agree have one first refusal
refusal_agrees : (p c : Outcome) → Agree p c → refusal_of c ≡ refusal_of p
refusal_agrees p c (inl (same, fine)) = sym (ap refusal_of same)
refusal_agrees p c (inr parted) =
    ap (λ o. refused o (trap_of c)) (clash_is [] parted.log (log_of c) parted.clash.0 parted.copied parted.clash.1)
    ∙ sym (ap (λ o. refused o (trap_of p)) (clash_is [] parted.log (log_of p) parted.clash.0 parted.present parted.clash.1))

-- they have one log up to the first clash
log_agrees : (p c : Outcome) → Agree p c → up_to_clash [] (log_of c) ≡ up_to_clash [] (log_of p)
log_agrees p c (inl (same, fine)) = sym (ap (λ o. up_to_clash [] (log_of o)) same)
log_agrees p c (inr parted) =
    up_to_clash_on parted.log (log_of c) parted.clash.0 parted.clash.1 parted.copied
    ∙ sym (up_to_clash_on parted.log (log_of p) parted.clash.0 parted.clash.1 parted.present)

-- they are one where no access clashes
outcome_agrees : (p c : Outcome) → Agree p c → first_clash [] (log_of p) ≡ None → c ≡ p
outcome_agrees p c (inl (same, fine)) e = sym same
outcome_agrees p c (inr parted) e =
    let clash : first_clash [] (log_of p) ≡ Some parted.clash.0 = clash_is [] parted.log (log_of p) parted.clash.0 parted.present parted.clash.1 in absurd cc

-- the epoch meaning has the first refusal of the sequential meaning
pub same_refusal : (g : Setting) → IsProper g.program → refusal_of (by_epochs g) ≡ first_refusal g
same_refusal g proper = refusal_agrees (sequential g) (by_epochs g) (meanings_agree g proper)

-- up to and with the first clash the logs are the same
pub same_log : (g : Setting) → IsProper g.program → up_to_clash [] (log_of (by_epochs g)) ≡ up_to_clash [] (log_of (sequential g))
same_log g proper = log_agrees (sequential g) (by_epochs g) (meanings_agree g proper)

-- where no access clashes the outcomes are the same
pub same_outcome : (g : Setting) → IsProper g.program → first_clash [] (log_of (sequential g)) ≡ None → by_epochs g ≡ sequential g
same_outcome g proper = outcome_agrees (sequential g) (by_epochs g) (meanings_agree g proper)
