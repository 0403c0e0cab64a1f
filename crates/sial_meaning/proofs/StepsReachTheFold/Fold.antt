-- Steps of the rest of the work reach the fold.
use Rattle.std.proofs.Common.{◌≡◌, ℕ, zero, suc, ◌+◌, List, [], ◌∷◌, ◌++◌, Bool, true, false, ◌&&◌, length, refl, sym, ap, ◌∙◌, subst, IsTrue, arith}
use Rattle.std.specs.List.{list_all}
use Rattle.std.proofs.lemmas.Bool.{ltb-true, lt-ltb, le-ltb}
use Rattle.std.proofs.lemmas.List.{length-replicate}
use Rattle.sial_syntax.specs.Agreeing.{share_any}
use Rattle.sial_syntax.specs.Boxes.{volume, tuples}
use Rattle.sial_syntax.specs.Limits.{most_pardo}
use Rattle.sial_syntax.specs.Numbering.{size, sizes, entry_of, stop_at}
use Rattle.sial_syntax.specs.Parts.{indices_bound}
use Rattle.sial_syntax.specs.Proper.{IsProper, has_index, has_length, proper_body, proper_form, proper_cond}
use Rattle.sial_syntax.specs.SideRules.{IsGranted}
use Rattle.sial_syntax.specs.Spaces.{first_of, count_of, box_of, onto_firsts, pieces_of}
use Rattle.sial_syntax.specs.Tree.{Block, End, Then, Plain, Do, DoIn, Pardo, If, IfElse, Call}
use Rattle.sial_syntax.specs.Visits.{visits, inner_visits}
use Rattle.sial_meaning.specs.Laws.{ReachesFold}
use Rattle.sial_meaning.specs.Meaning.{block_meaning, form_meaning, calls, call_depth, condition, over, on_own, then_own, iteration, taken_up, left}
use Rattle.sial_meaning.specs.Own.{value_of, none_bound, with_values, unset}
use Rattle.sial_meaning.specs.Control.{called, loop_at, pardo_at}
use Rattle.sial_meaning.specs.Rest.{Rest, Over, Next, Turn, Join, Back, Within, depth, push}
use Rattle.sial_meaning.specs.Step.{moved, led, done}
use Rattle.sial_meaning.specs.Setting.{Setting, procedure_body}
use Rattle.sial_meaning.specs.State.{State, start_state}
use Rattle.sial_meaning.specs.Statement.{Outcome, Went, Reading, statement}
use Rattle.sial_meaning.proofs.StepsReachTheFold.Steps.{Comes, Leads, leads_step, leads_here, leads_after, leads_past, comes_here, comes_moved}
use Rattle.sial_meaning.proofs.StepsReachTheFold.BoundNumbers.{Kept, kept_went, calls_go, block_kept, form_kept, all_bound_len}
use Rattle.sial_meaning.proofs.StepsReachTheFold.Rules.{Unbroken, both, unbroken_cons, unbroken_append, unbound_there, body_sound, procedure_sound}
use Rattle.sial_meaning.proofs.StepsReachTheFold.Turns.{depth_pushed, first_among, over_box, comes_branched, comes_entered, leads_within}

module _ (reading : Reading) (g : Setting) (proper : IsProper g.program) (granted : IsGranted g.program) where
  -- calls that may go so deep lead where they mean to
  abbrev pub CallsLead : ℕ → Type 0
  CallsLead d = (procedure at line : ℕ) (r : Rest) (s : State) → d + depth r ≡ call_depth → length s.own.values ≡ length g.program.indices → Leads reading g (Next at line (Call procedure) r) s (done (calls reading g d procedure s) r)

  module _ (d : ℕ) (calls_lead : CallsLead d) where
    -- a body leaves the numbers of the indices that are bound there
    body_keeps : (indices : List ℕ) (within : Bool) (body : Block) → Unbroken g.program (visits indices within body) → (s s1 : State) → length s.own.values ≡ length g.program.indices → block_meaning reading g (calls reading g d) body s ≡ Went s1 → Kept indices s.own s1.own
    body_keeps indices within body e s s1 len went =
        kept_went indices s.own (block_meaning reading g (calls reading g d) body s) s1 (block_kept reading g (calls reading g d) (calls_go reading g d) indices within body e s) went

    mutual
      -- statements before the rest lead to the rest, with the state of the fold
      pub block_leads : (indices : List ℕ) (within : Bool) (body : Block) → IsTrue (proper_body g.program body) → Unbroken g.program (visits indices within body) → (at : ℕ) (r : Rest) (s : State) → d + depth r ≡ call_depth → length s.own.values ≡ length g.program.indices → Leads reading g (push at body r) s (done (block_meaning reading g (calls reading g d) body s) r)
      block_leads indices within End there e at r s deep len = leads_here reading g r s
      block_leads indices within (Then line form more) there e at r s deep len =
          let parts = both (proper_form g.program form) (proper_body g.program more) there in
          let first = unbroken_cons g.program (record { line = line; form = form; bound = indices; within = within }) (inner_visits indices within form ++ visits indices within more) e in
          let inner = unbroken_append g.program (inner_visits indices within form) (visits indices within more) first.1 in
          let out = unbound_there g.program (record { line = line; form = form; bound = indices; within = within }) first.0 in
          leads_after
          reading
          g
          (form_meaning reading g (calls reading g d) line form s)
          (block_meaning reading g (calls reading g d) more)
          (Next at line form (push (at + size form) more r))
          (push (at + size form) more r)
          r
          s
          (form_leads indices within form parts.0 out inner.0 at line (push (at + size form) more r) s (ap (λ n. d + n) (depth_pushed (at + size form) more r) ∙ deep) len)
          (λ s1 went.
          let kept = kept_went indices s.own (form_meaning reading g (calls reading g d) line form s) s1 (form_kept reading g (calls reading g d) (calls_go reading g d) indices within line form out inner.0 s) went in
          block_leads indices within more parts.1 inner.1 (at + size form) r s1 deep (kept.len ∙ len))

      -- so does each
      pub form_leads : (indices : List ℕ) (within : Bool) (form : Plain) → IsTrue (proper_form g.program form) → share_any (indices_bound form) indices ≡ false → Unbroken g.program (inner_visits indices within form) → (at line : ℕ) (r : Rest) (s : State) → d + depth r ≡ call_depth → length s.own.values ≡ length g.program.indices → Leads reading g (Next at line form r) s (done (form_meaning reading g (calls reading g d) line form s) r)
      form_leads indices within (Do index body) there out e at line r s deep len =
          let parts = both (has_index g.program index) (proper_body g.program body) there in
          leads_step
          reading
          g
          (Next at line (Do index body) r)
          s
          (done (form_meaning reading g (calls reading g d) line (Do index body) s) r)
          (comes_entered
          reading
          g
          (loop_at at index body)
          (first_of g.spaces index)
          (count_of g.spaces index)
          r
          (block_meaning reading g (calls reading g d) body)
          (length g.program.indices)
          (ltb-true index (length g.program.indices) parts.0)
          (λ t t1 l went. let k = body_keeps (index ∷ indices) within body e t t1 l went in (k.len ∙ l, k.same index (first_among index indices)))
          (λ last t l. block_leads (index ∷ indices) within body parts.1 e (at + 1) (Turn (loop_at at index body) last r) t deep l)
          s
          len)
      form_leads indices within (DoIn sub index body) there out e at line r s deep len =
          let parts = both (has_index g.program sub) (has_index g.program index && proper_body g.program body) there in
          let others = both (has_index g.program index) (proper_body g.program body) parts.1 in
          leads_step
          reading
          g
          (Next at line (DoIn sub index body) r)
          s
          (done (form_meaning reading g (calls reading g d) line (DoIn sub index body) s) r)
          (comes_entered
          reading
          g
          (loop_at at sub body)
          1
          (pieces_of g.spaces sub (value_of s.own index))
          r
          (block_meaning reading g (calls reading g d) body)
          (length g.program.indices)
          (ltb-true sub (length g.program.indices) parts.0)
          (λ t t1 l went. let k = body_keeps (sub ∷ indices) within body e t t1 l went in (k.len ∙ l, k.same sub (first_among sub indices)))
          (λ last t l. block_leads (sub ∷ indices) within body others.1 e (at + 1) (Turn (loop_at at sub body) last r) t deep l)
          s
          len)
      form_leads indices within (Pardo these wheres body) there out e at line r s deep len =
          let ranked = both (has_length most_pardo these) (list_all (has_index g.program) these && (list_all (proper_cond g.program) wheres && proper_body g.program body)) there in
          let indexed = both (list_all (has_index g.program) these) (list_all (proper_cond g.program) wheres && proper_body g.program body) ranked.1 in
          let parts = both (list_all (proper_cond g.program) wheres) (proper_body g.program body) indexed.1 in
          let turn : List ℕ → State → Outcome = λ tuple t. iteration wheres (block_meaning reading g (calls reading g d) body) (on_own (taken_up g these tuple) t) in
          leads_step
          reading
          g
          (Next at line (Pardo these wheres body) r)
          s
          (done (then_own (over (tuples (box_of g.spaces these)) turn (on_own (unset g) s)) (left g these)) r)
          (comes_moved
          reading
          g
          (Within (pardo_at at these wheres body) 0 r)
          (on_own (unset g) s)
          (done (then_own (over (tuples (box_of g.spaces these)) turn (on_own (unset g) s)) (left g these)) r)
          (subst
          (λ (o : Outcome). Leads reading g (Within (pardo_at at these wheres body) 0 r) (on_own (unset g) s) (done (then_own o (left g these)) r))
          (sym (over_box (box_of g.spaces these) turn (on_own (unset g) s)))
          (leads_within
          reading
          g
          (pardo_at at these wheres body)
          r
          (block_meaning reading g (calls reading g d) body)
          (length g.program.indices)
          (λ tuple t l. all_bound_len these (onto_firsts g.spaces these tuple) (unset g t.own) ∙ l)
          (λ t t1 l went. (body_keeps (these ++ indices) true body e t t1 l went).len ∙ l)
          (λ number t l. block_leads (these ++ indices) true body parts.1 e (at + 1 + length wheres) (Within (pardo_at at these wheres body) number r) t deep l)
          (volume (box_of g.spaces these))
          0
          (omega arith)
          (on_own (unset g) s)
          len)))
      form_leads indices within (If test body) there out e at line r s deep len =
          let parts = both (proper_cond g.program test) (proper_body g.program body) there in
          leads_step
          reading
          g
          (Next at line (If test body) r)
          s
          (done (form_meaning reading g (calls reading g d) line (If test body) s) r)
          (comes_branched
          reading
          g
          line
          (condition s.own test)
          (push (at + 1) body (Join (at + 1 + sizes body) r))
          r
          r
          (block_meaning reading g (calls reading g d) body)
          Went
          s
          (leads_past
          reading
          g
          (block_meaning reading g (calls reading g d) body s)
          (push (at + 1) body (Join (at + 1 + sizes body) r))
          r
          (at + 1 + sizes body)
          s
          (block_leads indices within body parts.1 e (at + 1) (Join (at + 1 + sizes body) r) s deep len))
          (leads_here reading g r s))
      form_leads indices within (IfElse test body other) there out e at line r s deep len =
          let tested = both (proper_cond g.program test) (proper_body g.program body && proper_body g.program other) there in
          let parts = both (proper_body g.program body) (proper_body g.program other) tested.1 in
          let ways = unbroken_append g.program (visits indices within body) (visits indices within other) e in
          leads_step
          reading
          g
          (Next at line (IfElse test body other) r)
          s
          (done (form_meaning reading g (calls reading g d) line (IfElse test body other) s) r)
          (comes_branched
          reading
          g
          line
          (condition s.own test)
          (push (at + 1) body (Join (at + 1 + sizes body) r))
          (push (at + 2 + sizes body) other (Join (at + 2 + sizes body + sizes other) r))
          r
          (block_meaning reading g (calls reading g d) body)
          (block_meaning reading g (calls reading g d) other)
          s
          (leads_past
          reading
          g
          (block_meaning reading g (calls reading g d) body s)
          (push (at + 1) body (Join (at + 1 + sizes body) r))
          r
          (at + 1 + sizes body)
          s
          (block_leads indices within body parts.0 ways.0 (at + 1) (Join (at + 1 + sizes body) r) s deep len))
          (leads_past
          reading
          g
          (block_meaning reading g (calls reading g d) other s)
          (push (at + 2 + sizes body) other (Join (at + 2 + sizes body + sizes other) r))
          r
          (at + 2 + sizes body + sizes other)
          s
          (block_leads indices within other parts.1 ways.1 (at + 2 + sizes body) (Join (at + 2 + sizes body + sizes other) r) s deep len)))
      form_leads indices within (Call procedure) there out e at line r s deep len = calls_lead procedure at line r s deep len
      form_leads indices within form there out e at line r s deep len =
          leads_step reading g (Next at line form r) s (done (statement reading g line form s) r) (comes_here reading g (done (statement reading g line form s) r))

  -- calls lead where they mean to, however deep they may go
  pub calls_lead : (d : ℕ) → CallsLead d
  calls_lead zero procedure at line r s deep len =
      leads_step
      reading
      g
      (Next at line (Call procedure) r)
      s
      (moved r s)
      (subst
      (λ (b : Bool). Comes reading g (led s (called g b procedure r s.own)) (moved r s))
      (sym (le-ltb (depth r) call_depth (omega (arith, deep))))
      (comes_here reading g (moved r s)))
  calls_lead (suc d) procedure at line r s deep len =
      let body : Block = procedure_body g procedure in
      let back : Rest = Back (entry_of g.program procedure + sizes body) s.own.values r in
      let sound = procedure_sound g proper granted procedure in
      let o : Outcome = block_meaning reading g (calls reading g d) body (on_own none_bound s) in
      leads_step
      reading
      g
      (Next at line (Call procedure) r)
      s
      (done (then_own o (with_values s.own.values)) r)
      (subst
      (λ (b : Bool). Comes reading g (led s (called g b procedure r s.own)) (done (then_own o (with_values s.own.values)) r))
      (sym (lt-ltb (depth r) call_depth (omega (arith, deep))))
      (comes_moved
      reading
      g
      (push (entry_of g.program procedure) body back)
      (on_own none_bound s)
      (done (then_own o (with_values s.own.values)) r)
      (leads_after
      reading
      g
      o
      (λ t. Went (on_own (with_values s.own.values) t))
      (push (entry_of g.program procedure) body back)
      back
      r
      (on_own none_bound s)
      (block_leads
      d
      (calls_lead d)
      []
      false
      body
      sound.proper
      sound.unbroken
      (entry_of g.program procedure)
      back
      (on_own none_bound s)
      (omega (arith, deep))
      (length-replicate (length s.own.values) 0 ∙ len))
      (λ t went. leads_step reading g back t (moved r (on_own (with_values s.own.values) t)) (comes_here reading g (moved r (on_own (with_values s.own.values) t)))))))

  -- from the start to the end
  pub reaches_fold : ReachesFold reading g
  reaches_fold =
      let sound = body_sound g.program proper granted in
      block_leads
      call_depth
      (calls_lead call_depth)
      []
      false
      g.program.body
      sound.proper
      sound.unbroken
      0
      (Over (stop_at g.program))
      (start_state g)
      refl
      (length-replicate (length g.program.indices) 0)
