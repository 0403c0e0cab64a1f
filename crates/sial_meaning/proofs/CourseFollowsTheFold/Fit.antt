-- At each point of the course what is left to do stands where the rules grant it.
use Rattle.std.proofs.Common.{◌≡◌, ℕ, zero, suc, ◌+◌, List, false, ◌&&◌, length, nat_lt, refl, ap, ◌∙◌, subst, arith, inl}
use Rattle.std.specs.List.{list_all}
use Rattle.std.proofs.lemmas.Bool.{or_parts}
use Rattle.sial_syntax.proofs.AmongLemmas.{among_left, among_right, none_at, among_from}
use Rattle.sial_syntax.specs.declared.condition.Cond.{Cond}
use Rattle.sial_syntax.specs.Agreeing.{contains, share_any, has_twice}
use Rattle.sial_syntax.specs.Limits.{most_pardo}
use Rattle.sial_syntax.specs.Numbering.{sizes}
use Rattle.sial_syntax.specs.Proper.{has_index, has_length, proper_body, proper_cond}
use Rattle.sial_syntax.specs.Spaces.{first_of, count_of, pieces_of}
use Rattle.sial_syntax.specs.Tree.{Block, Do, DoIn, Pardo, If, IfElse, Call}
use Rattle.sial_syntax.specs.Visits.{visits}
use Rattle.sial_meaning.specs.declared.trap.Trap.{Trap}
use Rattle.sial_meaning.specs.Control.{loop_at}
use Rattle.sial_meaning.specs.Course.{Point, stepped, next_from, course}
use Rattle.sial_meaning.specs.Sound.{IsGrantedSetting}
use Rattle.sial_meaning.specs.Meaning.{call_depth, condition, left}
use Rattle.sial_meaning.specs.Own.{Own, value_of, unset}
use Rattle.sial_meaning.specs.Rest.{Rest, Over, Next, Turn, Join, Back, Within, depth, push}
use Rattle.sial_meaning.specs.Step.{Stepped, Moved, Halted, Ended, step_from}
use Rattle.sial_meaning.specs.Setting.{Setting}
use Rattle.sial_meaning.specs.State.{State}
use Rattle.sial_meaning.specs.Statement.{Copied, statement}
use Rattle.sial_meaning.proofs.PardosKeepTheControl.Changes.{unset_again, bound_nones}
use Rattle.sial_meaning.proofs.PardosKeepTheControl.Calls.{PardoStands}
use Rattle.sial_meaning.proofs.PardosKeepTheControl.Fold.{OnlyBound}
use Rattle.sial_meaning.proofs.CourseFollowsTheFold.Rest.{Numbered, FormStands, RestStands, Fit, FitTo, fit_of, fit_pushed, entered_fit, turned_fit, branched_fit, called_fit, done_fit, start_fit}
use Rattle.sial_meaning.proofs.StepsReachTheFold.KeptNumbers.{statement_goes}
use Rattle.sial_meaning.proofs.StepsReachTheFold.Rules.{both, unbroken_append}

-- as a pardo is left the worker's part is as it was entered
pub left_is : (g : Setting) (these indices : List ℕ) (own : Own) → share_any these indices ≡ false → OnlyBound indices own → left g these (unset g own) ≡ unset g own
left_is g these indices own out only =
    bound_nones these (unset g (unset g own)) (λ i here. only i (none_at (contains indices) i these out (among_from i these here))) ∙ unset_again g own

module _ (g : Setting) (set : IsGrantedSetting g) where
  -- a pardo that is the first of what is left
  pub pardo_stands : (d : ℕ) (indices : List ℕ) (line : ℕ) (these : List ℕ) (wheres : List Cond) (body : Block) → FormStands g set d indices line (Pardo these wheres body) → PardoStands g set d indices these body × (share_any these indices ≡ false)
  pardo_stands d indices line these wheres body stands =
      let ranked = both (has_length most_pardo these) (list_all (has_index g.program) these && (list_all (proper_cond g.program) wheres && proper_body g.program body)) stands.proper in
      let indexed = both (list_all (has_index g.program) these) (list_all (proper_cond g.program) wheres && proper_body g.program body) ranked.1 in
      let parts = both (list_all (proper_cond g.program) wheres) (proper_body g.program body) indexed.1 in
      let apart = or_parts (share_any these indices) (has_twice these) stands.first in
      (record { proper = parts.1; once = apart.1; unbroken = stands.unbroken; outer = stands.outer }, apart.0)

  -- work at the end of a pardo
  pardo_fit : (d : ℕ) (indices : List ℕ) (line : ℕ) (these : List ℕ) (wheres : List Cond) (body : Block) (rest : Rest) (own : Own) (s : State) → d + depth rest ≡ call_depth → FormStands g set d indices line (Pardo these wheres body) → RestStands g set d indices rest → Numbered g indices own → s.own ≡ left g these (unset g own) → Fit g set (record { rest = rest; state = s })
  pardo_fit d indices line these wheres body rest own s deep stands others numbered e =
      let same : s.own ≡ unset g own = e ∙ left_is g these indices own (pardo_stands d indices line these wheres body stands).1 numbered.only in
      fit_of
      g
      set
      d
      indices
      rest
      s
      deep
      others
      (record { len = ap (λ (o : Own). length o.values) same ∙ numbered.len; only = λ i out. ap (λ (o : Own). value_of o i) same ∙ numbered.only i out })

  -- where a step that isn't a pardo's leads
  stepped_fit : (p : Point) (t : Stepped) → Fit g set p.work → FitTo g set t → Fit g set (stepped p t).work
  stepped_fit p (Moved w) f h = h
  stepped_fit p (Halted trap s) f h = f
  stepped_fit p Ended f h = f

  -- the next point
  next_fit : (r : Rest) (s : State) (traps : List Trap) → Fit g set (record { rest = r; state = s }) → Fit g set (next_from g (record { work = record { rest = r; state = s }; traps = traps }) r).work
  next_fit (Over at) s traps f = f
  next_fit (Next at line (Do index body) rest) s traps f =
      let stands = f.at.stands.0 in
      stepped_fit
      (record { work = record { rest = Next at line (Do index body) rest; state = s }; traps = traps })
      (step_from Copied g (Next at line (Do index body) rest) s)
      f
      (entered_fit
      g
      set
      f.d
      f.indices
      (loop_at at index body)
      (first_of g.spaces index)
      (count_of g.spaces index)
      rest
      s
      f.at.deep
      (record { proper = (both (has_index g.program index) (proper_body g.program body) stands.proper).1; unbroken = stands.unbroken; outer = stands.outer })
      f.at.stands.1
      f.at.numbered)
  next_fit (Next at line (DoIn sub index body) rest) s traps f =
      let stands = f.at.stands.0 in
      let first = both (has_index g.program sub) (has_index g.program index && proper_body g.program body) stands.proper in
      stepped_fit
      (record { work = record { rest = Next at line (DoIn sub index body) rest; state = s }; traps = traps })
      (step_from Copied g (Next at line (DoIn sub index body) rest) s)
      f
      (entered_fit
      g
      set
      f.d
      f.indices
      (loop_at at sub body)
      1
      (pieces_of g.spaces sub (value_of s.own index))
      rest
      s
      f.at.deep
      (record { proper = (both (has_index g.program index) (proper_body g.program body) first.1).1; unbroken = stands.unbroken; outer = stands.outer })
      f.at.stands.1
      f.at.numbered)
  next_fit (Next at line (Pardo these wheres body) rest) s traps f =
      pardo_fit f.d f.indices line these wheres body rest s.own _ f.at.deep f.at.stands.0 f.at.stands.1 f.at.numbered refl
  next_fit (Next at line (If test body) rest) s traps f =
      let stands = f.at.stands.0 in
      stepped_fit
      (record { work = record { rest = Next at line (If test body) rest; state = s }; traps = traps })
      (step_from Copied g (Next at line (If test body) rest) s)
      f
      (branched_fit
      g
      set
      line
      (condition s.own test)
      (push (at + 1) body (Join (at + 1 + sizes body) rest))
      rest
      s
      (fit_pushed
      g
      set
      f.d
      f.indices
      (at + 1)
      body
      (Join (at + 1 + sizes body) rest)
      s
      f.at.deep
      (record { proper = (both (proper_cond g.program test) (proper_body g.program body) stands.proper).1; unbroken = stands.unbroken; outer = stands.outer })
      f.at.stands.1
      f.at.numbered)
      (fit_of g set f.d f.indices rest s f.at.deep f.at.stands.1 f.at.numbered))
  next_fit (Next at line (IfElse test body other) rest) s traps f =
      let stands = f.at.stands.0 in
      let tested = both (proper_cond g.program test) (proper_body g.program body && proper_body g.program other) stands.proper in
      let parts = both (proper_body g.program body) (proper_body g.program other) tested.1 in
      let ways = unbroken_append g.program (visits f.indices false body) (visits f.indices false other) stands.unbroken in
      stepped_fit
      (record { work = record { rest = Next at line (IfElse test body other) rest; state = s }; traps = traps })
      (step_from Copied g (Next at line (IfElse test body other) rest) s)
      f
      (branched_fit
      g
      set
      line
      (condition s.own test)
      (push (at + 1) body (Join (at + 1 + sizes body) rest))
      (push (at + 2 + sizes body) other (Join (at + 2 + sizes body + sizes other) rest))
      s
      (fit_pushed
      g
      set
      f.d
      f.indices
      (at + 1)
      body
      (Join (at + 1 + sizes body) rest)
      s
      f.at.deep
      (record { proper = parts.0; unbroken = ways.0; outer = λ v m. stands.outer v (among_left v (visits f.indices false body) (visits f.indices false other) m) })
      f.at.stands.1
      f.at.numbered)
      (fit_pushed
      g
      set
      f.d
      f.indices
      (at + 2 + sizes body)
      other
      (Join (at + 2 + sizes body + sizes other) rest)
      s
      f.at.deep
      (record { proper = parts.1; unbroken = ways.1; outer = λ v m. stands.outer v (among_right v (visits f.indices false body) (visits f.indices false other) m) })
      f.at.stands.1
      f.at.numbered))
  next_fit (Next at line (Call procedure) rest) s traps f =
      let stands = f.at.stands.0 in
      stepped_fit
      (record { work = record { rest = Next at line (Call procedure) rest; state = s }; traps = traps })
      (step_from Copied g (Next at line (Call procedure) rest) s)
      f
      (called_fit
      g
      set
      f.d
      f.indices
      (nat_lt (depth rest) call_depth)
      procedure
      rest
      s
      f.at.deep
      (stands.here.outer refl procedure (inl refl))
      (stands.here.shallow procedure (inl refl))
      f.at.stands.1
      f.at.numbered)
  next_fit (Next at line form rest) s traps f =
      stepped_fit
      (record { work = record { rest = Next at line form rest; state = s }; traps = traps })
      (step_from Copied g (Next at line form rest) s)
      f
      (done_fit g set f.d f.indices (statement Copied g line form s) rest s.own f.at.deep f.at.stands.1 f.at.numbered (statement_goes Copied g line form s))
  next_fit (Turn loop last rest) s traps f =
      let stands = f.at.stands in
      stepped_fit
      (record { work = record { rest = Turn loop last rest; state = s }; traps = traps })
      (step_from Copied g (Turn loop last rest) s)
      f
      (turned_fit
      g
      set
      f.d
      stands.0
      (nat_lt (value_of s.own loop.index) last)
      loop
      last
      rest
      s
      f.at.deep
      stands.2
      stands.3
      (subst (λ (i : List ℕ). Numbered g i s.own) stands.1 f.at.numbered))
  next_fit (Join at rest) s traps f = fit_of g set f.d f.indices rest s f.at.deep f.at.stands f.at.numbered
  next_fit (Back at values rest) s traps f =
      let deep : f.d + (depth rest + 1) ≡ call_depth = f.at.deep in
      fit_of g set (suc f.d) f.at.stands.0 rest _ (omega (arith, deep)) f.at.stands.2 (f.at.stands.1 s.own)
  next_fit (Within pardo number rest) s traps f = absurd f.at.stands

  -- each point of the course
  pub course_fit : (t : ℕ) → Fit g set (course g t).work
  course_fit zero = start_fit g set
  course_fit (suc t) = next_fit (course g t).work.rest (course g t).work.state (course g t).traps (course_fit t)
