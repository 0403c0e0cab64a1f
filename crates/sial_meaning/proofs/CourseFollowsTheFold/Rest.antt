-- What is left to do at a point of the course stands where the rules grant it, and no index has a number but those that are bound there.
use Rattle.std.proofs.Common.{◌≡◌, ℕ, zero, suc, ◌+◌, List, [], ◌∷◌, ◌++◌, Bool, true, false, eqb, Ok, Err, length, get_or, set, refl, sym, ap, ◌∙◌, subst, arith, inl, inr, IsTrue}
use Rattle.std.proofs.lemmas.Bool.{or_parts, or_from, eqb-true, eqb-false}
use Rattle.std.proofs.lemmas.List.{length-set, length-replicate, get_or-set_other}
use Rattle.sial_syntax.proofs.AmongLemmas.{Among, among_left, among_right}
use Rattle.sial_syntax.proofs.DepthLemmas.{shallow}
use Rattle.sial_syntax.specs.Agreeing.{contains}
use Rattle.sial_syntax.specs.Numbering.{size, sizes, entry_of, stop_at}
use Rattle.sial_syntax.specs.Proper.{proper_body, proper_form}
use Rattle.sial_syntax.specs.Shapes.{breaks_rebound}
use Rattle.sial_syntax.specs.Tree.{Block, End, Then, Plain}
use Rattle.sial_syntax.specs.Visits.{Visit, visits, inner_visits}
use Rattle.sial_meaning.specs.Sound.{IsGrantedSetting}
use Rattle.sial_meaning.specs.LocalStep.{Answer}
use Rattle.sial_meaning.specs.Meaning.{call_depth, on_own}
use Rattle.sial_meaning.specs.Own.{Own, value_of, bound, none_bound, with_values}
use Rattle.sial_meaning.specs.Control.{entered, turned, branched, called}
use Rattle.sial_meaning.specs.Rest.{LoopAt, Rest, Over, Next, Turn, Join, Back, Within, depth, push}
use Rattle.sial_meaning.specs.Step.{Work, Stepped, Moved, Halted, Ended, led, done, start_work}
use Rattle.sial_meaning.specs.Setting.{Setting, procedure_body}
use Rattle.sial_meaning.specs.State.{State}
use Rattle.sial_meaning.specs.Statement.{Outcome, Went, Stopped}
use Rattle.sial_meaning.proofs.PardosKeepTheControl.Calls.{only_none, zeros_at}
use Rattle.sial_meaning.proofs.PardosKeepTheControl.Fold.{OnlyBound}
use Rattle.sial_meaning.proofs.CourseFollowsTheFold.Stand.{CalledOutside, Outer, main_outer, procedure_outer}
use Rattle.sial_meaning.proofs.StepsReachTheFold.KeptNumbers.{GoesWith}
use Rattle.sial_meaning.proofs.StepsReachTheFold.Rules.{Unbroken, both, unbroken_cons, unbroken_append, body_sound, procedure_sound}
use Rattle.sial_meaning.proofs.StepsReachTheFold.Turns.{depth_pushed}

-- one index more may be bound
only_into : (indices : List ℕ) (index k : ℕ) (own : Own) → OnlyBound indices own → OnlyBound (index ∷ indices) (bound index k own)
only_into indices index k own only i out =
    let parts = or_parts (eqb index i) (contains indices i) out in get_or-set_other own.values index i k 0 (λ e. eqb-false index i parts.0 (sym e)) ∙ only i parts.1

-- an index that was bound again
only_again : (indices : List ℕ) (index k : ℕ) (own : Own) → OnlyBound (index ∷ indices) own → OnlyBound (index ∷ indices) (bound index k own)
only_again indices index k own only i out =
    let parts = or_parts (eqb index i) (contains indices i) out in get_or-set_other own.values index i k 0 (λ e. eqb-false index i parts.0 (sym e)) ∙ only i out

-- the number of an index that was left
left_zero : (values : List ℕ) (index : ℕ) → ◌≡◌ {A = ℕ} (get_or (set values index 0) index 0) 0
left_zero [] index = refl
left_zero (x ∷ xs) zero = refl
left_zero (x ∷ xs) (suc index) = left_zero xs index

-- one index less is bound
only_left : (indices : List ℕ) (index : ℕ) (own : Own) → OnlyBound (index ∷ indices) own → OnlyBound indices (bound index 0 own)
only_left indices index own only i out = by_test (eqb index i) refl
  where
    by_test : (b : Bool) → eqb index i ≡ b → value_of (bound index 0 own) i ≡ 0
    by_test true e = subst (λ (j : ℕ). ◌≡◌ {A = ℕ} (get_or (set own.values index 0) j 0) 0) (eqb-true index i e) (left_zero own.values index)
    by_test false e = get_or-set_other own.values index i 0 0 (λ f. eqb-false index i e (sym f)) ∙ only i (or_from (eqb index i) (contains indices i) e out)

-- one index more counts as bound
only_more : (indices : List ℕ) (index : ℕ) (own : Own) → OnlyBound indices own → OnlyBound (index ∷ indices) own
only_more indices index own only i out = only i (or_parts (eqb index i) (contains indices i) out).1

-- the index numbers are as many as the indices, and none has one but these
pub record Numbered (g : Setting) (indices : List ℕ) (own : Own) : Type 0 where
  pub len : length own.values ≡ length g.program.indices
  pub only : OnlyBound indices own

module _ (g : Setting) (set : IsGrantedSetting g) where
  -- statements that stand outside of pardos, where these indices are bound and calls may go so deep
  pub record BodyStands (d : ℕ) (indices : List ℕ) (body : Block) : Type 0 where
    pub proper : IsTrue (proper_body g.program body)
    pub unbroken : Unbroken g.program (visits indices false body)
    pub outer : (v : Visit) → Among v (visits indices false body) → Outer g set d v

  -- a statement that stands so
  pub record FormStands (d : ℕ) (indices : List ℕ) (line : ℕ) (form : Plain) : Type 0 where
    pub proper : IsTrue (proper_form g.program form)
    pub first : breaks_rebound g.program (record { line = line; form = form; bound = indices; within = false }) ≡ false
    pub here : Outer g set d (record { line = line; form = form; bound = indices; within = false })
    pub unbroken : Unbroken g.program (inner_visits indices false form)
    pub outer : (v : Visit) → Among v (inner_visits indices false form) → Outer g set d v

  -- all that is left to do stands so
  abbrev pub RestStands : (d : ℕ) → List ℕ → Rest → Type 0
  RestStands d indices (Over at) = Unit {0}
  RestStands d indices (Next at line form rest) = FormStands d indices line form × RestStands d indices rest
  RestStands d indices (Turn loop last rest) = (others : List ℕ) × (indices ≡ loop.index ∷ others) × BodyStands d (loop.index ∷ others) loop.body × RestStands d others rest
  RestStands d indices (Join at rest) = RestStands d indices rest
  RestStands d indices (Back at values rest) = (others : List ℕ) × ((own : Own) → Numbered g others (with_values values own)) × RestStands (suc d) others rest
  RestStands d indices (Within pardo number rest) = ⊥

  -- what is left, with the state in which it is left
  pub record FitAt (d : ℕ) (indices : List ℕ) (r : Rest) (own : Own) : Type 0 where
    pub deep : d + depth r ≡ call_depth
    pub stands : RestStands d indices r
    pub numbered : Numbered g indices own

  -- work that is left so
  pub record Fit (w : Work) : Type 0 where
    pub d : ℕ
    pub indices : List ℕ
    pub at : FitAt d indices w.rest w.state.own

  -- steps led to work that is left so, to a trap, or nowhere
  abbrev pub FitTo : Stepped → Type 0
  FitTo (Moved w) = Fit w
  FitTo (Halted trap s) = Unit {0}
  FitTo Ended = Unit {0}

  -- the first of some statements
  first_stands : (d : ℕ) (indices : List ℕ) (line : ℕ) (form : Plain) (rest : Block) → BodyStands d indices (Then line form rest) → FormStands d indices line form × BodyStands d indices rest
  first_stands d indices line form rest stands =
      let here : Visit = record { line = line; form = form; bound = indices; within = false } in
      let parts = both (proper_form g.program form) (proper_body g.program rest) stands.proper in
      let first = unbroken_cons g.program here (inner_visits indices false form ++ visits indices false rest) stands.unbroken in
      let inner = unbroken_append g.program (inner_visits indices false form) (visits indices false rest) first.1 in (
        record {
          proper = parts.0;
          first = first.0;
          here = stands.outer here (inl refl);
          unbroken = inner.0;
          outer = λ v m. stands.outer v (inr (among_left v (inner_visits indices false form) (visits indices false rest) m));
        },
        record {
          proper = parts.1;
          unbroken = inner.1;
          outer = λ v m. stands.outer v (inr (among_right v (inner_visits indices false form) (visits indices false rest) m));
        },
      )

  -- statements before the rest
  pub push_stands : (d : ℕ) (indices : List ℕ) (at : ℕ) (body : Block) (rest : Rest) → BodyStands d indices body → RestStands d indices rest → RestStands d indices (push at body rest)
  push_stands d indices at End rest stands others = others
  push_stands d indices at (Then line form more) rest stands others =
      let first = first_stands d indices line form more stands in (first.0, push_stands d indices (at + size form) more rest first.1 others)

  -- work made of its parts
  pub fit_of : (d : ℕ) (indices : List ℕ) (r : Rest) (s : State) → d + depth r ≡ call_depth → RestStands d indices r → Numbered g indices s.own → Fit (record { rest = r; state = s })
  fit_of d indices r s deep stands numbered = record { d = d; indices = indices; at = record { deep = deep; stands = stands; numbered = numbered } }

  -- a pushed body
  pub fit_pushed : (d : ℕ) (indices : List ℕ) (at : ℕ) (body : Block) (r : Rest) (s : State) → d + depth r ≡ call_depth → BodyStands d indices body → RestStands d indices r → Numbered g indices s.own → Fit (record { rest = push at body r; state = s })
  fit_pushed d indices at body r s deep stands others numbered =
      fit_of d indices (push at body r) s (ap (λ n. d + n) (depth_pushed at body r) ∙ deep) (push_stands d indices at body r stands others) numbered

  -- a loop entered
  pub entered_fit : (d : ℕ) (indices : List ℕ) (loop : LoopAt) (first count : ℕ) (rest : Rest) (s : State) → d + depth rest ≡ call_depth → BodyStands d (loop.index ∷ indices) loop.body → RestStands d indices rest → Numbered g indices s.own → FitTo (led s (entered loop first count rest s.own))
  entered_fit d indices loop first zero rest s deep stands others numbered =
      fit_of
      d
      indices
      rest
      (on_own (bound loop.index 0) s)
      deep
      others
      (record { len = length-set s.own.values loop.index 0 ∙ numbered.len; only = only_left indices loop.index s.own (only_more indices loop.index s.own numbered.only) })
  entered_fit d indices loop first (suc n) rest s deep stands others numbered =
      fit_pushed
      d
      (loop.index ∷ indices)
      (loop.head + 1)
      loop.body
      (Turn loop (first + n) rest)
      (on_own (bound loop.index first) s)
      deep
      stands
      (indices, refl, stands, others)
      (record { len = length-set s.own.values loop.index first ∙ numbered.len; only = only_into indices loop.index first s.own numbered.only })

  -- the end of a loop's body
  pub turned_fit : (d : ℕ) (indices : List ℕ) (more : Bool) (loop : LoopAt) (last : ℕ) (rest : Rest) (s : State) → d + depth rest ≡ call_depth → BodyStands d (loop.index ∷ indices) loop.body → RestStands d indices rest → Numbered g (loop.index ∷ indices) s.own → FitTo (led s (turned more loop last rest s.own))
  turned_fit d indices true loop last rest s deep stands others numbered =
      fit_pushed
      d
      (loop.index ∷ indices)
      (loop.head + 1)
      loop.body
      (Turn loop last rest)
      (on_own (bound loop.index (value_of s.own loop.index + 1)) s)
      deep
      stands
      (indices, refl, stands, others)
      (record { len = length-set s.own.values loop.index (value_of s.own loop.index + 1) ∙ numbered.len; only = only_again indices loop.index (value_of s.own loop.index + 1) s.own numbered.only })
  turned_fit d indices false loop last rest s deep stands others numbered =
      fit_of
      d
      indices
      rest
      (on_own (bound loop.index 0) s)
      deep
      others
      (record { len = length-set s.own.values loop.index 0 ∙ numbered.len; only = only_left indices loop.index s.own numbered.only })

  -- a branch
  pub branched_fit : (line : ℕ) (answer : Answer Bool) (met unmet : Rest) (s : State) → Fit (record { rest = met; state = s }) → Fit (record { rest = unmet; state = s }) → FitTo (led s (branched line answer met unmet s.own))
  branched_fit line (Ok true) met unmet s a b = a
  branched_fit line (Ok false) met unmet s a b = b
  branched_fit line (Err kind) met unmet s a b = tt

  -- a statement that holds no other
  pub done_fit : (d : ℕ) (indices : List ℕ) (o : Outcome) (rest : Rest) (own : Own) → d + depth rest ≡ call_depth → RestStands d indices rest → Numbered g indices own → GoesWith own.values o → FitTo (done o rest)
  done_fit d indices (Went s) rest own deep others numbered e =
      fit_of d indices rest s deep others (record { len = ap length e ∙ numbered.len; only = λ i out. ap (λ (values : List ℕ). get_or values i 0) e ∙ numbered.only i out })
  done_fit d indices (Stopped trap s) rest own deep others numbered e = tt

  -- a procedure's statements, where it is called outside of pardos
  procedure_body_stands : (d q : ℕ) → CalledOutside g set q → shallow g.program (suc d) q ≡ true → BodyStands d [] (procedure_body g q)
  procedure_body_stands d q called flat =
      let sound = procedure_sound g set.proper set.granted q in
      record { proper = sound.proper; unbroken = sound.unbroken; outer = λ v m. procedure_outer g set d q called flat v m }

  -- a call
  pub called_fit : (d : ℕ) (indices : List ℕ) (more : Bool) (q : ℕ) (rest : Rest) (s : State) → d + depth rest ≡ call_depth → CalledOutside g set q → shallow g.program d q ≡ true → RestStands d indices rest → Numbered g indices s.own → FitTo (led s (called g more q rest s.own))
  called_fit d indices false q rest s deep outside flat others numbered = fit_of d indices rest s deep others numbered
  called_fit zero indices true q rest s deep outside flat others numbered = absurd cc
  called_fit (suc d) indices true q rest s deep outside flat others numbered =
      fit_pushed
      d
      []
      (entry_of g.program q)
      (procedure_body g q)
      (Back (entry_of g.program q + sizes (procedure_body g q)) s.own.values rest)
      (on_own none_bound s)
      (omega (arith, deep))
      (procedure_body_stands d q outside flat)
      (indices, (λ own. record { len = numbered.len; only = numbered.only }), others)
      (record { len = length-replicate (length s.own.values) 0 ∙ numbered.len; only = only_none s.own })

  -- the program's own statements
  pub main_stands_so : BodyStands call_depth [] g.program.body
  main_stands_so =
      let sound = body_sound g.program set.proper set.granted in
      record { proper = sound.proper; unbroken = sound.unbroken; outer = λ v m. main_outer g set v m }

  -- the work of a program from its start
  pub start_fit : Fit (start_work g)
  start_fit =
      fit_pushed
      call_depth
      []
      0
      g.program.body
      (Over (stop_at g.program))
      (start_work g).state
      refl
      main_stands_so
      tt
      (record { len = length-replicate (length g.program.indices) 0; only = λ i out. zeros_at (length g.program.indices) i })
