-- A whole pardo of the course keeps the control, and follows the fold over its box up to the first trap.
use Rattle.std.proofs.Common.{◌≡◌, ℕ, suc, ◌≤◌, List, [], ◌∷◌, ◌++◌, map, Bool, true, false, length, refl, sym, ap, ◌∙◌, subst, arith, inl, inr, append_assoc, append-nil}
use Rattle.std.proofs.lemmas.List.{length-map}
use Rattle.sial_syntax.proofs.AmongLemmas.{Among, among_map_from}
use Rattle.sial_syntax.proofs.BoxLemmas.{tuples-are}
use Rattle.sial_syntax.specs.declared.condition.Cond.{Cond}
use Rattle.sial_syntax.specs.Agreeing.{share_any}
use Rattle.sial_syntax.specs.Boxes.{numbers_from, volume, tuples, tuple_at}
use Rattle.sial_syntax.specs.Spaces.{Spaces, count_of, box_of, onto_firsts}
use Rattle.sial_syntax.specs.Tree.{Block}
use Rattle.sial_meaning.specs.declared.trap.Trap.{Trap}
use Rattle.sial_meaning.specs.Accepted.{log_of}
use Rattle.sial_meaning.specs.Course.{Point, Left, noted, iterations, whole_pardo}
use Rattle.sial_meaning.specs.CourseLaws.{KeepsEpochs, KeepsControl, IsKept}
use Rattle.sial_meaning.specs.Sound.{IsGrantedSetting}
use Rattle.sial_meaning.specs.Meaning.{block_meaning, calls, call_depth, over, on_own, then_own, iteration, unless_left_out, all_met, taken_up, left}
use Rattle.sial_meaning.specs.Own.{Own, all_bound, unset}
use Rattle.sial_meaning.specs.Rest.{Rest}
use Rattle.sial_meaning.specs.Setting.{Setting}
use Rattle.sial_meaning.specs.State.{State, with_own}
use Rattle.sial_meaning.specs.Statement.{Outcome, Went, Stopped, after, Present, Copied}
use Rattle.sial_meaning.proofs.PardosKeepTheControl.Changes.{unset_again, unset_bound, bound_again}
use Rattle.sial_meaning.proofs.PardosKeepTheControl.Calls.{PardoStands, only_taken, iteration_kept}
use Rattle.sial_meaning.proofs.PardosKeepTheControl.Fold.{OnlyBound}
use Rattle.sial_meaning.proofs.CourseFollowsTheFold.Fit.{left_is}
use Rattle.sial_meaning.proofs.EpochsAgree.Clashes.{Extends, extends_same, extends_then}
use Rattle.sial_meaning.proofs.EpochsAgree.Fold.{block_agrees, calls_agree}

-- a tuple at a place has as many members as lengths
tuple_at_length : (dims : List ℕ) (place : ℕ) → length (tuple_at dims place) ≡ length dims
tuple_at_length [] place = refl
tuple_at_length (n ∷ ns) place = ap suc (tuple_at_length ns _)

-- so has each tuple of a box
tuples_length : (dims tuple : List ℕ) → Among tuple (tuples dims) → length tuple ≡ length dims
tuples_length dims tuple m =
    let r = among_map_from (tuple_at dims) tuple (numbers_from 0 (volume dims)) (subst (λ (xs : List (List ℕ)). Among tuple xs) (tuples-are dims) m) in
    ap length r.2 ∙ tuple_at_length dims r.0

-- a 0 for each index
abbrev zeros_for : List ℕ → List ℕ
zeros_for these = map (λ i. 0) these

-- no index is bound by no tuple
bound_no : (these : List ℕ) (a : Own) → all_bound these [] a ≡ a
bound_no [] a = refl
bound_no (i ∷ is) a = refl

-- a tuple from the firsts on has as many members
onto_length : (spaces : Spaces) (these tuple : List ℕ) → length tuple ≡ length these → length (onto_firsts spaces these tuple) ≡ length these
onto_length spaces [] tuple e = refl
onto_length spaces (i ∷ is) [] e = absurd (omega (arith, e))
onto_length spaces (i ∷ is) (k ∷ ks) e = ap suc (onto_length spaces is ks (omega (arith, e)))

-- the point behind a pardo, beside an outcome of the fold
abbrev pub FollowsPardo : Rest → Outcome → Point → Type 0
FollowsPardo rest (Went u) p = p ≡ record { work = record { rest = rest; state = u }; traps = [] }
FollowsPardo rest (Stopped trap u) p = ((more : List Trap) × (p.traps ≡ trap ∷ more)) × Extends u.log p.work.state.log

module _ (g : Setting) (set : IsGrantedSetting g) (d : ℕ) (indices these : List ℕ) (wheres : List Cond) (body : Block) (stands : PardoStands g set d indices these body) (before : State) (only : OnlyBound indices before.own) where
  -- the worker's part as the pardo is entered
  abbrev pub entry : Own
  entry = unset g before.own

  -- the statements of the pardo
  abbrev pub inside : State → Outcome
  inside = block_meaning Copied g (calls Copied g call_depth) body

  -- an iteration of the fold
  abbrev pub turn : List ℕ → State → Outcome
  turn tuple t = iteration wheres inside (on_own (taken_up g these tuple) t)

  -- the iterations of the course
  abbrev pub course_turns : List (List ℕ) → Left → Left
  course_turns ts l = iterations g entry these wheres body ts l

  -- an iteration from the worker's part as the pardo was entered
  turn_kept : (tuple : List ℕ) (s : State) → IsKept g (with_own s (taken_up g these tuple entry)) (iteration wheres inside (with_own s (taken_up g these tuple entry)))
  turn_kept tuple s =
      iteration_kept
      Copied
      g
      set
      d
      indices
      these
      wheres
      body
      stands
      call_depth
      (with_own s (taken_up g these tuple entry))
      (only_taken g these indices (onto_firsts g.spaces these tuple) entry only)

  -- an outcome that is noted keeps copies, epochs and printed lines
  noted_shown : (s : State) (traps : List Trap) (o : Outcome) → IsKept g s o → KeepsEpochs s (noted traps o).state
  noted_shown s traps (Went t) k = k.shown
  noted_shown s traps (Stopped trap t) k = k

  -- so do the iterations of the course
  turns_shown : (ts : List (List ℕ)) (l : Left) → KeepsEpochs l.state (course_turns ts l).state
  turns_shown [] l = record { copies = refl; epochs = refl; lines = refl }
  turns_shown (t ∷ ts) l =
      let s : State = with_own l.state (taken_up g these t entry) in
      let first = noted_shown s l.traps (iteration wheres inside s) (turn_kept t l.state) in
      let rest = turns_shown ts (noted l.traps (iteration wheres inside s)) in
      record { copies = rest.copies ∙ first.copies; epochs = rest.epochs ∙ first.epochs; lines = rest.lines ∙ first.lines }

  -- a whole pardo keeps the control
  pub pardo_kept : (rest : Rest) (traps : List Trap) → share_any these indices ≡ false → KeepsControl g before (whole_pardo g these wheres body rest before traps).work.state
  pardo_kept rest traps out =
      let k = turns_shown (tuples (box_of g.spaces these)) (record { state = on_own (unset g) before; traps = traps }) in
      record {
        own = ap (unset g) (left_is g these indices before.own out only) ∙ unset_again g before.own;
        shown = record { copies = k.copies; epochs = k.epochs; lines = k.lines };
      }

  -- a body logs behind what was logged
  inside_extends : (s : State) → Extends s.log (log_of (inside s))
  inside_extends s = (block_agrees g (calls Present g call_depth) (calls Copied g call_depth) (calls_agree g set.proper call_depth) body stands.proper s).2

  -- the log of an outcome that is noted
  noted_log : (traps : List Trap) (o : Outcome) → (noted traps o).state.log ≡ log_of o
  noted_log traps (Went s) = refl
  noted_log traps (Stopped trap s) = refl

  -- the traps of an outcome that is noted
  noted_traps : (traps : List Trap) (o : Outcome) → (more : List Trap) × ((noted traps o).traps ≡ traps ++ more)
  noted_traps traps (Went s) = ([], sym (append-nil traps))
  noted_traps traps (Stopped trap s) = (trap ∷ [], refl)

  -- a body that may be left out logs behind what was logged
  turn_extends : (s : State) → Extends s.log (log_of (iteration wheres inside s))
  turn_extends s = by_test (all_met s.own wheres)
    where
      by_test : (met : Bool) → Extends s.log (log_of (unless_left_out met inside s))
      by_test true = inside_extends s
      by_test false = extends_same s.log

  -- the iterations of the course log behind what was logged
  pub turns_extend : (ts : List (List ℕ)) (l : Left) → Extends l.state.log (course_turns ts l).state.log
  turns_extend [] l = extends_same l.state.log
  turns_extend (t ∷ ts) l =
      let s : State = with_own l.state (taken_up g these t entry) in
      let next : Left = noted l.traps (iteration wheres inside s) in
      extends_then
      l.state.log
      next.state.log
      (course_turns ts next).state.log
      (subst (λ log. Extends l.state.log log) (sym (noted_log l.traps (iteration wheres inside s))) (turn_extends s))
      (turns_extend ts next)

  -- they note traps behind those that were noted
  pub turns_note : (ts : List (List ℕ)) (l : Left) → (more : List Trap) × ((course_turns ts l).traps ≡ l.traps ++ more)
  turns_note [] l = ([], sym (append-nil l.traps))
  turns_note (t ∷ ts) l =
      let s : State = with_own l.state (taken_up g these t entry) in
      let next : Left = noted l.traps (iteration wheres inside s) in
      let first = noted_traps l.traps (iteration wheres inside s) in
      let rest = turns_note ts next in
      (first.0 ++ rest.0, rest.1 ∙ (ap (λ xs. xs ++ rest.0) first.1 ∙ append_assoc l.traps first.0 rest.0))

  -- the worker's part is as the pardo was entered, but for what is unset and the pardo's indices
  abbrev Carried : State → Type 0
  Carried f = (other : List ℕ) × (unset g f.own ≡ all_bound these other entry)

  -- what is bound next is bound as from the entry
  bound_alike : (tuple : List ℕ) (f : State) → length these ≤ length tuple → Carried f → all_bound these tuple (unset g f.own) ≡ all_bound these tuple entry
  bound_alike tuple f enough c = ap (all_bound these tuple) c.1 ∙ bound_again these tuple c.0 entry stands.once enough

  -- an iteration begins as from the entry
  taken_alike : (tuple : List ℕ) (f : State) → length tuple ≡ length these → Carried f → taken_up g these tuple f.own ≡ taken_up g these tuple entry
  taken_alike tuple f e c =
      let many : length (onto_firsts g.spaces these tuple) ≡ length these = onto_length g.spaces these tuple e in
      bound_alike (onto_firsts g.spaces these tuple) f (omega (arith, many)) c ∙ sym (ap (all_bound these (onto_firsts g.spaces these tuple)) (unset_again g before.own))

  -- an iteration leaves the worker's part so
  carried_on : (tuple : List ℕ) (f u : State) → length tuple ≡ length these → Carried f → unset g u.own ≡ unset g (taken_up g these tuple f.own) → Carried u
  carried_on tuple f u e c kept =
      let many : length (onto_firsts g.spaces these tuple) ≡ length these = onto_length g.spaces these tuple e in (
        onto_firsts g.spaces these tuple,
        kept
            ∙ (unset_bound g these (onto_firsts g.spaces these tuple) (unset g f.own)
            ∙ (ap (all_bound these (onto_firsts g.spaces these tuple)) (unset_again g f.own) ∙ bound_alike (onto_firsts g.spaces these tuple) f (omega (arith, many)) c)),
      )

  -- what the course's iterations leave, beside an outcome of the fold
  abbrev FollowsIn : Outcome → Left → Type 0
  FollowsIn (Went u) l = (l ≡ record { state = u; traps = [] }) × Carried u
  FollowsIn (Stopped trap u) l = ((more : List Trap) × (l.traps ≡ trap ∷ more)) × Extends u.log l.state.log

  -- an iteration, and those that follow
  turn_follows : (t : List ℕ) (ts : List (List ℕ)) (f : State) → length t ≡ length these → Carried f → ((u : State) → Carried u → FollowsIn (over ts turn u) (course_turns ts (record { state = u; traps = [] }))) → (o : Outcome) → IsKept g (on_own (taken_up g these t) f) o → FollowsIn (after o (over ts turn)) (course_turns ts (noted [] o))
  turn_follows t ts f e c others (Went u) kept = others u (carried_on t f u e c kept.own)
  turn_follows t ts f e c others (Stopped trap u) kept = (turns_note ts (record { state = u; traps = trap ∷ [] }), turns_extend ts (record { state = u; traps = trap ∷ [] }))

  -- the course's iterations follow the fold over the box
  turns_follow : (ts : List (List ℕ)) → ((t : List ℕ) → Among t ts → length t ≡ length these) → (f : State) → Carried f → FollowsIn (over ts turn f) (course_turns ts (record { state = f; traps = [] }))
  turns_follow [] each f c = (refl, c)
  turns_follow (t ∷ ts) each f c =
      let same : on_own (taken_up g these t) f ≡ with_own f (taken_up g these t entry) = ap (with_own f) (taken_alike t f (each t (inl refl)) c) in
      subst
      (λ (x : State). FollowsIn (after (turn t f) (over ts turn)) (course_turns ts (noted [] (iteration wheres inside x))))
      same
      (turn_follows
      t
      ts
      f
      (each t (inl refl))
      c
      (turns_follow ts (λ x m. each x (inr m)))
      (turn t f)
      (subst (λ (x : State). IsKept g x (iteration wheres inside x)) (sym same) (turn_kept t f)))

  -- the end of a pardo
  ends_so : (rest : Rest) (o : Outcome) (l : Left) → FollowsIn o l → FollowsPardo rest (then_own o (left g these)) (record { work = record { rest = rest; state = with_own l.state (left g these entry) }; traps = l.traps })
  ends_so rest (Went u) l follows =
      let enough : length (zeros_for these) ≡ length these = length-map these (λ i. 0) in
      let same : left g these u.own ≡ left g these entry =
      bound_alike (zeros_for these) u (omega (arith, enough)) follows.1 ∙ sym (ap (all_bound these (zeros_for these)) (unset_again g before.own)) in
      ap (λ (x : Left). record { work = record { rest = rest; state = with_own x.state (left g these entry) }; traps = x.traps }) follows.0
      ∙ ap (λ (o : Own). record { work = record { rest = rest; state = with_own u o }; traps = [] }) (sym same)
  ends_so rest (Stopped trap u) l follows = follows

  -- a whole pardo follows the fold over its box
  pub pardo_follows : (rest : Rest) → FollowsPardo rest (then_own (over (tuples (box_of g.spaces these)) turn (on_own (unset g) before)) (left g these)) (whole_pardo g these wheres body rest before [])
  pardo_follows rest =
      ends_so
      rest
      (over (tuples (box_of g.spaces these)) turn (on_own (unset g) before))
      (course_turns (tuples (box_of g.spaces these)) (record { state = on_own (unset g) before; traps = [] }))
      (turns_follow
      (tuples (box_of g.spaces these))
      (λ t m. tuples_length (box_of g.spaces these) t m ∙ length-map these (count_of g.spaces))
      (on_own (unset g) before)
      ([], unset_again g before.own ∙ sym (bound_no these entry)))
