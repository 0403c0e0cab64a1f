-- Pardos of the course, and the course's log, are their deeds.
use Rattle.std.proofs.Common.{◌≡◌, ℕ, ◌+◌, ◌≤◌, List, [], ◌∷◌, ◌++◌, map, flat_map, true, refl, sym, ap, ◌∙◌, subst, arith, append_assoc, append-nil}
use Rattle.sial_syntax.proofs.BoxLemmas.{tuples-are}
use Rattle.sial_syntax.specs.declared.condition.Cond.{Cond}
use Rattle.sial_syntax.specs.Boxes.{numbers_from, volume, tuples, tuple_at}
use Rattle.sial_syntax.specs.Spaces.{box_of}
use Rattle.sial_syntax.specs.Tree.{Block, Pardo}
use Rattle.sial_meaning.specs.declared.trap.Trap.{Trap}
use Rattle.sial_meaning.specs.Control.{depth_left}
use Rattle.sial_meaning.specs.Course.{Left, noted, iterations, next_from, course}
use Rattle.sial_meaning.specs.CourseDeeds.{deeds_from}
use Rattle.sial_meaning.specs.CourseLaws.{BeginsWithPardo}
use Rattle.sial_meaning.specs.DeedLaws.{IterationsAreTheirDeeds, PardosAreTheirDeeds}
use Rattle.sial_meaning.specs.Deeds.{Deed, Traps, touches, traps, written, added, applied}
use Rattle.sial_meaning.specs.Meaning.{block_meaning, calls, call_depth, iteration, all_met, on_own, taken_up}
use Rattle.sial_meaning.specs.Own.{Own, unset}
use Rattle.sial_meaning.specs.Ran.{View, view_of, Ran, Through, Broke, deeds_of, outcome_in, iteration_ran}
use Rattle.sial_meaning.specs.Rest.{Rest, Next, depth}
use Rattle.sial_meaning.specs.Setting.{Setting}
use Rattle.sial_meaning.specs.Sound.{IsGrantedSetting}
use Rattle.sial_meaning.specs.State.{State, with_own}
use Rattle.sial_meaning.specs.Step.{Work}
use Rattle.sial_meaning.specs.Statement.{Copied}
use Rattle.sial_meaning.proofs.PardosKeepTheControl.Calls.{PardoStands}
use Rattle.sial_meaning.proofs.CourseFollowsTheFold.Depth.{block_same, calls_same, same_unless}
use Rattle.sial_meaning.proofs.CourseFollowsTheFold.Fit.{course_fit}
use Rattle.sial_meaning.proofs.PardosKeepTheControl.OfTheCourse.{begins_so}
use Rattle.sial_meaning.proofs.CourseFollowsTheFold.Rest.{Fit}
use Rattle.sial_meaning.proofs.IterationsAreTheirDeeds.Fold.{iteration_is}
use Rattle.sial_meaning.proofs.IterationsAreTheirDeeds.Deeds.{touches_append, traps_append, written_append, added_append, applied_none, applied_append}
use Rattle.sial_meaning.proofs.IterationsAreTheirDeeds.EachDeed.{Clear, clear_iteration}

-- an iteration of a pardo of the course is its deeds
pub iterations_are_deeds : IterationsAreTheirDeeds
iterations_are_deeds g set t these wheres body b d tuple s e =
    let f = course_fit g set t in iteration_is g set f.d f.indices these wheres body (begins_so g set (course g t).work f these wheres body b).0 d s

-- what the worker held at the end
abbrev pub own_after : Ran → Own
own_after (Through before own) = own
own_after (Broke before trap own) = own

-- a trap alone changes nothing
trap_applied : (trap : Trap) (s : State) → applied (Traps trap ∷ []) s ≡ s
trap_applied trap s = applied_none s

-- an outcome that is noted
noted_is : (ts : List Trap) (s : State) (x : Ran) → Clear x → noted ts (outcome_in s x) ≡ record { state = record (applied (deeds_of x) s) { own = own_after x }; traps = ts ++ traps (deeds_of x) }
noted_is ts s (Through before own) clear =
    ap (λ (more : List Trap). record { state = record (applied before s) { own = own }; traps = more }) (sym (ap (λ more. ts ++ more) clear ∙ append-nil ts))
noted_is ts s (Broke before trap own) clear =
    ap
    (λ (u : State). record { state = record u { own = own }; traps = ts ++ trap ∷ [] })
    (sym (applied_append before (Traps trap ∷ []) s ∙ trap_applied trap (applied before s)))
    ∙ ap
    (λ (more : List Trap). record { state = record (applied (before ++ Traps trap ∷ []) s) { own = own }; traps = ts ++ more })
    (sym (traps_append before (Traps trap ∷ []) ∙ ap (λ more. more ++ trap ∷ []) clear))

-- what is left is what was there, with these deeds
pub record LeftBy (ds : List Deed) (before after : Left) : Type 0 where
  pub log : after.state.log ≡ before.state.log ++ touches ds
  pub shared : after.state.shared ≡ written ds before.state.shared
  pub partials : after.state.partials ≡ added ds before.state.partials
  pub traps_are : after.traps ≡ before.traps ++ traps ds

-- some deeds and others
left_then : (a b : List Deed) (x y z : Left) → LeftBy a x y → LeftBy b y z → LeftBy (a ++ b) x z
left_then a b x y z l m = record {
  log =
      m.log
      ∙ (ap (λ log. log ++ touches b) l.log
      ∙ (append_assoc x.state.log (touches a) (touches b) ∙ ap (λ more. x.state.log ++ more) (sym (touches_append a b))));
  shared = m.shared ∙ (ap (written b) l.shared ∙ sym (written_append a b x.state.shared));
  partials = m.partials ∙ (ap (added b) l.partials ∙ sym (added_append a b x.state.partials));
  traps_are =
      m.traps_are
      ∙ (ap (λ more. more ++ traps b) l.traps_are ∙ (append_assoc x.traps (traps a) (traps b) ∙ ap (λ more. x.traps ++ more) (sym (traps_append a b))));
}

module _ (g : Setting) (set : IsGrantedSetting g) (d : ℕ) (indices these : List ℕ) (wheres : List Cond) (body : Block) (stands : PardoStands g set d indices these body) (enough : d ≤ call_depth) where
  -- an iteration, where procedures may call as deep as anywhere, or only as deep as they do
  pub iteration_same : (s : State) → iteration wheres (block_meaning Copied g (calls Copied g call_depth) body) s ≡ iteration wheres (block_meaning Copied g (calls Copied g d) body) s
  iteration_same s =
      same_unless
      (all_met s.own wheres)
      (block_meaning Copied g (calls Copied g call_depth) body)
      (block_meaning Copied g (calls Copied g d) body)
      s
      (block_same
      Copied
      g
      (calls Copied g call_depth)
      (calls Copied g d)
      (these ++ indices)
      true
      body
      (λ v m q c t. calls_same Copied g d call_depth q ((stands.outer v m).shallow q c) enough t)
      s)

  -- the deeds of one tuple, from the worker's part as the pardo was entered
  abbrev of_tuple : View → Own → List ℕ → List Deed
  of_tuple v entry tuple = deeds_of (iteration_ran g v d wheres body (taken_up g these tuple entry))

  -- the iterations of some tuples are their deeds
  turns_are : (v : View) (entry : Own) (dims : List ℕ) (ns : List ℕ) (l : Left) → view_of l.state ≡ v → LeftBy (flat_map (λ n. of_tuple v entry (tuple_at dims n)) ns) l (iterations g entry these wheres body (map (tuple_at dims) ns) l)
  turns_are v entry dims [] l e = record { log = sym (append-nil l.state.log); shared = refl; partials = refl; traps_are = sym (append-nil l.traps) }
  turns_are v entry dims (n ∷ ns) l e =
      let s : State = with_own l.state (taken_up g these (tuple_at dims n) entry) in
      let x : Ran = iteration_ran g (view_of l.state) d wheres body s.own in
      let next : Left = record { state = record (applied (deeds_of x) s) { own = own_after x }; traps = l.traps ++ traps (deeds_of x) } in
      let ds : List Deed = flat_map (λ n. of_tuple v entry (tuple_at dims n)) ns in
      let same : noted l.traps (iteration wheres (block_meaning Copied g (calls Copied g call_depth) body) s) ≡ next =
      ap (noted l.traps) (iteration_same s ∙ iteration_is g set d indices these wheres body stands d s) ∙ noted_is l.traps s x (clear_iteration g (view_of l.state) d wheres body s.own) in
      let first : LeftBy (deeds_of x) l next = record { log = refl; shared = refl; partials = refl; traps_are = refl } in
      let all : LeftBy (deeds_of x ++ ds) l (iterations g entry these wheres body (map (tuple_at dims) ns) next) =
      left_then (deeds_of x) ds l next (iterations g entry these wheres body (map (tuple_at dims) ns) next) first (turns_are v entry dims ns next e) in
      subst
      (λ (w : View). LeftBy (of_tuple w entry (tuple_at dims n) ++ ds) l (iterations g entry these wheres body (map (tuple_at dims) (n ∷ ns)) l))
      e
      (subst (λ (m : Left). LeftBy (deeds_of x ++ ds) l (iterations g entry these wheres body (map (tuple_at dims) ns) m)) (sym same) all)

  -- a whole pardo
  pub pardo_left : (before : State) (noted_so : List Trap) → LeftBy (flat_map (λ n. of_tuple (view_of before) (unset g before.own) (tuple_at (box_of g.spaces these) n)) (numbers_from 0 (volume (box_of g.spaces these)))) (record { state = before; traps = noted_so }) (iterations g (unset g before.own) these wheres body (tuples (box_of g.spaces these)) (record { state = on_own (unset g) before; traps = noted_so }))
  pardo_left before noted_so =
      let start : Left = record { state = on_own (unset g) before; traps = noted_so } in
      let dims : List ℕ = box_of g.spaces these in
      let ns : List ℕ = numbers_from 0 (volume dims) in
      let l = turns_are (view_of before) (unset g before.own) dims ns start refl in
      subst
      (λ (ts : List (List ℕ)). LeftBy (flat_map (λ n. of_tuple (view_of before) (unset g before.own) (tuple_at dims n)) ns) (record { state = before; traps = noted_so }) (iterations g (unset g before.own) these wheres body ts start))
      (sym (tuples-are dims))
      (record { log = l.log; shared = l.shared; partials = l.partials; traps_are = l.traps_are })

-- a step past a pardo
pub pardo_steps : (g : Setting) (set : IsGrantedSetting g) (w : Work) (noted_so : List Trap) (f : Fit g set w) (these : List ℕ) (wheres : List Cond) (body : Block) (b : BeginsWithPardo w.rest these wheres body) → LeftBy (deeds_from g w.state w.rest) (record { state = w.state; traps = noted_so }) (let p = next_from g (record { work = w; traps = noted_so }) w.rest in record { state = p.work.state; traps = p.traps })
pardo_steps g set w noted_so f these wheres body b =
    let stands = begins_so g set w f these wheres body b in
    let deep : f.d + depth w.rest ≡ call_depth = f.at.deep in
    let deep_so : f.d + depth b.2 ≡ call_depth = sym (ap (λ r. f.d + depth r) b.3) ∙ deep in
    let left_so : f.d ≡ depth_left b.2 = omega (arith, deep_so) in
    let l = pardo_left g set f.d f.indices these wheres body stands.0 (omega (arith, deep)) w.state noted_so in
    subst
    (λ (r : Rest). LeftBy (deeds_from g w.state r) (record { state = w.state; traps = noted_so }) (let p = next_from g (record { work = w; traps = noted_so }) r in record { state = p.work.state; traps = p.traps }))
    (sym b.3)
    (subst
    (λ (n : ℕ). LeftBy (flat_map (λ k. deeds_of (iteration_ran g (view_of w.state) n wheres body (taken_up g these (tuple_at (box_of g.spaces these) k) (unset g w.state.own)))) (numbers_from 0 (volume (box_of g.spaces these)))) (record { state = w.state; traps = noted_so }) (let p = next_from g (record { work = w; traps = noted_so }) (Next b.0 b.1 (Pardo these wheres body) b.2) in record { state = p.work.state; traps = p.traps }))
    left_so
    (record { log = l.log; shared = l.shared; partials = l.partials; traps_are = l.traps_are }))

-- pardos of the course are their deeds
pub pardos_are_deeds : PardosAreTheirDeeds
pardos_are_deeds g set t these wheres body b =
    let l = pardo_steps g set (course g t).work (course g t).traps (course_fit g set t) these wheres body b in
    record { log = l.log; shared = l.shared; partials = l.partials; traps = l.traps_are }
