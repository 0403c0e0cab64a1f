-- Along an iteration, what was done and what is still to come are together the iteration.
use Rattle.std.proofs.Common.{◌≡◌, ℕ, zero, suc, ◌+◌, List, [], ◌++◌, Bool, true, false, length, refl, sym, ap, ◌∙◌, subst, append_assoc, append-nil}
use Rattle.sial_syntax.specs.Boxes.{tuple_at}
use Rattle.sial_syntax.specs.Spaces.{box_of, onto_firsts}
use Rattle.sial_meaning.specs.Control.{Led, Goes, Halts, depth_left, begun}
use Rattle.sial_meaning.specs.Course.{course}
use Rattle.sial_meaning.specs.Deeds.{Deed}
use Rattle.sial_meaning.specs.Meaning.{all_met, taken_up}
use Rattle.sial_meaning.specs.Own.{Own, unset}
use Rattle.sial_meaning.specs.Ran.{View, Broke, behind, block_ran, calls_ran, ran_unless_left_out, outcome_in, statement_ran}
use Rattle.sial_meaning.specs.Rest.{Rest, Next, Within}
use Rattle.sial_meaning.specs.Setting.{Setting}
use Rattle.sial_meaning.specs.Sound.{IsGrantedSetting}
use Rattle.sial_meaning.specs.ToCome.{rest_ran, Inner, On, Out, AtEnd, inner_step, inner_behind, inner_on, inner_steps}
use Rattle.sial_meaning.specs.ToComeLaws.{PardoOf, code_of, Begins, IsInside, whole_iteration, AllIsToCome, TakesFirst, StepsTakeTheFirstPart, DoneAndToCome, BeginningsAreInside, StepsStayInside, StatementsInsideAreTheirDeeds}
use Rattle.sial_meaning.proofs.CourseFollowsTheFold.Fit.{course_fit}
use Rattle.sial_meaning.proofs.PardosKeepTheControl.OfTheCourse.{begins_so}
use Rattle.sial_meaning.proofs.CourseFollowsTheFold.Stand.{visits_within}
use Rattle.sial_meaning.proofs.IterationsAreTheirDeeds.Statement.{statement_is}
use Rattle.sial_meaning.proofs.StepsReachTheFold.BoundNumbers.{all_bound_len}
use Rattle.sial_meaning.proofs.StepsTakeTheFirstPartOff.Step.{Took, step_took}
use Rattle.sial_meaning.proofs.StepsTakeTheFirstPartOff.Stands.{behind_none, behind_append, and_none, pushed_ran, BodyIn, RestIn, AsMany, pushed_in}

module _ (g : Setting) (set : IsGrantedSetting g) (v : View) where
  -- where steps inside lead, beside what is still to come
  abbrev TookSo : Rest → Own → Inner → Type 0
  TookSo r own (On did rest held) = (RestIn g set rest × AsMany g set held) × (rest_ran g v r own ≡ behind did (rest_ran g v rest held))
  TookSo r own (Out did trap held) = rest_ran g v r own ≡ Broke did trap held
  TookSo r own AtEnd = Unit {0}

  -- steps behind others
  took_behind : (r : Rest) (own : Own) (did : List Deed) (r1 : Rest) (own1 : Own) (x : Inner) → rest_ran g v r own ≡ behind did (rest_ran g v r1 own1) → TookSo r1 own1 x → TookSo r own (inner_behind did x)
  took_behind r own did r1 own1 (On more rest held) e t = (t.0, e ∙ (ap (behind did) t.1 ∙ sym (behind_append did more (rest_ran g v rest held))))
  took_behind r own did r1 own1 (Out more trap held) e t = e ∙ ap (behind did) t
  took_behind r own did r1 own1 AtEnd e t = tt

  -- a step and those that follow
  took_on : (r : Rest) (own : Own) (x : Inner) (next : Rest → Own → Inner) → Took g set v r own x → ((r1 : Rest) (own1 : Own) → RestIn g set r1 → AsMany g set own1 → TookSo r1 own1 (next r1 own1)) → TookSo r own (inner_on x next)
  took_on r own (On did rest held) next t h = took_behind r own did rest held (next rest held) t.1 (h rest held t.0.0 t.0.1)
  took_on r own (Out did trap held) next t h = t
  took_on r own AtEnd next t h = tt

  -- so many steps
  steps_took : (count : ℕ) (r : Rest) (own : Own) → RestIn g set r → AsMany g set own → TookSo r own (inner_steps g v count r own)
  steps_took zero r own stands many = ((stands, many), sym (behind_none (rest_ran g v r own)))
  steps_took (suc n) r own stands many = took_on r own (inner_step g v r own) (inner_steps g v n) (step_took g set v r own stands many) (steps_took n)

  -- how an iteration begins
  pub record BegunSo (t : ℕ) (p : PardoOf) (number : ℕ) (r : Rest) (own : Own) : Type 0 where
    pub stands : RestIn g set r
    pub many : AsMany g set own
    pub all : rest_ran g v r own ≡ whole_iteration g v t p number

  -- an iteration begins so where control goes on
  abbrev BegunAt : (t : ℕ) → PardoOf → (number : ℕ) → Led → Type 0
  BegunAt t p number (Goes r own) = BegunSo t p number r own
  BegunAt t p number (Halts trap) = ⊥

  -- a tuple that was taken up
  begun_so : (t : ℕ) (p : PardoOf) (number : ℕ) (held : Own) (indices : List ℕ) (met : Bool) → BodyIn g set indices true p.body → AsMany g set held
      → whole_iteration g v t p number ≡ ran_unless_left_out met (block_ran g v (calls_ran g v (depth_left p.rest)) p.body) held
      → BegunAt t p number (begun met (code_of p) number p.rest held)
  begun_so t p number held indices true stands many whole = record {
    stands = pushed_in g set indices true (p.at + 1 + length p.wheres) p.body (Within (code_of p) (number + 1) p.rest) stands tt;
    many = many;
    all =
        pushed_ran g v (p.at + 1 + length p.wheres) p.body (Within (code_of p) (number + 1) p.rest) held
        ∙ (and_none (block_ran g v (calls_ran g v (depth_left p.rest)) p.body held) ∙ sym whole);
  }
  begun_so t p number held indices false stands many whole = record { stands = tt; many = many; all = sym whole }

  -- an iteration of a pardo of the course
  pub begins_right : (t : ℕ) (p : PardoOf) (number : ℕ) (r : Rest) (own : Own) → Begins g t p number r own → BegunSo t p number r own
  begins_right t p number r own b =
      let f = course_fit g set t in
      let stands = (begins_so g set (course g t).work f p.indices p.wheres p.body (p.at, p.line, p.rest, b.0)).0 in
      let entry : Own = unset g (course g t).work.state.own in
      let tuple : List ℕ = tuple_at (box_of g.spaces p.indices) number in
      let held : Own = taken_up g p.indices tuple entry in
      subst
      (BegunAt t p number)
      b.1
      (begun_so
      t
      p
      number
      held
      (p.indices ++ f.indices)
      (all_met held p.wheres)
      (record {
        proper = stands.proper;
        unbroken = stands.unbroken;
        calm = λ w m. let within = visits_within (p.indices ++ f.indices) p.body w m in ((stands.outer w m).calm within, (stands.outer w m).inner within);
      })
      (all_bound_len p.indices (onto_firsts g.spaces p.indices tuple) (unset g entry) ∙ f.at.numbered.len)
      refl)

-- as it begins, all of an iteration is still to come
pub all_to_come : AllIsToCome
all_to_come g v set t p number r own b = (begins_right g set v t p number r own b).all

-- what holds wherever steps lead inside an iteration
inside_so : (g : Setting) (v : View) (set : IsGrantedSetting g) (t : ℕ) (p : PardoOf) (number : ℕ) (did : List Deed) (r : Rest) (own : Own) → (i : IsInside g v t p number did r own) → (RestIn g set r × AsMany g set own) × (rest_ran g v i.first i.entry ≡ behind did (rest_ran g v r own))
inside_so g v set t p number did r own i =
    let b = begins_right g set v t p number i.first i.entry i.begins in
    subst (λ (x : Inner). TookSo g set v i.first i.entry x) i.leads (steps_took g set v i.count i.first i.entry b.stands b.many)

-- a step takes the first part off
pub takes_first : StepsTakeTheFirstPart
takes_first g v set t p number did r own i =
    let so = inside_so g v set t p number did r own i in by_step (inner_step g v r own) (step_took g set v r own so.0.0 so.0.1)
  where
    by_step : (x : Inner) → Took g set v r own x → TakesFirst g v r own x
    by_step (On more rest held) t = t.1
    by_step (Out more trap held) t = t
    by_step AtEnd t = t

-- what was done and what is still to come
pub done_and_to_come : DoneAndToCome
done_and_to_come g v set t p number did r own i = sym (begins_right g set v t p number i.first i.entry i.begins).all ∙ (inside_so g v set t p number did r own i).1

-- what follows steps that come behind others
on_behind : (ds : List Deed) (x : Inner) (next : Rest → Own → Inner) → inner_on (inner_behind ds x) next ≡ inner_behind ds (inner_on x next)
on_behind ds (On more rest held) next = behind_twice ds more (next rest held)
  where
    behind_twice : (a b : List Deed) (x : Inner) → inner_behind (a ++ b) x ≡ inner_behind a (inner_behind b x)
    behind_twice a b (On more rest held) = ap (λ ds. On ds rest held) (append_assoc a b more)
    behind_twice a b (Out more trap held) = ap (λ ds. Out ds trap held) (append_assoc a b more)
    behind_twice a b AtEnd = refl
on_behind ds (Out more trap held) next = refl
on_behind ds AtEnd next = refl

-- nothing more
on_none : (x : Inner) → inner_on x (On []) ≡ x
on_none (On did rest held) = ap (λ ds. On ds rest held) (append-nil did)
on_none (Out did trap held) = refl
on_none AtEnd = refl

-- a step more
inner_more : (g : Setting) (v : View) (n : ℕ) (r : Rest) (own : Own) → inner_steps g v (suc n) r own ≡ inner_on (inner_steps g v n r own) (inner_step g v)
inner_more g v zero r own = on_none (inner_step g v r own) ∙ sym (on_first (inner_step g v r own))
  where
    on_first : (x : Inner) → inner_behind [] x ≡ x
    on_first (On did rest held) = refl
    on_first (Out did trap held) = refl
    on_first AtEnd = refl
inner_more g v (suc n) r own = then_more (inner_step g v r own) (inner_more g v n)
  where
    then_more : (x : Inner) → ((r1 : Rest) (own1 : Own) → inner_steps g v (suc n) r1 own1 ≡ inner_on (inner_steps g v n r1 own1) (inner_step g v)) → inner_on x (inner_steps g v (suc n)) ≡ inner_on (inner_on x (inner_steps g v n)) (inner_step g v)
    then_more (On did rest held) h = ap (inner_behind did) (h rest held) ∙ sym (on_behind did (inner_steps g v n rest held) (inner_step g v))
    then_more (Out did trap held) h = refl
    then_more AtEnd h = refl

-- the beginning is inside
pub beginnings_are_inside : BeginningsAreInside
beginnings_are_inside g v t p number r own b = record { first = r; entry = own; begins = b; count = 0; leads = refl }

-- one step more stays inside
pub steps_stay_inside : StepsStayInside
steps_stay_inside g v t p number did more r rest own held i e = record {
  first = i.first;
  entry = i.entry;
  begins = i.begins;
  count = suc i.count;
  leads = inner_more g v i.count i.first i.entry ∙ (ap (λ x. inner_on x (inner_step g v)) i.leads ∙ ap (inner_behind did) e);
}

-- a statement that comes next is its deeds
pub statements_inside : StatementsInsideAreTheirDeeds
statements_inside g v set t p number did at line form rest s i next seen =
    let so = inside_so g v set t p number did (Next at line form rest) s.own i in
    statement_is g line form so.0.0.0.2.here.0 s ∙ ap (λ (w : View). outcome_in s (statement_ran g w line form s.own)) seen
