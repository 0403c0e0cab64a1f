-- Pardos that the course comes to keep the control, and so do their iterations.
use Rattle.std.proofs.Common.{◌≡◌, ℕ, List, ◌++◌, false, sym, subst}
use Rattle.sial_syntax.specs.declared.condition.Cond.{Cond}
use Rattle.sial_syntax.specs.Agreeing.{share_any}
use Rattle.sial_syntax.specs.Spaces.{onto_firsts}
use Rattle.sial_syntax.specs.Tree.{Block}
use Rattle.sial_meaning.specs.Course.{next_from, course}
use Rattle.sial_meaning.specs.CourseLaws.{KeepsControl, BeginsWithPardo, IterationsKeepControl, PardosKeepControl}
use Rattle.sial_meaning.specs.Sound.{IsGrantedSetting}
use Rattle.sial_meaning.specs.Own.{Own}
use Rattle.sial_meaning.specs.Rest.{Rest}
use Rattle.sial_meaning.specs.Step.{Work}
use Rattle.sial_meaning.specs.Setting.{Setting}
use Rattle.sial_meaning.proofs.PardosKeepTheControl.Calls.{PardoStands, only_taken, iteration_kept}
use Rattle.sial_meaning.proofs.PardosKeepTheControl.Fold.{OnlyBound}
use Rattle.sial_meaning.proofs.CourseFollowsTheFold.Fit.{pardo_stands, course_fit}
use Rattle.sial_meaning.proofs.CourseFollowsTheFold.Pardos.{pardo_kept}
use Rattle.sial_meaning.proofs.CourseFollowsTheFold.Rest.{RestStands, Fit}

-- a pardo that work begins with stands where the rules grant it
pub begins_so : (g : Setting) (set : IsGrantedSetting g) (w : Work) (f : Fit g set w) (these : List ℕ) (wheres : List Cond) (body : Block) → BeginsWithPardo w.rest these wheres body → PardoStands g set f.d f.indices these body × (share_any these f.indices ≡ false)
begins_so g set w f these wheres body b =
    let stands = subst (λ (r : Rest). RestStands g set f.d f.indices r) b.3 f.at.stands in pardo_stands g set f.d f.indices b.1 these wheres body stands.0

-- an iteration keeps the control
pub iterations_keep : IterationsKeepControl
iterations_keep reading g set t these wheres body b depth tuple s e =
    let f = course_fit g set t in
    iteration_kept
    reading
    g
    set
    f.d
    f.indices
    these
    wheres
    body
    (begins_so g set (course g t).work f these wheres body b).0
    depth
    s
    (subst
    (λ (o : Own). OnlyBound (these ++ f.indices) o)
    (sym e)
    (only_taken g these f.indices (onto_firsts g.spaces these tuple) (course g t).work.state.own f.at.numbered.only))

-- a whole pardo keeps the control
pub pardos_keep : PardosKeepControl
pardos_keep g set t these wheres body b =
    let f = course_fit g set t in
    let stands = begins_so g set (course g t).work f these wheres body b in
    subst
    (λ (r : Rest). KeepsControl g (course g t).work.state (next_from g (course g t) r).work.state)
    (sym b.3)
    (pardo_kept g set f.d f.indices these wheres body stands.0 (course g t).work.state f.at.numbered.only b.2 (course g t).traps stands.1)
