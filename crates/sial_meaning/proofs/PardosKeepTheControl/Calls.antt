-- Procedures that are called within a pardo, and its iterations, keep the control.
use Rattle.std.proofs.Common.{◌≡◌, ℕ, zero, suc, List, [], ◌∷◌, ◌++◌, Bool, true, false, eqb, length, get_or, replicate, refl, sym, ap, ◌∙◌, IsTrue}
use Rattle.std.proofs.lemmas.Bool.{or_parts, eqb-false}
use Rattle.std.proofs.lemmas.List.{get_or-set_other}
use Rattle.std.proofs.lemmas.List.Folds.{list_any-append}
use Rattle.sial_syntax.proofs.AmongLemmas.{Among}
use Rattle.sial_syntax.specs.declared.condition.Cond.{Cond}
use Rattle.sial_syntax.specs.Agreeing.{contains, has_twice}
use Rattle.sial_syntax.specs.Proper.{proper_body}
use Rattle.sial_syntax.specs.Tree.{Block}
use Rattle.sial_syntax.specs.Visits.{Visit, visits}
use Rattle.sial_meaning.specs.CourseLaws.{IsKept}
use Rattle.sial_meaning.specs.Sound.{IsGrantedSetting}
use Rattle.sial_meaning.specs.Meaning.{block_meaning, calls, on_own, then_own, iteration, unless_left_out, all_met}
use Rattle.sial_meaning.specs.Own.{Own, value_of, bound, all_bound, none_bound, with_values, unset}
use Rattle.sial_meaning.specs.Setting.{Setting, procedure_body}
use Rattle.sial_meaning.specs.State.{State}
use Rattle.sial_meaning.specs.Statement.{Outcome, Went, Stopped, Reading}
use Rattle.sial_meaning.proofs.PardosKeepTheControl.Fold.{OnlyBound, block_kept}
use Rattle.sial_meaning.proofs.PardosKeepTheControl.Statement.{control_same}
use Rattle.sial_meaning.proofs.CourseFollowsTheFold.Stand.{CalledWithin, Outer, within_calm, visits_within}
use Rattle.sial_meaning.proofs.StepsReachTheFold.Rules.{Unbroken, procedure_sound}

-- no number of a row of zeros is another
pub zeros_at : (n i : ℕ) → ◌≡◌ {A = ℕ} (get_or (replicate n 0) i 0) 0
zeros_at zero i = refl
zeros_at (suc n) zero = refl
zeros_at (suc n) (suc i) = zeros_at n i

-- no index has a number where none is bound
pub only_none : (own : Own) → OnlyBound [] (none_bound own)
only_none own i out = zeros_at (length own.values) i

-- the number of an index that isn't among those that are bound
bound_other : (indices tuple : List ℕ) (a : Own) (i : ℕ) → contains indices i ≡ false → value_of (all_bound indices tuple a) i ≡ value_of a i
bound_other [] tuple a i out = refl
bound_other (j ∷ js) [] a i out = refl
bound_other (j ∷ js) (n ∷ ns) a i out =
    let parts = or_parts (eqb j i) (contains js i) out in
    bound_other js ns (bound j n a) i parts.1 ∙ get_or-set_other a.values j i n 0 (λ e. eqb-false j i parts.0 (sym e))

-- an index that is neither of these nor of those
pub neither_has : (these indices : List ℕ) (i : ℕ) → contains (these ++ indices) i ≡ false → (contains these i ≡ false) × (contains indices i ≡ false)
neither_has these indices i out = or_parts (contains these i) (contains indices i) (sym (list_any-append (λ j. eqb j i) these indices) ∙ out)

-- no index has a number but those that were bound and these
pub only_taken : (g : Setting) (these indices tuple : List ℕ) (own : Own) → OnlyBound indices own → OnlyBound (these ++ indices) (all_bound these tuple (unset g own))
only_taken g these indices tuple own only i out =
    let parts = neither_has these indices i out in bound_other these tuple (unset g own) i parts.0 ∙ only i parts.1

-- a body that may be left out
unless_kept : (g : Setting) (met : Bool) (body : State → Outcome) (s : State) → IsKept g s (body s) → IsKept g s (unless_left_out met body s)
unless_kept g true body s k = k
unless_kept g false body s k = control_same g s

-- the end of a procedure
back_kept : (g : Setting) (s : State) (o : Outcome) → IsKept g (on_own none_bound s) o → IsKept g s (then_own o (with_values s.own.values))
back_kept g s (Went t) k = record {
  own = ap (with_values s.own.values) k.own;
  shown = record { copies = k.shown.copies; epochs = k.shown.epochs; lines = k.shown.lines };
}
back_kept g s (Stopped trap t) k = record { copies = k.copies; epochs = k.epochs; lines = k.lines }

-- a pardo that stands outside of others, where these indices are bound and calls may go so deep
pub record PardoStands (g : Setting) (set : IsGrantedSetting g) (d : ℕ) (indices these : List ℕ) (body : Block) : Type 0 where
  pub proper : IsTrue (proper_body g.program body)
  pub once : has_twice these ≡ false
  pub unbroken : Unbroken g.program (visits (these ++ indices) true body)
  pub outer : (v : Visit) → Among v (visits (these ++ indices) true body) → Outer g set d v

module _ (reading : Reading) (g : Setting) (set : IsGrantedSetting g) where
  -- procedures that are called within a pardo keep the control
  pub calls_kept : (d q : ℕ) → CalledWithin g set q → (s : State) → IsKept g s (calls reading g d q s)
  calls_kept zero q called s = control_same g s
  calls_kept (suc d) q called s =
      back_kept
      g
      s
      (block_meaning reading g (calls reading g d) (procedure_body g q) (on_own none_bound s))
      (block_kept
      reading
      g
      (calls reading g d)
      []
      false
      (procedure_body g q)
      (procedure_sound g set.proper set.granted q).unbroken
      (λ v m. let calm = within_calm g set q called v m in (calm.0, λ r c. calls_kept d r (calm.1 r c)))
      (on_own none_bound s)
      (only_none s.own))

  -- an iteration of a pardo keeps the control
  pub iteration_kept : (d : ℕ) (indices these : List ℕ) (wheres : List Cond) (body : Block) → PardoStands g set d indices these body → (depth : ℕ) (s : State) → OnlyBound (these ++ indices) s.own → IsKept g s (iteration wheres (block_meaning reading g (calls reading g depth) body) s)
  iteration_kept d indices these wheres body stands depth s only =
      unless_kept
      g
      (all_met s.own wheres)
      (block_meaning reading g (calls reading g depth) body)
      s
      (block_kept
      reading
      g
      (calls reading g depth)
      (these ++ indices)
      true
      body
      stands.unbroken
      (λ v m.
      let within = visits_within (these ++ indices) body v m in
      ((stands.outer v m).calm within, λ q c. calls_kept depth q ((stands.outer v m).inner within q c)))
      s
      only)
