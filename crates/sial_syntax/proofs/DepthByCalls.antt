-- Without recursion the depth of a procedure is 1 plus the greatest depth that it calls.
use Rattle.std.proofs.Common.{◌≡◌, ℕ, zero, suc, ◌+◌, ◌<◌, max, List, [], ◌∷◌, map, length, fold, true, false, nat_lt, inl, inr, refl, sym, ap, ◌∙◌, subst, arith}
use Rattle.std.proofs.lemmas.Bool.{ltb-true, ltb-false}
use Rattle.std.proofs.lemmas.List.{get_or_past}
use Rattle.sial_syntax.specs.CallLaws.{DepthByCalls}
use Rattle.sial_syntax.specs.Sides.{called_by}
use Rattle.sial_syntax.specs.SideRules.{calls_of, depth_of}
use Rattle.sial_syntax.specs.Tree.{Tree, Procedure}
use Rattle.sial_syntax.specs.Visits.{Visit, body_visits}
use Rattle.std.specs.Prelude.{flat_map}
use Rattle.sial_syntax.proofs.AmongLemmas.{Among, all_at}
use Rattle.sial_syntax.proofs.CallLemmas.{no_procedure}
use Rattle.sial_syntax.proofs.DepthLemmas.{shallow, all_shallow}

-- what is the same for each member is the same for all
same_map : {X Y : Type 0} (f g : X → Y) (xs : List X) → ((x : X) → Among x xs → f x ≡ g x) → map f xs ≡ map g xs
same_map f g [] same = refl
same_map f g (x ∷ xs) same = ap (λ y. y ∷ map f xs) (same x (inl refl)) ∙ ap (λ ys. g x ∷ ys) (same_map f g xs (λ y m. same y (inr m)))

-- a depth that looks at all chains of calls is the same where it looks further
settled : (p : Tree) (most q : ℕ) → shallow p most q ≡ true → depth_of p (suc most) q ≡ depth_of p most q
settled p zero q s = absurd cc
settled p (suc most) q s =
    ap
    (λ ds. 1 + fold max 0 ds)
    (same_map (depth_of p (suc most)) (depth_of p most) (calls_of p q) (λ r m. settled p most r (all_at (shallow p most) r (calls_of p q) s m)))

-- a procedure that isn't there calls none
calls_none : (p : Tree) (q : ℕ) → (q < length p.procedures → ⊥) → calls_of p q ≡ []
calls_none p q past =
    ap (λ (r : Procedure). flat_map (λ (v : Visit). called_by v.form) (body_visits r.body)) (get_or_past p.procedures q no_procedure (omega (arith, past)))

pub depth-by-calls : DepthByCalls
depth-by-calls p q proper none =
    let more : ◌≡◌ {A = ℕ} (suc (length p.procedures)) (length p.procedures + 1) = omega arith in
    subst (λ (n : ℕ). depth_of p n q ≡ 1 + fold max 0 (map (depth_of p n) (calls_of p q))) more
    (elim (nat_lt q (length p.procedures)) as (λ b. nat_lt q (length p.procedures) ≡ b → depth_of p (suc (length p.procedures)) q ≡ depth_of p (suc (suc (length p.procedures))) q) [
      | true ↦ λ e. sym (settled p (suc (length p.procedures)) q (all_shallow p proper none q (ltb-true q (length p.procedures) e)))
      | false ↦ λ e.
          let no = calls_none p q (λ there. let not_there = ltb-false q (length p.procedures) e in omega (arith, there, not_there)) in
          ap (λ rs. 1 + fold max 0 (map (depth_of p (length p.procedures)) rs)) no ∙ sym (ap (λ rs. 1 + fold max 0 (map (depth_of p (suc (length p.procedures))) rs)) no)
    ] refl)
