-- A program has no recursion exactly where no chain of calls leads back.
use Rattle.std.proofs.Common.{◌≡◌, ℕ, zero, suc, ◌+◌, List, [], ◌∷◌, filter, flat_map, length, slice_index_or, true, false, inl, inr, refl, sym, ap, ◌∙◌, subst, arith}
use Rattle.std.specs.List.{list_any, enumerate_from}
use Rattle.sial_syntax.specs.CallLaws.{RecursionByChains}
use Rattle.sial_syntax.specs.Sides.{called_by}
use Rattle.sial_syntax.specs.SideRules.{calls_of, reaches, recursive_calls, least}
use Rattle.sial_syntax.specs.Tree.{Procedure}
use Rattle.sial_syntax.specs.Visits.{Visit, body_visits}
use Rattle.sial_syntax.proofs.AmongLemmas.{Among, among_flat, among_flat_from, among_map_from, among_filter_from, any_from}
use Rattle.sial_syntax.proofs.CallLemmas.{no_procedure, no_return}
use Rattle.sial_syntax.proofs.ReachedByChains.{member, contained, reached-by-chains}

-- a list without members is empty
empty_is : {X : Type 0} (xs : List X) → ((x : X) → Among x xs → ⊥) → xs ≡ []
empty_is [] none = refl
empty_is (x ∷ xs) none = absurd (none x (inl refl))

-- an entry with a number is that of its place
numbered_is : {X : Type 0} (first : ℕ) (xs : List X) (d : X) (x : ℕ × X) → Among x (enumerate_from first xs) → (i : ℕ) × (x.0 ≡ first + i) × (slice_index_or xs i d ≡ x.1)
numbered_is first [] d x m = absurd m
numbered_is first (y ∷ ys) d x (inl same) = let start : x.0 ≡ first = ap (λ (z : ℕ × _). z.0) same in (zero, omega (arith, start), sym (ap (λ (z : ℕ × _). z.1) same))
numbered_is first (y ∷ ys) d x (inr m) = let r = numbered_is (first + 1) ys d x m in (suc r.0, omega (arith, r.1), r.2)

pub recursion-by-chains : RecursionByChains
recursion-by-chains p proper = (
  λ none q r has leads.
      let reached : reaches p (length p.procedures) r q ≡ true = (reached-by-chains p r q proper).1 leads in
      let far : reaches p (length p.procedures) r q ≡ false = no_return p none q r (member r (calls_of p q) has) in
      absurd cc,
  λ back.
      ap least (empty_is (flat_map (recursive_calls p) (enumerate_from 0 p.procedures)) (λ line m.
      let x = among_flat_from (recursive_calls p) line (enumerate_from 0 p.procedures) m in
      let v = among_map_from (λ (v : Visit). v.line) line (filter (λ (v : Visit). list_any (λ called. reaches p (length p.procedures) called x.0.0) (called_by v.form)) (body_visits x.0.1.body)) x.2 in
      let kept = among_filter_from (λ (v : Visit). list_any (λ called. reaches p (length p.procedures) called x.0.0) (called_by v.form)) v.0 (body_visits x.0.1.body) v.1 in
      let r = any_from (λ called. reaches p (length p.procedures) called x.0.0) (called_by v.0.form) kept.1 in
      let at = numbered_is 0 p.procedures no_procedure x.0 x.1 in
      let number : at.0 ≡ x.0.0 = omega (arith, at.1) in
      let own : slice_index_or p.procedures x.0.0 no_procedure ≡ x.0.1 = ap (λ n. slice_index_or p.procedures n no_procedure) (sym number) ∙ at.2 in
      let calls : Among r.0 (calls_of p x.0.0) =
      subst (λ (q : Procedure). Among r.0 (flat_map (λ (w : Visit). called_by w.form) (body_visits q.body))) (sym own)
      (among_flat (λ (w : Visit). called_by w.form) v.0 r.0 (body_visits x.0.1.body) kept.0 r.1) in
      back x.0.0 r.0 (contained r.0 (calls_of p x.0.0) calls) ((reached-by-chains p r.0 x.0.0 proper).0 r.2))),
)
