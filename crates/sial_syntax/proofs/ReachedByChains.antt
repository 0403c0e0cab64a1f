-- A procedure is reached exactly where a chain of calls leads to it: a chain that comes back can be cut.
use Rattle.std.proofs.Common.{◌≡◌, ℕ, zero, suc, ◌<◌, ◌≤◌, List, [], ◌∷◌, length, slice_index_or, true, false, eqb, eqb-true, eq-eqb, ◌⊎◌, inl, inr, refl, sym, subst, arith}
use Rattle.std.specs.List.{Contains, list_any}
use Rattle.std.proofs.lemmas.Bool.{or_cases, or_left, or_right, or_parts, or_from}
use Rattle.sial_syntax.specs.Agreeing.{contains, has_twice}
use Rattle.sial_syntax.specs.CallLaws.{CallsLead, LeadsTo, ReachedByChains}
use Rattle.sial_syntax.specs.Proper.{IsProper}
use Rattle.sial_syntax.specs.SideRules.{calls_of, reaches}
use Rattle.sial_syntax.specs.Tree.{Tree}
use Rattle.sial_syntax.proofs.AmongLemmas.{Among, any_at, any_from, among_from}
use Rattle.sial_syntax.proofs.CallLemmas.{Below, below_short}
use Rattle.sial_syntax.proofs.DepthLemmas.{calls_below}

-- what a list has at a place is a member
member_at : {X : Type 0} (x : X) (xs : List X) (k : ℕ) → k < length xs → slice_index_or xs k x ≡ x → Among x xs
member_at x [] k below is = absurd (omega (arith, below))
member_at x (y ∷ ys) zero below is = inl (sym is)
member_at x (y ∷ ys) (suc k) below is = inr (member_at x ys k (omega (arith, below)) is)

-- what a list has is a member
pub member : {X : Type 0} (x : X) (xs : List X) → Contains xs x → Among x xs
member x xs has = member_at x xs has.0 has.1 has.2

-- a member is what the list has
pub contained : {X : Type 0} (x : X) (xs : List X) → Among x xs → Contains xs x
contained x [] m = absurd m
contained x (y ∷ ys) (inl same) = (zero, omega arith, sym same)
contained x (y ∷ ys) (inr m) = let r = contained x ys m in (suc r.0, omega (arith, r.1), r.2)

-- what is reached is led to
led : (p : Tree) (most from to : ℕ) → reaches p most from to ≡ true → LeadsTo p from to
led p zero from to e = ([], eqb-true from to e)
led p (suc most) from to e = one (or_cases (eqb from to) (list_any (λ q. reaches p most q to) (calls_of p from)) e) (λ q r. led p most q to r)
  where
    one : (eqb from to ≡ true) ⊎ (list_any (λ q. reaches p most q to) (calls_of p from) ≡ true) → ((q : ℕ) → reaches p most q to ≡ true → LeadsTo p q to) → LeadsTo p from to
    one (inl same) on = ([], eqb-true from to same)
    one (inr some) on =
        let r = any_from (λ q. reaches p most q to) (calls_of p from) some in
        let rest = on r.0 r.2 in
        (r.0 ∷ rest.0, (contained r.0 (calls_of p from) r.1, rest.1))

-- the end of a chain is reached by as many calls as it has, or more
reached : (p : Tree) (most from to : ℕ) (chain : List ℕ) → CallsLead p from chain to → length chain ≤ most → reaches p most from to ≡ true
reached p zero from to [] lead few = eq-eqb from to lead
reached p (suc most) from to [] lead few = or_left (eqb from to) (list_any (λ q. reaches p most q to) (calls_of p from)) (eq-eqb from to lead)
reached p zero from to (q ∷ qs) lead few = absurd (omega (arith, few))
reached p (suc most) from to (q ∷ qs) lead few =
    or_right
    (eqb from to)
    (list_any (λ r. reaches p most r to) (calls_of p from))
    (any_at (λ r. reaches p most r to) q (calls_of p from) (member q (calls_of p from) lead.0) (reached p most q to qs lead.1 (omega (arith, few))))

-- a chain that repeats no procedure
abbrev Once : Tree → (from to : ℕ) → Type 0
Once p from to = (chain : List ℕ) × CallsLead p from chain to × (has_twice (from ∷ chain) ≡ false)

-- from a procedure on the chain the rest of it leads on
from_on : (p : Tree) (from to : ℕ) (chain : List ℕ) → CallsLead p from chain to → has_twice (from ∷ chain) ≡ false → (q : ℕ) → Among q (from ∷ chain) → Once p q to
from_on p from to chain lead once q (inl same) = subst (λ (x : ℕ). Once p x to) (sym same) (chain, lead, once)
from_on p from to [] lead once q (inr m) = absurd m
from_on p from to (r ∷ rs) lead once q (inr m) = from_on p r to rs lead.1 (or_parts (contains (r ∷ rs) from) (has_twice (r ∷ rs)) once).1 q m

-- each chain can be cut to one that repeats no procedure
cut : (p : Tree) (from to : ℕ) (chain : List ℕ) → CallsLead p from chain to → Once p from to
cut p from to [] lead = ([], lead, refl)
cut p from to (q ∷ qs) lead = by_cases (cut p q to qs lead.1)
  where
    by_cases : Once p q to → Once p from to
    by_cases short =
        elim (contains (q ∷ short.0) from) as (λ b. contains (q ∷ short.0) from ≡ b → Once p from to) [
          | true ↦ λ e. from_on p q to short.0 short.1 short.2 from (among_from from (q ∷ short.0) e)
          | false ↦ λ e. (q ∷ short.0, (lead.0, short.1), or_from (contains (q ∷ short.0) from) (has_twice (q ∷ short.0)) e short.2)
        ] refl

-- the procedures of a chain are there
chain_below : (p : Tree) → IsProper p → (from to : ℕ) (chain : List ℕ) → CallsLead p from chain to → Below (length p.procedures) chain
chain_below p proper from to [] lead = tt
chain_below p proper from to (q ∷ qs) lead = (calls_below p proper from q (member q (calls_of p from) lead.0), chain_below p proper q to qs lead.1)

pub reached-by-chains : ReachedByChains
reached-by-chains p from to proper = (
  led p (length p.procedures) from to,
  λ leads.
      let once = cut p from to leads.0 leads.1 in
      let parts = or_parts (contains once.0 from) (has_twice once.0) once.2 in
      reached p (length p.procedures) from to once.0 once.1 (below_short (length p.procedures) once.0 (chain_below p proper from to once.0 once.1) parts.1),
)
