-- Chains of calls: where they lead, how deep they go, and which sides they give.
use Rattle.std.specs.Prelude.{◌≡◌, ◌↔◌, ℕ, ◌+◌, max, List, [], ◌∷◌, map, length, fold, Bool, true, None}
use Rattle.std.specs.List.{Contains}
use Rattle.sial_syntax.specs.Proper.{IsProper}
use Rattle.sial_syntax.specs.Sides.{Sides, Sided, called_by, all_sided, sides_of}
use Rattle.sial_syntax.specs.SideRules.{calls_of, reaches, procedure_depth, recursion}
use Rattle.sial_syntax.specs.Tree.{Tree}

-- a chain of calls leads from a procedure to another: each calls the next
abbrev pub CallsLead : Tree → (from : ℕ) → (chain : List ℕ) → (to : ℕ) → Type 0
CallsLead p from [] to = from ≡ to
CallsLead p from (q ∷ qs) to = Contains (calls_of p from) q × CallsLead p q qs to

-- some chain of calls, however long, leads from a procedure to another; one of no calls leads to itself
abbrev pub LeadsTo : Tree → (from to : ℕ) → Type 0
LeadsTo p from to = (chain : List ℕ) × CallsLead p from chain to

-- a procedure is reached exactly where a chain of calls leads to it
abbrev pub ReachedByChains : Type 0
ReachedByChains = (p : Tree) (from to : ℕ) → IsProper p → (reaches p (length p.procedures) from to ≡ true) ↔ LeadsTo p from to

-- a program has no recursion exactly where no procedure calls one that leads back to it
abbrev pub RecursionByChains : Type 0
RecursionByChains =
    (p : Tree)
    → IsProper p → (recursion p ≡ None) ↔ ((procedure called : ℕ) → Contains (calls_of p procedure) called → LeadsTo p called procedure → ⊥)

-- without recursion the depth of a procedure is 1 plus the greatest depth that it calls
abbrev pub DepthByCalls : Type 0
DepthByCalls =
    (p : Tree) (procedure : ℕ)
    → IsProper p → recursion p ≡ None → procedure_depth p procedure ≡ 1 + fold max 0 (map (procedure_depth p) (calls_of p procedure))

-- some call of a procedure stands on such a side
abbrev pub IsGiven : (side : Sides → Bool) → Tree → (procedure : ℕ) → Type 0
IsGiven side p procedure = (s : Sided) × Contains (all_sided p) s × Contains (called_by s.form) procedure × (side s.sides ≡ true)

-- without recursion a procedure stands outside exactly where some call gives it that side
abbrev pub OuterByCalls : Type 0
OuterByCalls =
    (p : Tree) (procedure : ℕ)
    → IsProper p → recursion p ≡ None → ((sides_of p procedure).outer ≡ true) ↔ IsGiven (λ sides. sides.outer) p procedure

-- and within exactly where some call gives it that side
abbrev pub InnerByCalls : Type 0
InnerByCalls =
    (p : Tree) (procedure : ℕ)
    → IsProper p → recursion p ≡ None → ((sides_of p procedure).inner ≡ true) ↔ IsGiven (λ sides. sides.inner) p procedure
