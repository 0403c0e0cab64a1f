-- What the rules give of the statements of a proper program.
use Rattle.std.proofs.Common.{◌≡◌, ℕ, zero, suc, List, [], ◌∷◌, ◌++◌, filter, flat_map, Bool, true, false, cond, ◌&&◌, ◌||◌, slice_index_or, refl, sym, ◌∙◌, IsTrue}
use Rattle.std.proofs.lemmas.List.Elements.{filter-append}
use Rattle.sial_syntax.proofs.AmongLemmas.{Among, filter_none, append_none}
use Rattle.sial_syntax.proofs.CallLemmas.{no_procedure}
use Rattle.sial_syntax.proofs.DepthLemmas.{procedure_there, body_there}
use Rattle.sial_meaning.proofs.Granted.Shapes.{shapes-hold}
use Rattle.sial_syntax.specs.Agreeing.{contains, share_any, has_twice}
use Rattle.sial_syntax.specs.Parts.{indices_bound}
use Rattle.sial_syntax.specs.Proper.{IsProper, proper_body}
use Rattle.sial_syntax.specs.Shapes.{breaks_rebound, breaks_kind}
use Rattle.sial_syntax.specs.SideRules.{IsGranted}
use Rattle.sial_syntax.specs.Tree.{Tree, Procedure, Block}
use Rattle.sial_syntax.specs.Visits.{Visit, visits, body_visits, all_visits}
use Rattle.sial_meaning.specs.Setting.{Setting, procedure_body}

-- no index that is bound is bound again at any of these statements
abbrev pub Unbroken : Tree → List Visit → Type 0
Unbroken p all = filter (breaks_rebound p) all ≡ []

-- statements whose parts are there, and that bind no bound index again
pub record Sound (p : Tree) (bound : List ℕ) (within : Bool) (body : Block) : Type 0 where
  pub proper : IsTrue (proper_body p body)
  pub unbroken : Unbroken p (visits bound within body)

-- both of two tests
pub both : (a b : Bool) → (a && b) ≡ true → (a ≡ true) × (b ≡ true)
both true b e = (refl, e)
both false b e = absurd cc

-- neither of two tests
pub neither : (a b : Bool) → (a || b) ≡ false → (a ≡ false) × (b ≡ false)
neither true b e = absurd cc
neither false b e = (refl, e)

-- an entry that is left out
pub kept_none : {X : Type 0} (b : Bool) (x : X) (xs : List X) → cond b (x ∷ xs) xs ≡ [] → (b ≡ false) × (xs ≡ [])
kept_none true x xs e = absurd cc
kept_none false x xs e = (refl, e)

-- the first statement and the others
pub unbroken_cons : (p : Tree) (v : Visit) (vs : List Visit) → Unbroken p (v ∷ vs) → (breaks_rebound p v ≡ false) × Unbroken p vs
unbroken_cons p v vs e = kept_none (breaks_rebound p v) v (filter (breaks_rebound p) vs) e

-- some statements and others
pub unbroken_append : (p : Tree) (xs ys : List Visit) → Unbroken p (xs ++ ys) → Unbroken p xs × Unbroken p ys
unbroken_append p xs ys e =
    append_none (filter (breaks_rebound p) xs) (filter (breaks_rebound p) ys) (sym (filter-append (breaks_rebound p) xs ys) ∙ e)

-- a statement binds no index that is bound
pub unbound_there : (p : Tree) (v : Visit) → breaks_rebound p v ≡ false → share_any (indices_bound v.form) v.bound ≡ false
unbound_there p v e = (neither (share_any (indices_bound v.form) v.bound) (has_twice (indices_bound v.form)) e).0

-- one index of those
pub unbound_one : (bound : List ℕ) (index : ℕ) (indices : List ℕ) → share_any (index ∷ indices) bound ≡ false → (contains bound index ≡ false) × (share_any indices bound ≡ false)
unbound_one bound index indices e = neither (contains bound index) (share_any indices bound) e

-- a granted program binds no bound index again
pub granted_unbroken : (p : Tree) → IsGranted p → Unbroken p (all_visits p)
granted_unbroken p granted = (shapes-hold p granted).rebound

-- a granted program has no index, array or operand of a kind that may not stand there
pub granted_kinds : (p : Tree) → IsGranted p → (v : Visit) → Among v (all_visits p) → breaks_kind p v ≡ false
granted_kinds p granted v m = filter_none (breaks_kind p) v (all_visits p) (shapes-hold p granted).kind m

-- each procedure's statements are among all
procedure_unbroken : (p : Tree) (procedures : List Procedure) (number : ℕ) → Unbroken p (flat_map (λ (q : Procedure). body_visits q.body) procedures) → Unbroken p (body_visits (slice_index_or procedures number no_procedure).body)
procedure_unbroken p [] number e = refl
procedure_unbroken p (q ∷ qs) zero e = (unbroken_append p (body_visits q.body) (flat_map (λ (r : Procedure). body_visits r.body) qs) e).0
procedure_unbroken p (q ∷ qs) (suc n) e = procedure_unbroken p qs n (unbroken_append p (body_visits q.body) (flat_map (λ (r : Procedure). body_visits r.body) qs) e).1

-- the program's own statements
pub body_sound : (p : Tree) → IsProper p → IsGranted p → Sound p [] false p.body
body_sound p proper granted = record {
  proper = body_there p proper;
  unbroken = (unbroken_append p (body_visits p.body) (flat_map (λ (q : Procedure). body_visits q.body) p.procedures) (granted_unbroken p granted)).0;
}

-- a procedure's statements
pub procedure_sound : (g : Setting) → IsProper g.program → IsGranted g.program → (procedure : ℕ) → Sound g.program [] false (procedure_body g procedure)
procedure_sound g proper granted procedure = record {
  proper = procedure_there g.program g.program.procedures procedure proper.procedures;
  unbroken =
      procedure_unbroken
      g.program
      g.program.procedures
      procedure
      (unbroken_append g.program (body_visits g.program.body) (flat_map (λ (q : Procedure). body_visits q.body) g.program.procedures) (granted_unbroken g.program granted)).1;
}
