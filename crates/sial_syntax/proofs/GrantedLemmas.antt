-- What the side rules and the classes say of each statement of a granted program.
use Rattle.std.proofs.Common.{◌≡◌, ℕ, ◌+◌, ◌<◌, List, [], ◌∷◌, ◌++◌, length, slice_index_or, Bool, true, false, ◌&&◌, not, if◌then◌else◌, Option, Some, None, filter, refl, sym, ap, ◌∙◌, arith}
use Rattle.std.specs.List.{list_any}
use Rattle.std.proofs.lemmas.Bool.{and_from}
use Rattle.sial_syntax.specs.declared.array.ArrayKind.TheVariants.{Local}
use Rattle.sial_syntax.specs.declared.classes.ScalarClass.TheVariants.{Replicated}
use Rattle.sial_syntax.specs.declared.classes.Side.TheVariants.{Inner, Unused}
use Rattle.sial_syntax.specs.Agreeing.{contains, has_kind}
use Rattle.sial_syntax.specs.Parts.{scalars_written, arrays_named}
use Rattle.sial_syntax.specs.Shapes.{Fault, first_fault}
use Rattle.sial_syntax.specs.Sides.{Sided, all_sided, is_inner, is_outer, writes, is_accumulation, class_by, class_of_scalar, scalar_classes, side_by, side_of_array, array_sides}
use Rattle.sial_syntax.specs.SideRules.{IsGranted, breaks_pardo, breaks_shared_write, breaks_sync, breaks_print, breaks_static, breaks_scalar, breaks_partial, breaks_depth, side_broken, locals_mixed, side_faults, recursion, recursion_or}
use Rattle.sial_syntax.specs.Tree.{Tree}
use Rattle.sial_syntax.proofs.AmongLemmas.{Among, any_at, contains_at, filter_none, map_none, append_none, numbered_at}

-- a statement breaks none of the rules that speak of one statement alone
pub record Grants (p : Tree) (x : Sided) : Type 0 where
  pub pardo : breaks_pardo x ≡ false
  pub sync : breaks_sync x ≡ false
  pub print : breaks_print x ≡ false
  pub static : breaks_static p x ≡ false
  pub scalar : breaks_scalar (scalar_classes p) x ≡ false
  pub deep : breaks_depth p x ≡ false

-- no first fault is no fault
pub fault_none : (faults : List Fault) → first_fault faults ≡ None → faults ≡ []
fault_none [] e = refl
fault_none (f ∷ fs) e = absurd cc

-- no fault of sides is none of either sort
side_none : (line : Option ℕ) (other : Option Fault) → recursion_or line other ≡ None → (line ≡ None) × (other ≡ None)
side_none None other e = (refl, e)
side_none (Some line) other e = absurd cc

-- a granted program has no recursion
pub granted_once : (p : Tree) → IsGranted p → recursion p ≡ None
granted_once p granted = (side_none (recursion p) (first_fault (side_faults p)) granted.sides).0

-- a rule that is broken nowhere
unbroken_at : (rule : ℕ) (breaks : Sided → Bool) (x : Sided) (all : List Sided) → side_broken rule breaks all ≡ [] → Among x all → breaks x ≡ false
unbroken_at rule breaks x all e m = filter_none breaks x all (map_none (λ (s : Sided). record { line = s.line; rule = rule }) (filter breaks all) e) m

-- a granted program's statements break no rule
pub granted_at : (p : Tree) → IsGranted p → (x : Sided) → Among x (all_sided p) → Grants p x
granted_at p granted x m =
    let all = all_sided p in
    let a = side_broken 1 breaks_pardo all in
    let b = a ++ side_broken 2 breaks_shared_write all in
    let c = b ++ side_broken 3 breaks_sync all in
    let d = c ++ side_broken 4 breaks_print all in
    let e = d ++ side_broken 5 (breaks_static p) all in
    let f = e ++ locals_mixed p in
    let g = f ++ side_broken 7 (breaks_scalar (scalar_classes p)) all in
    let h = g ++ side_broken 8 (breaks_partial (scalar_classes p)) all in
    let none = fault_none (side_faults p) (side_none (recursion p) (first_fault (side_faults p)) granted.sides).1 in
    let to_h = append_none h (side_broken 10 (breaks_depth p) all) none in
    let to_g = append_none g (side_broken 8 (breaks_partial (scalar_classes p)) all) to_h.0 in
    let to_f = append_none f (side_broken 7 (breaks_scalar (scalar_classes p)) all) to_g.0 in
    let to_e = append_none e (locals_mixed p) to_f.0 in
    let to_d = append_none d (side_broken 5 (breaks_static p) all) to_e.0 in
    let to_c = append_none c (side_broken 4 breaks_print all) to_d.0 in
    let to_b = append_none b (side_broken 3 breaks_sync all) to_c.0 in
    let to_a = append_none a (side_broken 2 breaks_shared_write all) to_b.0 in
    record {
      pardo = unbroken_at 1 breaks_pardo x all to_a.0 m;
      sync = unbroken_at 3 breaks_sync x all to_b.1 m;
      print = unbroken_at 4 breaks_print x all to_c.1 m;
      static = unbroken_at 5 (breaks_static p) x all to_d.1 m;
      scalar = unbroken_at 7 (breaks_scalar (scalar_classes p)) x all to_f.1 m;
      deep = unbroken_at 10 (breaks_depth p) x all to_h.1 m;
    }

-- a scalar that is written within isn't replicated
written_within : (written accumulated : Bool) → written ≡ true → class_by written accumulated ≡ Replicated → ⊥
written_within true true e f = absurd cc
written_within true false e f = absurd cc
written_within false accumulated e f = absurd cc

-- the class of a scalar that a statement within writes
pub written_class : (p : Tree) (x : Sided) (scalar : ℕ) → Among x (all_sided p) → is_inner x ≡ true → Among scalar (scalars_written x.form) → scalar < length p.scalars → slice_index_or (scalar_classes p) scalar Replicated ≡ Replicated → ⊥
written_class p x scalar m within written there e =
    let here : ◌≡◌ {A = ℕ} (0 + scalar) scalar = omega arith in
    let class : slice_index_or (scalar_classes p) scalar Replicated ≡ class_of_scalar (all_sided p) scalar =
    numbered_at (class_of_scalar (all_sided p)) 0 p.scalars scalar Replicated there ∙ ap (class_of_scalar (all_sided p)) here in
    written_within
    (list_any (λ s. is_inner s && writes scalar s) (all_sided p))
    (not (list_any (λ s. is_inner s && (writes scalar s && not (is_accumulation s.form))) (all_sided p)))
    (any_at (λ s. is_inner s && writes scalar s) x (all_sided p) m (and_from (is_inner x) (writes scalar x) within (contains_at scalar (scalars_written x.form) written)))
    (sym class ∙ e)

-- an array that is used within has that side
used_within : (within outer : Bool) → within ≡ true → side_by within outer ≡ Inner
used_within true outer e = refl
used_within false outer e = absurd cc

-- the side of a local array that a statement within names
pub named_side : (p : Tree) (x : Sided) (array : ℕ) → Among x (all_sided p) → is_inner x ≡ true → Among array (arrays_named x.form) → array < length p.arrays → has_kind p Local array ≡ true → slice_index_or (array_sides p) array Unused ≡ Inner
named_side p x array m within named there local =
    let here : ◌≡◌ {A = ℕ} (0 + array) array = omega arith in
    let inner = list_any (λ s. is_inner s && contains (arrays_named s.form) array) (all_sided p) in
    let outer = list_any (λ s. is_outer s && contains (arrays_named s.form) array) (all_sided p) in
    numbered_at (side_of_array p (all_sided p)) 0 p.arrays array Unused there
    ∙ (ap (side_of_array p (all_sided p)) here
    ∙ (ap (λ b. if b then side_by inner outer else Unused) local
    ∙ used_within
    inner
    outer
    (any_at (λ s. is_inner s && contains (arrays_named s.form) array) x (all_sided p) m (and_from (is_inner x) (contains (arrays_named x.form) array) within (contains_at array (arrays_named x.form) named)))))
