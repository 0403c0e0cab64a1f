-- Look-ups and insertions in the kept names are those of the scope.
use Rattle.std.proofs.Common.{◌≡◌, ℕ, List, [], ◌∷◌, ◌++◌, Bool, true, false, cond, map, Option, Some, None, refl, ap, ◌∙◌}
use Rattle.std.specs.Global.{Vec}
use Rattle.std.specs.Map.{lookup}
use Rattle.std.specs.Str.{bytes_eq}
use Rattle.indexmap.specs.IndexMap.{insert_entry}
use Rattle.sial_parser.specs.Names.{entry}
use Rattle.sial_parser.specs.Scope.{thing_of}
use Rattle.sial_parser.specs.declared.thing.Thing.{Thing}

-- a name is looked up among the entries
pub looked : (name : List ℕ) (es : List (Vec ℕ × Thing)) → lookup (λ (k : Vec ℕ). bytes_eq name k.items) es ≡ thing_of (map entry es) name
looked name [] = refl
looked name (e ∷ es) = ap (λ r. cond (bytes_eq name e.0.items) (Some e.1) r) (looked name es)

absent : (b : Bool) (t : Thing) (r : Option Thing) → cond b (Some t) r ≡ None → (b ≡ false) × (r ≡ None)
absent true t r e = absurd cc
absent false t r e = (refl, e)

-- a new name goes last
pub inserted : (key : Vec ℕ) (t : Thing) (es : List (Vec ℕ × Thing)) → thing_of (map entry es) key.items ≡ None
    → map entry (insert_entry (λ (a b : Vec ℕ). bytes_eq a.items b.items) es key t) ≡ map entry es ++ record { name = key.items; thing = t } ∷ []
inserted key t [] free = refl
inserted key t (e ∷ es) free =
    let parts = absent (bytes_eq key.items e.0.items) e.1 (thing_of (map entry es) key.items) free in
    ap (λ b. map entry (cond b ((e.0, t) ∷ es) (e ∷ insert_entry (λ (a b : Vec ℕ). bytes_eq a.items b.items) es key t))) parts.0 ∙ ap (λ xs. entry e ∷ xs) (inserted key t es parts.1)
