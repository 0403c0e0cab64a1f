-- Names are distinct: none stands in front of itself.
use Rattle.std.proofs.Common.{◌≡◌, ℕ, List, [], ◌∷◌, ◌++◌, Bool, true, false, cond, map, Some, None, refl, sym, ap, ◌∙◌, subst}
use Rattle.std.specs.Global.{Vec}
use Rattle.std.specs.List.{AllByRecursion, IsDistinct}
use Rattle.std.specs.Str.{bytes_eq}
use Rattle.std.proofs.lemmas.Slice.Eq.{bytes_eq-Decides}
use Rattle.sial_parser.specs.Names.{entry}
use Rattle.sial_parser.specs.Scope.{Scope, Entry, thing_of}
use Rattle.sial_parser.specs.declared.thing.Thing.{Thing}

bytes_by : (b : Bool) (x y : List ℕ) → bytes_eq x y ≡ false → bytes_eq y x ≡ b → b ≡ false
bytes_by true x y e h = absurd (let k : ◌≡◌ {A = Bool} true false = sym ((bytes_eq-Decides x y).1 (sym ((bytes_eq-Decides y x).0 h))) ∙ e in cc)
bytes_by false x y e h = refl

bytes_other : (x y : List ℕ) → bytes_eq x y ≡ false → bytes_eq y x ≡ false
bytes_other x y e = bytes_by (bytes_eq y x) x y e refl

-- none of the names behind one is it
none_behind : (x : List ℕ) (es : List (Vec ℕ × Thing)) → AllByRecursion (λ (y : Vec ℕ). bytes_eq x y.items ≡ false) (map (λ (p : Vec ℕ × Thing). p.0) es) → AllByRecursion (λ (n : Entry). bytes_eq x n.name ≡ false) (map entry es)
none_behind x [] h = tt
none_behind x (e ∷ es) h = (h.0, none_behind x es h.1)

-- names of which each differs from those behind it
abbrev AreApart : Scope → Type 0
AreApart [] = Unit {0}
AreApart (n ∷ ns) = AllByRecursion (λ (m : Entry). bytes_eq n.name m.name ≡ false) ns × AreApart ns

apart : (es : List (Vec ℕ × Thing)) → IsDistinct (λ (a b : Vec ℕ). bytes_eq a.items b.items) (map (λ (p : Vec ℕ × Thing). p.0) es) → AreApart (map entry es)
unfolding IsDistinct
apart [] d = tt
apart (e ∷ es) d = (none_behind e.0.items es d.0, apart es d.1)

in_middle : (P : Entry → Type 0) (fs : Scope) (n : Entry) (rest : Scope) → AllByRecursion P (fs ++ n ∷ rest) → P n
in_middle P [] n rest h = h.0
in_middle P (f ∷ fs) n rest h = in_middle P fs n rest h.1

free_in : (front : Scope) (n : Entry) (rest : Scope) → AreApart (front ++ n ∷ rest) → thing_of front n.name ≡ None
free_in [] n rest d = refl
free_in (f ∷ fs) n rest d =
    ap (λ b. cond b (Some f.thing) (thing_of fs n.name)) (bytes_other f.name n.name (in_middle (λ (m : Entry). bytes_eq f.name m.name ≡ false) fs n rest d.0)) ∙ free_in fs n rest d.1

-- a kept name is free among those before it
pub free_before : (front : Scope) (e : Vec ℕ × Thing) (rest es : List (Vec ℕ × Thing)) → IsDistinct (λ (a b : Vec ℕ). bytes_eq a.items b.items) (map (λ (p : Vec ℕ × Thing). p.0) es) → front ++ entry e ∷ map entry rest ≡ map entry es → thing_of front e.0.items ≡ None
free_before front e rest es d whole = free_in front (entry e) (map entry rest) (subst AreApart (sym whole) (apart es d))
