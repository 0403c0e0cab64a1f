-- A partial scalar is only added to within pardos, and only set to 0 outside.
use Rattle.std.proofs.Common.{◌≡◌, ℕ, zero, suc, ◌+◌, ◌<◌, List, [], ◌∷◌, length, slice_index_or, Bool, true, false, ◌&&◌, not, refl, sym, ap, ◌∙◌, arith}
use Rattle.std.specs.List.{list_any, enumerate_from}
use Rattle.std.proofs.lemmas.Bool.{and_from, or_parts}
use Rattle.std.proofs.lemmas.List.{length-map}
use Rattle.std.proofs.lemmas.List.FromFn.{length-enumerate_from}
use Rattle.sial_syntax.proofs.AmongLemmas.{Among, any_at, none_at, contains_at, numbered_at, among_numbered}
use Rattle.sial_syntax.specs.declared.classes.ScalarClass.{ScalarClass}
use Rattle.sial_syntax.specs.declared.classes.ScalarClass.TheVariants.{Replicated, Partial}
use Rattle.sial_syntax.specs.Parts.{scalars_written}
use Rattle.sial_syntax.specs.SideRules.{mixes, wrong_source, breaks_scalar, sets_zero}
use Rattle.sial_syntax.specs.Sides.{Sided, all_sided, is_inner, is_outer, writes, is_accumulation, class_by, class_of_scalar, scalar_classes}
use Rattle.sial_syntax.specs.Tree.{Tree}

-- what isn't only accumulated isn't partial
only_accumulated : (written other : Bool) → class_by written (not other) ≡ Partial → other ≡ false
only_accumulated true true e = absurd cc
only_accumulated true false e = refl
only_accumulated false other e = absurd cc

-- a statement accumulates, or doesn't
by_test : (b other : Bool) → (b ≡ false → other ≡ true) → other ≡ false → b ≡ true
by_test true other h e = refl
by_test false other h e = absurd (let t : other ≡ true = h refl in cc)

-- a test that fails, turned
turned_true : (b : Bool) → b ≡ false → not b ≡ true
turned_true true e = absurd cc
turned_true false e = refl

-- a statement within that writes a partial scalar only adds to it or subtracts
pub accumulates_so : (p : Tree) (x : Sided) (scalar : ℕ) → Among x (all_sided p) → is_inner x ≡ true → Among scalar (scalars_written x.form) → scalar < length p.scalars → slice_index_or (scalar_classes p) scalar Replicated ≡ Partial → is_accumulation x.form ≡ true
accumulates_so p x scalar m within written there e =
    let here : ◌≡◌ {A = ℕ} (0 + scalar) scalar = omega arith in
    let class : slice_index_or (scalar_classes p) scalar Replicated ≡ class_of_scalar (all_sided p) scalar =
    numbered_at (class_of_scalar (all_sided p)) 0 p.scalars scalar Replicated there ∙ ap (class_of_scalar (all_sided p)) here in
    let other : Sided → Bool = λ s. is_inner s && (writes scalar s && not (is_accumulation s.form)) in
    by_test
    (is_accumulation x.form)
    (list_any other (all_sided p))
    (λ no.
    any_at
    other
    x
    (all_sided p)
    m
    (and_from
    (is_inner x)
    (writes scalar x && not (is_accumulation x.form))
    within
    (and_from (writes scalar x) (not (is_accumulation x.form)) (contains_at scalar (scalars_written x.form) written) (turned_true (is_accumulation x.form) no))))
    (only_accumulated (list_any (λ s. is_inner s && writes scalar s) (all_sided p)) (list_any other (all_sided p)) (sym class ∙ e))

-- a class that is partial is one of a list
class_there : (classes : List ScalarClass) (scalar : ℕ) → slice_index_or classes scalar Replicated ≡ Partial → scalar < length classes
class_there [] scalar e = absurd cc
class_there (c ∷ cs) zero e = omega arith
class_there (c ∷ cs) (suc n) e = let more = class_there cs n e in omega (arith, more)

-- there are as many classes as scalars
pub partial_there : (p : Tree) (scalar : ℕ) → slice_index_or (scalar_classes p) scalar Replicated ≡ Partial → scalar < length p.scalars
partial_there p scalar e =
    let below = class_there (scalar_classes p) scalar e in
    let long : length (scalar_classes p) ≡ length p.scalars =
    length-map (enumerate_from 0 p.scalars) (λ (x : ℕ × List ℕ). class_of_scalar (all_sided p) x.0) ∙ length-enumerate_from 0 p.scalars in
    omega (arith, below, long)

-- what isn't mixed is set to 0
only_zeroed : (outer written zeroed : Bool) → outer ≡ true → written ≡ true → (outer && (written && not zeroed)) ≡ false → zeroed ≡ true
only_zeroed true true true a b e = refl
only_zeroed true true false a b e = absurd cc
only_zeroed true false zeroed a b e = absurd cc
only_zeroed false written zeroed a b e = absurd cc

-- a statement outside that writes a partial scalar sets it to 0
pub zeroes_so : (p : Tree) (x : Sided) (scalar : ℕ) → breaks_scalar (scalar_classes p) x ≡ false → is_outer x ≡ true → Among scalar (scalars_written x.form) → slice_index_or (scalar_classes p) scalar Replicated ≡ Partial → sets_zero x.form ≡ true
zeroes_so p x scalar grants outer written e =
    let classes = scalar_classes p in
    let none = (or_parts (list_any (λ (c : ℕ × ScalarClass). mixes c.1 c.0 x) (enumerate_from 0 classes)) (wrong_source classes x.form) grants).0 in
    let here : ◌≡◌ {A = ℕ} (0 + scalar) scalar = omega arith in
    let mixed : mixes (slice_index_or classes scalar Replicated) (0 + scalar) x ≡ false =
    none_at (λ (c : ℕ × ScalarClass). mixes c.1 c.0 x) (0 + scalar, slice_index_or classes scalar Replicated) (enumerate_from 0 classes) none (among_numbered 0 classes scalar Replicated (class_there classes scalar e)) in
    only_zeroed
    (is_outer x)
    (writes scalar x)
    (sets_zero x.form)
    outer
    (contains_at scalar (scalars_written x.form) written)
    (sym (ap (λ c. mixes c scalar x) e) ∙ (ap (λ n. mixes (slice_index_or classes scalar Replicated) n x) (sym here) ∙ mixed))
