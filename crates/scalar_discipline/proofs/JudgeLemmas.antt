-- What statements break, by the scalars that they name.
use Rattle.std.proofs.Common.{◌≡◌, ℕ, zero, suc, ◌+◌, ◌<◌, List, [], ◌∷◌, ◌++◌, flat_map, slice_index_or, Bool, true, false, ◌==◌, ◌&&◌, ◌||◌, not, nat_lt, refl, sym, ap, ◌∙◌, subst, arith}
use Rattle.std.specs.List.{list_any, enumerate_from}
use Rattle.std.proofs.lemmas.Bool.{eq-eqb}
use Rattle.std.proofs.lemmas.Bool.Decides.{nat_tests}
use Rattle.std.proofs.lemmas.List.Folds.{list_any-append}
use Rattle.sial_syntax.specs.declared.classes.ScalarClass.{ScalarClass}
use Rattle.sial_syntax.specs.declared.classes.ScalarClass.TheVariants.{Replicated, Private, Partial}
use Rattle.sial_syntax.specs.Agreeing.{contains}
use Rattle.sial_syntax.specs.Parts.{scalars_read, scalars_written}
use Rattle.sial_syntax.specs.SideRules.{mixes, breaks_scalar, breaks_partial, breaks_depth, collected_by, is_partial, procedure_depth, wrong_source, sets_zero}
use Rattle.sial_syntax.specs.Sides.{Sided, called_by, is_outer, reads}
use Rattle.sial_syntax.specs.Tree.{Tree, Plain, Collective}
use Rattle.scalar_discipline.specs.Judging.{calls_deep, class_at, is_collective, is_private, write_mixes, mixes_named, reads_partial}

-- a test of two lists
pub any_append : (test : ℕ → Bool) (xs ys : List ℕ) → list_any test (xs ++ ys) ≡ (list_any test xs || list_any test ys)
any_append test xs ys = list_any-append test xs ys

-- a test of all that things have
pub any_flat : {X : Type 0} (test : ℕ → Bool) (f : X → List ℕ) (xs : List X) → list_any test (flat_map f xs) ≡ list_any (λ x. list_any test (f x)) xs
any_flat test f [] = refl
any_flat test f (x ∷ xs) = list_any-append test (f x) (flat_map f xs) ∙ ap (λ b. list_any test (f x) || b) (any_flat test f xs)

-- a number that isn't one of those from another on
past : (test : ScalarClass → Bool) (x first : ℕ) (classes : List ScalarClass) → x < first → list_any (λ (c : ℕ × ScalarClass). test c.1 && (x == c.0)) (enumerate_from first classes) ≡ false
past test x first [] less = refl
past test x first (c ∷ cs) less =
    let apart : (x == first) ≡ false = grind (arith, nat_tests, less) in
    ap (λ b. (test c && b) || list_any (λ (d : ℕ × ScalarClass). test d.1 && (x == d.0)) (enumerate_from (first + 1) cs)) apart
    ∙ (ap (λ b. b || list_any (λ (d : ℕ × ScalarClass). test d.1 && (x == d.0)) (enumerate_from (first + 1) cs)) (no (test c)) ∙ past test x (first + 1) cs (omega (arith, less)))
  where
    no : (b : Bool) → (b && false) ≡ false
    no true = refl
    no false = refl

-- the class of one number
one-class : (test : ScalarClass → Bool) (k first : ℕ) (classes : List ScalarClass) → test Replicated ≡ false → list_any (λ (c : ℕ × ScalarClass). test c.1 && ((first + k) == c.0)) (enumerate_from first classes) ≡ test (slice_index_or classes k Replicated)
one-class test k first [] none = sym none
one-class test zero first (c ∷ cs) none =
    let here : first + 0 ≡ first = omega arith in
    let behind : first + 0 < first + 1 = omega arith in
    ap (λ b. (test c && b) || list_any (λ (d : ℕ × ScalarClass). test d.1 && ((first + 0) == d.0)) (enumerate_from (first + 1) cs)) (eq-eqb (first + 0) first here)
    ∙ (ap (λ b. (test c && true) || b) (past test (first + 0) (first + 1) cs behind) ∙ yes (test c))
  where
    yes : (b : Bool) → ((b && true) || false) ≡ b
    yes true = refl
    yes false = refl
one-class test (suc k) first (c ∷ cs) none =
    let apart : ((first + suc k) == first) ≡ false = grind (arith, nat_tests) in
    let next : first + suc k ≡ (first + 1) + k = omega arith in
    ap (λ b. (test c && b) || list_any (λ (d : ℕ × ScalarClass). test d.1 && ((first + suc k) == d.0)) (enumerate_from (first + 1) cs)) apart
    ∙ (ap (λ b. b || list_any (λ (d : ℕ × ScalarClass). test d.1 && ((first + suc k) == d.0)) (enumerate_from (first + 1) cs)) (no (test c))
    ∙ (ap (λ n. list_any (λ (d : ℕ × ScalarClass). test d.1 && (n == d.0)) (enumerate_from (first + 1) cs)) next ∙ one-class test k (first + 1) cs none))
  where
    no : (b : Bool) → (b && false) ≡ false
    no true = refl
    no false = refl

-- the classes of some numbers
pub named-classes : (test : ScalarClass → Bool) (classes : List ScalarClass) (xs : List ℕ) → test Replicated ≡ false
    → list_any (λ (c : ℕ × ScalarClass). test c.1 && contains xs c.0) (enumerate_from 0 classes) ≡ list_any (λ q. test (slice_index_or classes q Replicated)) xs
named-classes test classes [] none = nothing (enumerate_from 0 classes)
  where
    no : (b : Bool) → (b && false) ≡ false
    no true = refl
    no false = refl

    nothing : (cs : List (ℕ × ScalarClass)) → list_any (λ (c : ℕ × ScalarClass). test c.1 && false) cs ≡ false
    nothing [] = refl
    nothing (c ∷ cs) = ap (λ b. b || list_any (λ (d : ℕ × ScalarClass). test d.1 && false) cs) (no (test c.1)) ∙ nothing cs
named-classes test classes (x ∷ xs) none =
    let start : 0 + x ≡ x = omega arith in
    both (enumerate_from 0 classes)
    ∙ (ap (λ b. b || list_any (λ (c : ℕ × ScalarClass). test c.1 && contains xs c.0) (enumerate_from 0 classes))
    (subst (λ (n : ℕ). list_any (λ (c : ℕ × ScalarClass). test c.1 && (n == c.0)) (enumerate_from 0 classes) ≡ test (slice_index_or classes x Replicated)) start (one-class test x 0 classes none))
    ∙ ap (λ b. test (slice_index_or classes x Replicated) || b) (named-classes test classes xs none))
  where
    mixed : (t a b r s : Bool) → ((t && (a || b)) || (r || s)) ≡ (((t && a) || r) || ((t && b) || s))
    mixed true true true true s = refl
    mixed true true true false s = refl
    mixed true true false true s = refl
    mixed true true false false s = refl
    mixed true false true true s = refl
    mixed true false true false s = refl
    mixed true false false true s = refl
    mixed true false false false s = refl
    mixed false a b true s = refl
    mixed false a b false s = refl

    both : (cs : List (ℕ × ScalarClass))
        → list_any (λ (c : ℕ × ScalarClass). test c.1 && ((x == c.0) || contains xs c.0)) cs
        ≡ (list_any (λ (c : ℕ × ScalarClass). test c.1 && (x == c.0)) cs || list_any (λ (c : ℕ × ScalarClass). test c.1 && contains xs c.0) cs)
    both [] = refl
    both (c ∷ cs) =
        ap (λ b. (test c.1 && ((x == c.0) || contains xs c.0)) || b) (both cs)
        ∙ mixed (test c.1) (x == c.0) (contains xs c.0) (list_any (λ (d : ℕ × ScalarClass). test d.1 && (x == d.0)) cs) (list_any (λ (d : ℕ × ScalarClass). test d.1 && contains xs d.0) cs)

-- a test of things of which none passes
all-false : {X : Type 0} (xs : List X) → list_any (λ (x : X). false) xs ≡ false
all-false [] = refl
all-false (x ∷ xs) = all-false xs

-- the same test of each
same-any : {X : Type 0} (f g : X → Bool) (xs : List X) → ((x : X) → f x ≡ g x) → list_any f xs ≡ list_any g xs
same-any f g [] same = refl
same-any f g (x ∷ xs) same = ap (λ b. b || list_any f xs) (same x) ∙ ap (λ b. g x || b) (same-any f g xs same)

-- one of two tests, behind a third
two-any : {X : Type 0} (o : Bool) (f g : X → Bool) (xs : List X) → list_any (λ (x : X). o && (f x || g x)) xs ≡ (o && (list_any f xs || list_any g xs))
two-any false f g xs = all-false xs
two-any true f g [] = refl
two-any true f g (x ∷ xs) = ap (λ b. (f x || g x) || b) (two-any true f g xs) ∙ four (f x) (g x) (list_any f xs) (list_any g xs)
  where
    four : (a b c d : Bool) → ((a || b) || (c || d)) ≡ ((a || c) || (b || d))
    four true b c d = refl
    four false true true d = refl
    four false true false d = refl
    four false false c d = refl

-- a scalar whose sides a statement mixes
mixes-is : (class : ScalarClass) (q : ℕ) (s : Sided)
    → mixes class q s ≡ (is_outer s && ((write_mixes (sets_zero s.form) class && contains (scalars_written s.form) q) || (is_private class && contains (scalars_read s.form) q)))
mixes-is Replicated q s = sym (no (is_outer s))
  where
    no : (b : Bool) → (b && false) ≡ false
    no true = refl
    no false = refl
mixes-is Private q s = refl
mixes-is Partial q s = ap (λ b. is_outer s && b) (turned (contains (scalars_written s.form) q) (not (sets_zero s.form)))
  where
    turned : (w z : Bool) → (w && z) ≡ ((z && w) || false)
    turned true true = refl
    turned true false = refl
    turned false true = refl
    turned false false = refl

-- MixedScalar, by the scalars that a statement names
pub scalar-is : (classes : List ScalarClass) (s : Sided) → mixes_named classes s ≡ breaks_scalar classes s
scalar-is classes s =
    ap (λ b. b || wrong_source classes s.form)
    (sym
    (same-any (λ (c : ℕ × ScalarClass). mixes c.1 c.0 s) (λ (c : ℕ × ScalarClass). is_outer s && ((write_mixes (sets_zero s.form) c.1 && contains (scalars_written s.form) c.0) || (is_private c.1 && contains (scalars_read s.form) c.0))) (enumerate_from 0 classes) (λ c. mixes-is c.1 c.0 s)
    ∙ (two-any (is_outer s) (λ (c : ℕ × ScalarClass). write_mixes (sets_zero s.form) c.1 && contains (scalars_written s.form) c.0) (λ (c : ℕ × ScalarClass). is_private c.1 && contains (scalars_read s.form) c.0) (enumerate_from 0 classes)
    ∙ (ap (λ b. is_outer s && (b || list_any (λ (c : ℕ × ScalarClass). is_private c.1 && contains (scalars_read s.form) c.0) (enumerate_from 0 classes))) (named-classes (write_mixes (sets_zero s.form)) classes (scalars_written s.form) refl)
    ∙ ap (λ b. is_outer s && (list_any (λ q. write_mixes (sets_zero s.form) (class_at classes q)) (scalars_written s.form) || b)) (named-classes is_private classes (scalars_read s.form) refl)))))

-- nothing is read by `collective` but its source, which it may collect
collected-none : (form : Plain) (q : ℕ) → (contains (scalars_read form) q && not (contains (collected_by form) q)) ≡ (not (is_collective form) && contains (scalars_read form) q)
collected-none (Collective into from) q = no (from == q)
  where
    no : (b : Bool) → ((b || false) && not (b || false)) ≡ false
    no true = refl
    no false = refl
collected-none form q = yes (contains (scalars_read form) q)
  where
    yes : (b : Bool) → (b && true) ≡ b
    yes true = refl
    yes false = refl

-- a test behind another
behind-any : {X : Type 0} (o : Bool) (f : X → Bool) (xs : List X) → list_any (λ (x : X). o && f x) xs ≡ (o && list_any f xs)
behind-any true f xs = refl
behind-any false f xs = all-false xs

-- PartialRead, by the scalars that a statement reads
pub partial-is : (classes : List ScalarClass) (s : Sided) → reads_partial classes s ≡ breaks_partial classes s
partial-is classes s =
    sym
    (same-any (λ (c : ℕ × ScalarClass). is_partial c.1 && (reads c.0 s && not (contains (collected_by s.form) c.0))) (λ (c : ℕ × ScalarClass). not (is_collective s.form) && (is_partial c.1 && contains (scalars_read s.form) c.0)) (enumerate_from 0 classes) (λ c.
    ap (λ b. is_partial c.1 && b) (collected-none s.form c.0) ∙ turned (is_partial c.1) (not (is_collective s.form)) (contains (scalars_read s.form) c.0))
    ∙ (behind-any (not (is_collective s.form)) (λ (c : ℕ × ScalarClass). is_partial c.1 && contains (scalars_read s.form) c.0) (enumerate_from 0 classes)
    ∙ ap (λ b. not (is_collective s.form) && b) (named-classes is_partial classes (scalars_read s.form) refl)))
  where
    turned : (a b c : Bool) → (a && (b && c)) ≡ (b && (a && c))
    turned true b c = refl
    turned false true c = refl
    turned false false c = refl

-- CallTooDeep, by the depths of procedures
pub deep-is : (p : Tree) (depths : List ℕ) (s : Sided) → ((q : ℕ) → slice_index_or depths q 1 ≡ procedure_depth p q) → calls_deep depths s ≡ breaks_depth p s
deep-is p depths s at = same-any (λ q. nat_lt 16 (slice_index_or depths q 1)) (λ q. nat_lt 16 (procedure_depth p q)) (called_by s.form) (λ q. ap (nat_lt 16) (at q))
