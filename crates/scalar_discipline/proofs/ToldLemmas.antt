-- The faults of statements, one statement after another, are those of the rules, one rule after another.
use Rattle.std.proofs.Common.{◌≡◌, ℕ, List, [], ◌∷◌, ◌++◌, slice_index_or, Option, None, refl, sym, ap, ◌∙◌}
use Rattle.sial_syntax.specs.declared.classes.ScalarClass.{ScalarClass}
use Rattle.sial_syntax.specs.Shapes.{Fault, first_fault}
use Rattle.sial_syntax.specs.SideRules.{breaks_pardo, breaks_shared_write, breaks_sync, breaks_print, breaks_static, breaks_scalar, breaks_partial, breaks_depth, side_broken, locals_mixed, side_faults, procedure_depth}
use Rattle.sial_syntax.specs.Sides.{Sided, all_sided, scalar_classes}
use Rattle.sial_syntax.specs.Tree.{Tree}
use Rattle.scalar_discipline.specs.Judging.{sooner, fault_if, or_else, told, first_told}
use Rattle.scalar_discipline.proofs.FirstLemmas.{sooner-none, sooner-three, first-append, first-filter, of_eight, told-first, eight-pairs, sixth-last}
use Rattle.scalar_discipline.proofs.JudgeLemmas.{scalar-is, partial-is, deep-is}

-- the first fault of statements by rules, one rule after another
abbrev by_rules : Tree → List ScalarClass → List Sided → Option Fault
by_rules p classes ss =
    of_eight
    (first_fault (side_broken 1 breaks_pardo ss))
    (first_fault (side_broken 2 breaks_shared_write ss))
    (first_fault (side_broken 3 breaks_sync ss))
    (first_fault (side_broken 4 breaks_print ss))
    (first_fault (side_broken 5 (breaks_static p) ss))
    (first_fault (side_broken 7 (breaks_scalar classes) ss))
    (first_fault (side_broken 8 (breaks_partial classes) ss))
    (first_fault (side_broken 10 (breaks_depth p) ss))

-- what is told of a statement, by the rules
abbrev by_rule : Tree → List ScalarClass → Sided → Option Fault
by_rule p classes s =
    or_else (breaks_pardo s) s.line 1
    (or_else (breaks_shared_write s) s.line 2
    (or_else (breaks_sync s) s.line 3
    (or_else (breaks_print s) s.line 4
    (or_else (breaks_static p s) s.line 5
    (or_else (breaks_scalar classes s) s.line 7
    (or_else (breaks_partial classes s) s.line 8
    (or_else (breaks_depth p s) s.line 10 None)))))))

-- it is what the code tells
told-is : (p : Tree) (classes : List ScalarClass) (depths : List ℕ) (s : Sided) → ((q : ℕ) → slice_index_or depths q 1 ≡ procedure_depth p q) → told p classes depths s ≡ by_rule p classes s
told-is p classes depths s at = three (scalar-is classes s) (partial-is classes s) (deep-is p depths s at)
  where
    three : {a b c d e f : _} → a ≡ b → c ≡ d → e ≡ f
        → or_else (breaks_pardo s) s.line 1 (or_else (breaks_shared_write s) s.line 2 (or_else (breaks_sync s) s.line 3 (or_else (breaks_print s) s.line 4 (or_else (breaks_static p s) s.line 5 (or_else a s.line 7 (or_else c s.line 8 (or_else e s.line 10 None)))))))
        ≡ or_else (breaks_pardo s) s.line 1 (or_else (breaks_shared_write s) s.line 2 (or_else (breaks_sync s) s.line 3 (or_else (breaks_print s) s.line 4 (or_else (breaks_static p s) s.line 5 (or_else b s.line 7 (or_else d s.line 8 (or_else f s.line 10 None)))))))
    three x y z = cc

-- the first fault of statements, one after another
abbrev by_statements : Tree → List ScalarClass → List Sided → Option Fault
by_statements p classes [] = None
by_statements p classes (s ∷ ss) = sooner (by_rule p classes s) (by_statements p classes ss)

-- eight that are the same one by one
eight-same : {a b c d e f g h i j k l m n o q : Option Fault} → a ≡ i → b ≡ j → c ≡ k → d ≡ l → e ≡ m → f ≡ n → g ≡ o → h ≡ q → of_eight a b c d e f g h ≡ of_eight i j k l m n o q
eight-same r s t u v w x y = cc

-- it is the same by rules
rules-statements : (p : Tree) (classes : List ScalarClass) (ss : List Sided) → by_rules p classes ss ≡ by_statements p classes ss
rules-statements p classes [] = refl
rules-statements p classes (s ∷ ss) =
    eight-same
    (first-filter (λ (t : Sided). t.line) 1 breaks_pardo s ss)
    (first-filter (λ (t : Sided). t.line) 2 breaks_shared_write s ss)
    (first-filter (λ (t : Sided). t.line) 3 breaks_sync s ss)
    (first-filter (λ (t : Sided). t.line) 4 breaks_print s ss)
    (first-filter (λ (t : Sided). t.line) 5 (breaks_static p) s ss)
    (first-filter (λ (t : Sided). t.line) 7 (breaks_scalar classes) s ss)
    (first-filter (λ (t : Sided). t.line) 8 (breaks_partial classes) s ss)
    (first-filter (λ (t : Sided). t.line) 10 (breaks_depth p) s ss)
    ∙ (eight-pairs
    (fault_if (breaks_pardo s) s.line 1)
    (fault_if (breaks_shared_write s) s.line 2)
    (fault_if (breaks_sync s) s.line 3)
    (fault_if (breaks_print s) s.line 4)
    (fault_if (breaks_static p s) s.line 5)
    (fault_if (breaks_scalar classes s) s.line 7)
    (fault_if (breaks_partial classes s) s.line 8)
    (fault_if (breaks_depth p s) s.line 10)
    (first_fault (side_broken 1 breaks_pardo ss))
    (first_fault (side_broken 2 breaks_shared_write ss))
    (first_fault (side_broken 3 breaks_sync ss))
    (first_fault (side_broken 4 breaks_print ss))
    (first_fault (side_broken 5 (breaks_static p) ss))
    (first_fault (side_broken 7 (breaks_scalar classes) ss))
    (first_fault (side_broken 8 (breaks_partial classes) ss))
    (first_fault (side_broken 10 (breaks_depth p) ss))
    ∙ (ap (λ x. sooner x (by_rules p classes ss)) (told-first s.line (breaks_pardo s) (breaks_shared_write s) (breaks_sync s) (breaks_print s) (breaks_static p s) (breaks_scalar classes s) (breaks_partial classes s) (breaks_depth p s))
    ∙ ap (sooner (by_rule p classes s)) (rules-statements p classes ss)))

-- the code's walk finds the first of them
walk-is : (p : Tree) (classes : List ScalarClass) (depths : List ℕ) (ss : List Sided) (first : Option Fault) → ((q : ℕ) → slice_index_or depths q 1 ≡ procedure_depth p q) → first_told p classes depths ss first ≡ sooner first (by_statements p classes ss)
walk-is p classes depths [] first at = sym (sooner-none first)
walk-is p classes depths (s ∷ ss) first at =
    walk-is p classes depths ss (sooner first (told p classes depths s)) at
    ∙ (ap (λ x. sooner (sooner first x) (by_statements p classes ss)) (told-is p classes depths s at) ∙ sooner-three first (by_rule p classes s) (by_statements p classes ss))

-- so the first of all faults of sides but recursion is that of the walk, or of a mixed local array
pub first-is : (p : Tree) (depths : List ℕ) → ((q : ℕ) → slice_index_or depths q 1 ≡ procedure_depth p q)
    → sooner (first_told p (scalar_classes p) depths (all_sided p) None) (first_fault (locals_mixed p)) ≡ first_fault (side_faults p)
first-is p depths at =
    let classes = scalar_classes p in
    let all = all_sided p in
    ap (λ x. sooner x (first_fault (locals_mixed p))) (walk-is p classes depths all None at ∙ sym (rules-statements p classes all))
    ∙ (sym (sixth-last
    (first_fault (side_broken 1 breaks_pardo all))
    (first_fault (side_broken 2 breaks_shared_write all))
    (first_fault (side_broken 3 breaks_sync all))
    (first_fault (side_broken 4 breaks_print all))
    (first_fault (side_broken 5 (breaks_static p) all))
    (first_fault (locals_mixed p))
    (first_fault (side_broken 7 (breaks_scalar classes) all))
    (first_fault (side_broken 8 (breaks_partial classes) all))
    (first_fault (side_broken 10 (breaks_depth p) all)))
    ∙ sym (apart (side_broken 1 breaks_pardo all) (side_broken 2 breaks_shared_write all) (side_broken 3 breaks_sync all) (side_broken 4 breaks_print all) (side_broken 5 (breaks_static p) all) (locals_mixed p) (side_broken 7 (breaks_scalar classes) all) (side_broken 8 (breaks_partial classes) all) (side_broken 10 (breaks_depth p) all)))
  where
    apart : (a b c d e f g h i : List Fault)
        → first_fault ((((((((a ++ b) ++ c) ++ d) ++ e) ++ f) ++ g) ++ h) ++ i)
        ≡ sooner (sooner (sooner (sooner (sooner (sooner (sooner (sooner (first_fault a) (first_fault b)) (first_fault c)) (first_fault d)) (first_fault e)) (first_fault f)) (first_fault g)) (first_fault h)) (first_fault i)
    apart a b c d e f g h i =
        let ab = first-append a b in
        let abc = first-append (a ++ b) c ∙ ap (λ x. sooner x (first_fault c)) ab in
        let abcd = first-append ((a ++ b) ++ c) d ∙ ap (λ x. sooner x (first_fault d)) abc in
        let abcde = first-append (((a ++ b) ++ c) ++ d) e ∙ ap (λ x. sooner x (first_fault e)) abcd in
        let abcdef = first-append ((((a ++ b) ++ c) ++ d) ++ e) f ∙ ap (λ x. sooner x (first_fault f)) abcde in
        let abcdefg = first-append (((((a ++ b) ++ c) ++ d) ++ e) ++ f) g ∙ ap (λ x. sooner x (first_fault g)) abcdef in
        let abcdefgh = first-append ((((((a ++ b) ++ c) ++ d) ++ e) ++ f) ++ g) h ∙ ap (λ x. sooner x (first_fault h)) abcdefg in
        first-append (((((((a ++ b) ++ c) ++ d) ++ e) ++ f) ++ g) ++ h) i ∙ ap (λ x. sooner x (first_fault i)) abcdefgh
