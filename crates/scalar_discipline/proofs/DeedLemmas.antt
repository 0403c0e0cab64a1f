-- Marks say which numbers statements tell, and so the classes.
use Rattle.std.proofs.Common.{◌≡◌, ℕ, zero, suc, ◌+◌, ◌-◌, ◌<◌, List, [], ◌∷◌, map, flat_map, length, replicate, slice_index_or, set, Bool, true, false, ◌==◌, ◌&&◌, ◌||◌, not, if◌then◌else◌, refl, sym, ap, ◌∙◌, arith}
use Rattle.std.specs.List.{list_any}
use Rattle.std.proofs.lemmas.Bool.{eqb-true, eq-eqb}
use Rattle.std.proofs.lemmas.List.Folds.{list_any-append}
use Rattle.sial_syntax.specs.declared.array.ArrayDecl.{ArrayDecl}
use Rattle.sial_syntax.specs.declared.array.ArrayKind.TheVariants.{Local, Temp}
use Rattle.sial_syntax.specs.declared.classes.Side.TheVariants.{Unused}
use Rattle.sial_syntax.specs.Agreeing.{contains, has_kind}
use Rattle.sial_syntax.specs.Boxes.{numbers_from}
use Rattle.sial_syntax.specs.Parts.{scalars_written, arrays_named}
use Rattle.sial_syntax.specs.Sides.{Sided, is_inner, is_outer, writes, is_accumulation, class_by, class_of_scalar, scalar_classes, side_by, side_of_array, array_sides, all_sided}
use Rattle.sial_syntax.specs.Tree.{Tree}
use Rattle.scalar_discipline.specs.Deeds.{only_if, written_within, mixed_within, named_within, named_outside, marked, marks_of, class_marked, classes_of, side_marked, array_marked, sides_by}
use Rattle.scalar_discipline.proofs.ListLemmas.{map_enumerated, number_at}
use Rattle.scalar_discipline.proofs.SideRoundLemmas.{set-numbers}

-- the numbers of a row, one after another
pub one_turn : (k n : ℕ) → k < n → numbers_from k (n - k) ≡ k ∷ numbers_from (k + 1) (n - (k + 1))
one_turn k n within = let more : n - k ≡ suc (n - (k + 1)) = omega arith in ap (numbers_from k) more

-- one place more is marked
mark-one : (f : ℕ → Bool) (n x : ℕ) → set (map f (numbers_from 0 n)) x true ≡ map (λ q. f q || (x == q)) (numbers_from 0 n)
mark-one f n x = set-numbers f (λ q. f q || (x == q)) 0 n x true (λ j within other. same j other (x == (0 + j)) refl) (λ within. sym (here (f (0 + x))))
  where
    plain : (b : Bool) → (b || false) ≡ b
    plain true = refl
    plain false = refl

    all : (b : Bool) → (b || true) ≡ true
    all true = refl
    all false = refl

    same : (j : ℕ) → (j ≡ x → ⊥) → (b : Bool) → (x == (0 + j)) ≡ b → f (0 + j) ≡ (f (0 + j) || (x == (0 + j)))
    same j other true e = let is : x ≡ 0 + j = eqb-true x (0 + j) e in absurd (other (omega (arith, is)))
    same j other false e = sym (ap (λ b. f (0 + j) || b) e ∙ plain (f (0 + j)))

    here : (b : Bool) → (b || (x == (0 + x))) ≡ true
    here b = let is : x ≡ 0 + x = omega arith in ap (λ c. b || c) (eq-eqb x (0 + x) is) ∙ all b

-- the places that are marked in the end
marked-are : (xs : List ℕ) (f : ℕ → Bool) (n : ℕ) → marked xs (map f (numbers_from 0 n)) ≡ map (λ q. f q || contains xs q) (numbers_from 0 n)
marked-are [] f n = same f (numbers_from 0 n)
  where
    plain : (b : Bool) → b ≡ (b || false)
    plain true = refl
    plain false = refl

    same : (f : ℕ → Bool) (qs : List ℕ) → map f qs ≡ map (λ q. f q || false) qs
    same f [] = refl
    same f (q ∷ qs) = ap (λ b. b ∷ map f qs) (plain (f q)) ∙ ap (λ bs. (f q || false) ∷ bs) (same f qs)
marked-are (x ∷ xs) f n = ap (marked xs) (mark-one f n x) ∙ (marked-are xs (λ q. f q || (x == q)) n ∙ same (numbers_from 0 n))
  where
    three : (a b c : Bool) → ((a || b) || c) ≡ (a || (b || c))
    three true b c = refl
    three false b c = refl

    same : (qs : List ℕ) → map (λ q. (f q || (x == q)) || contains xs q) qs ≡ map (λ q. f q || ((x == q) || contains xs q)) qs
    same [] = refl
    same (q ∷ qs) = ap (λ b. b ∷ map (λ q. (f q || (x == q)) || contains xs q) qs) (three (f q) (x == q) (contains xs q)) ∙ ap (λ bs. (f q || ((x == q) || contains xs q)) ∷ bs) (same qs)

-- a place is marked where a statement tells its number
mark-at : (told : Sided → List ℕ) (n q : ℕ) (all : List Sided) → q < n → slice_index_or (marks_of told n all) q false ≡ contains (flat_map told all) q
mark-at told n q all within =
    let same : 0 + q ≡ q = omega arith in
    ap (λ bs. slice_index_or (marked (flat_map told all) bs) q false) (none n 0)
    ∙ (ap (λ bs. slice_index_or bs q false) (marked-are (flat_map told all) (λ r. false) n)
    ∙ (number_at (λ r. false || contains (flat_map told all) r) 0 n q false within ∙ ap (contains (flat_map told all)) same))
  where
    none : (n first : ℕ) → replicate n false ≡ map (λ r. false) (numbers_from first n)
    none zero first = refl
    none (suc n) first = ap (λ bs. false ∷ bs) (none n (first + 1))

-- a number that is told by some statement
told-any : (told : Sided → List ℕ) (test : Sided → Bool) (q : ℕ) (all : List Sided) → ((s : Sided) → contains (told s) q ≡ test s) → contains (flat_map told all) q ≡ list_any test all
told-any told test q [] each = refl
told-any told test q (s ∷ ss) each =
    list_any-append (λ i. i == q) (told s) (flat_map told ss)
    ∙ (ap (λ b. b || contains (flat_map told ss) q) (each s) ∙ ap (λ b. test s || b) (told-any told test q ss each))

-- numbers that are there only where a test says so
pub only-contains : (b : Bool) (xs : List ℕ) (q : ℕ) → contains (only_if b xs) q ≡ (b && contains xs q)
only-contains true xs q = refl
only-contains false xs q = refl

-- the same, of two tests
only-both : (a b : Bool) (xs : List ℕ) (q : ℕ) → contains (only_if (a && not b) xs) q ≡ (a && (contains xs q && not b))
only-both true true xs q = sym (no (contains xs q))
  where
    no : (c : Bool) → (c && false) ≡ false
    no true = refl
    no false = refl
only-both true false xs q = yes (contains xs q)
  where
    yes : (c : Bool) → c ≡ (c && true)
    yes true = refl
    yes false = refl
only-both false b xs q = refl

-- the classes by marks are those of the rules
pub classes_are : (p : Tree) → classes_of (length p.scalars) (all_sided p) ≡ scalar_classes p
classes_are p =
    let all = all_sided p in
    let n = length p.scalars in
    sym (map_enumerated (λ (x : ℕ × List ℕ). class_of_scalar all x.0) (class_marked (marks_of written_within n all) (marks_of mixed_within n all)) p.scalars [] 0 (λ q within.
    let same : 0 + q ≡ q = omega arith in
    let there : 0 + q < n = omega (arith, within) in
    sym (ap (λ b. class_by b (not (slice_index_or (marks_of mixed_within n all) (0 + q) false))) (mark-at written_within n (0 + q) all there ∙ told-any written_within (λ s. is_inner s && writes (0 + q) s) (0 + q) all (λ s. only-contains (is_inner s) (scalars_written s.form) (0 + q)))
    ∙ ap (λ b. class_by (list_any (λ s. is_inner s && writes (0 + q) s) all) (not b)) (mark-at mixed_within n (0 + q) all there ∙ told-any mixed_within (λ s. is_inner s && (writes (0 + q) s && not (is_accumulation s.form))) (0 + q) all (λ s. only-both (is_inner s) (is_accumulation s.form) (scalars_written s.form) (0 + q))))))

-- the sides by marks are those of the rules
pub array_sides_are : (p : Tree) → sides_by p.arrays (all_sided p) ≡ array_sides p
array_sides_are p =
    let all = all_sided p in
    let n = length p.arrays in
    let none : ArrayDecl = record { name = []; line = 0; kind = Temp; dims = [] } in
    map_enumerated (array_marked (marks_of named_within n all) (marks_of named_outside n all)) (λ q. side_of_array p all q) p.arrays none 0 (λ q within. one q within)
    ∙ sym (map_enumerated (λ (x : ℕ × ArrayDecl). side_of_array p all x.0) (λ q. side_of_array p all q) p.arrays none 0 (λ q within. refl))
  where
    one : (q : ℕ) → q < length p.arrays
        → side_marked (slice_index_or p.arrays q (record { name = []; line = 0; kind = Temp; dims = [] })).kind (slice_index_or (marks_of named_within (length p.arrays) (all_sided p)) (0 + q) false) (slice_index_or (marks_of named_outside (length p.arrays) (all_sided p)) (0 + q) false)
        ≡ side_of_array p (all_sided p) (0 + q)
    one q within =
        let all = all_sided p in
        let n = length p.arrays in
        let same : q ≡ 0 + q = omega arith in
        let there : 0 + q < n = omega (arith, within) in
        let inner : slice_index_or (marks_of named_within n all) (0 + q) false ≡ list_any (λ s. is_inner s && contains (arrays_named s.form) (0 + q)) all =
        mark-at named_within n (0 + q) all there ∙ told-any named_within (λ s. is_inner s && contains (arrays_named s.form) (0 + q)) (0 + q) all (λ s. only-contains (is_inner s) (arrays_named s.form) (0 + q)) in
        let outer : slice_index_or (marks_of named_outside n all) (0 + q) false ≡ list_any (λ s. is_outer s && contains (arrays_named s.form) (0 + q)) all =
        mark-at named_outside n (0 + q) all there ∙ told-any named_outside (λ s. is_outer s && contains (arrays_named s.form) (0 + q)) (0 + q) all (λ s. only-contains (is_outer s) (arrays_named s.form) (0 + q)) in
        ap (λ k. side_marked (slice_index_or p.arrays k (record { name = []; line = 0; kind = Temp; dims = [] })).kind (slice_index_or (marks_of named_within n all) (0 + q) false) (slice_index_or (marks_of named_outside n all) (0 + q) false)) same
        ∙ (ap (λ b. if has_kind p Local (0 + q) then side_by b (slice_index_or (marks_of named_outside n all) (0 + q) false) else Unused) inner
        ∙ ap (λ b. if has_kind p Local (0 + q) then side_by (list_any (λ s. is_inner s && contains (arrays_named s.form) (0 + q)) all) b else Unused) outer)
