-- The least lines of arrays on each side are those of the statements that name them.
use Rattle.std.proofs.Common.{◌≡◌, ℕ, zero, suc, ◌+◌, ◌<◌, min, List, [], ◌∷◌, map, filter, flat_map, length, replicate, slice_index_or, set, Bool, true, false, cond, ◌==◌, ◌&&◌, ◌||◌, if◌then◌else◌, Option, Some, None, refl, sym, ap, ◌∙◌, subst, arith}
use Rattle.std.specs.List.{enumerate_from}
use Rattle.std.proofs.lemmas.Bool.{eqb-true, eq-eqb}
use Rattle.std.proofs.lemmas.List.{map-append}
use Rattle.sial_syntax.specs.declared.array.ArrayDecl.{ArrayDecl}
use Rattle.sial_syntax.specs.declared.array.ArrayKind.TheVariants.{Local, Temp}
use Rattle.sial_syntax.specs.Agreeing.{contains, has_kind}
use Rattle.sial_syntax.specs.Boxes.{numbers_from}
use Rattle.sial_syntax.specs.Parts.{arrays_named}
use Rattle.sial_syntax.specs.Shapes.{Fault, first_fault}
use Rattle.sial_syntax.specs.SideRules.{least, local_mixed, locals_mixed, mixed_at, naming_lines}
use Rattle.sial_syntax.specs.Sides.{Sided, all_sided, is_inner, is_outer}
use Rattle.sial_syntax.specs.Tree.{Tree}
use Rattle.scalar_discipline.specs.Deeds.{named_outside, named_within}
use Rattle.scalar_discipline.specs.Judging.{sooner}
use Rattle.scalar_discipline.specs.Mixing.{noted, lines_of, mixed_told, array_mixed, first_mixed}
use Rattle.scalar_discipline.specs.Rounds.{lesser}
use Rattle.scalar_discipline.proofs.DeedLemmas.{only-contains}
use Rattle.scalar_discipline.proofs.FirstLemmas.{sooner-none, sooner-three, first-append}
use Rattle.scalar_discipline.proofs.LineLemmas.{lesser_none, lesser_three}
use Rattle.scalar_discipline.proofs.ListLemmas.{same_map, same_filter, number_at}
use Rattle.scalar_discipline.proofs.SideRoundLemmas.{set-numbers}

-- a line noted twice
twice : (a : Option ℕ) (line : ℕ) → lesser (lesser a (Some line)) (Some line) ≡ lesser a (Some line)
twice a line = lesser_three a (Some line) (Some line) ∙ ap (lesser a) (same line)
  where
    same : (n : ℕ) → lesser (Some n) (Some n) ≡ Some n
    same n = let e : min n n ≡ n = omega arith in ap Some e

-- one array noted
noted-one : (f : ℕ → Option ℕ) (n a line : ℕ)
    → set (map f (numbers_from 0 n)) a (lesser (slice_index_or (map f (numbers_from 0 n)) a None) (Some line)) ≡ map (λ q. cond (a == q) (lesser (f q) (Some line)) (f q)) (numbers_from 0 n)
noted-one f n a line =
    set-numbers f (λ q. cond (a == q) (lesser (f q) (Some line)) (f q)) 0 n a (lesser (slice_index_or (map f (numbers_from 0 n)) a None) (Some line))
    (λ j within other. same j other (a == (0 + j)) refl)
    (λ within.
    let here : a ≡ 0 + a = omega arith in
    ap (λ l. lesser l (Some line)) (number_at f 0 n a None within)
    ∙ sym (ap (λ b. cond b (lesser (f (0 + a)) (Some line)) (f (0 + a))) (eq-eqb a (0 + a) here)))
  where
    same : (j : ℕ) → (j ≡ a → ⊥) → (b : Bool) → (a == (0 + j)) ≡ b → f (0 + j) ≡ cond (a == (0 + j)) (lesser (f (0 + j)) (Some line)) (f (0 + j))
    same j other true e = let is : a ≡ 0 + j = eqb-true a (0 + j) e in absurd (other (omega (arith, is)))
    same j other false e = sym (ap (λ b. cond b (lesser (f (0 + j)) (Some line)) (f (0 + j))) e)

-- some arrays noted
noted-are : (named : List ℕ) (line : ℕ) (f : ℕ → Option ℕ) (n : ℕ) → noted named line (map f (numbers_from 0 n)) ≡ map (λ q. cond (contains named q) (lesser (f q) (Some line)) (f q)) (numbers_from 0 n)
noted-are [] line f n = refl
noted-are (a ∷ others) line f n =
    ap (noted others line) (noted-one f n a line)
    ∙ (noted-are others line (λ q. cond (a == q) (lesser (f q) (Some line)) (f q)) n
    ∙ same_map
    (λ q. cond (contains others q) (lesser (cond (a == q) (lesser (f q) (Some line)) (f q)) (Some line)) (cond (a == q) (lesser (f q) (Some line)) (f q)))
    (λ q. cond (contains (a ∷ others) q) (lesser (f q) (Some line)) (f q))
    (numbers_from 0 n) (λ q among. step (a == q) (contains others q) (f q)))
  where
    step : (b c : Bool) (l : Option ℕ) → cond c (lesser (cond b (lesser l (Some line)) l) (Some line)) (cond b (lesser l (Some line)) l) ≡ cond (b || c) (lesser l (Some line)) l
    step true true l = twice l line
    step true false l = refl
    step false true l = refl
    step false false l = refl

-- the least lines of arrays
lines-are : (told : Sided → List ℕ) (ss : List Sided) (f : ℕ → Option ℕ) (n : ℕ)
    → lines_of told ss (map f (numbers_from 0 n)) ≡ map (λ q. lesser (f q) (least (map (λ (s : Sided). s.line) (filter (λ (s : Sided). contains (told s) q) ss)))) (numbers_from 0 n)
lines-are told [] f n = same_map f (λ q. lesser (f q) None) (numbers_from 0 n) (λ q among. sym (lesser_none (f q)))
lines-are told (s ∷ ss) f n =
    ap (lines_of told ss) (noted-are (told s) s.line f n)
    ∙ (lines-are told ss (λ q. cond (contains (told s) q) (lesser (f q) (Some s.line)) (f q)) n
    ∙ same_map
    (λ q. lesser (cond (contains (told s) q) (lesser (f q) (Some s.line)) (f q)) (least (map (λ (t : Sided). t.line) (filter (λ (t : Sided). contains (told t) q) ss))))
    (λ q. lesser (f q) (least (map (λ (t : Sided). t.line) (filter (λ (t : Sided). contains (told t) q) (s ∷ ss)))))
    (numbers_from 0 n) (λ q among. step (contains (told s) q) (f q) (filter (λ (t : Sided). contains (told t) q) ss)))
  where
    step : (b : Bool) (l : Option ℕ) (ts : List Sided)
        → lesser (cond b (lesser l (Some s.line)) l) (least (map (λ (t : Sided). t.line) ts)) ≡ lesser l (least (map (λ (t : Sided). t.line) (cond b (s ∷ ts) ts)))
    step true l ts = lesser_three l (Some s.line) (least (map (λ (t : Sided). t.line) ts))
    step false l ts = refl

-- the least line of one array
line-at : (told : Sided → List ℕ) (side : Sided → Bool) (n q : ℕ) (all : List Sided) → ((s : Sided) → contains (told s) q ≡ (side s && contains (arrays_named s.form) q)) → q < n
    → slice_index_or (lines_of told all (replicate n None)) q None ≡ least (naming_lines side q all)
line-at told side n q all each within =
    let same : 0 + q ≡ q = omega arith in
    ap (λ ls. slice_index_or (lines_of told all ls) q None) (none n 0)
    ∙ (ap (λ ls. slice_index_or ls q None) (lines-are told all (λ r. None) n)
    ∙ (number_at (λ r. least (map (λ (s : Sided). s.line) (filter (λ (s : Sided). contains (told s) r) all))) 0 n q None within
    ∙ (ap (λ r. least (map (λ (s : Sided). s.line) (filter (λ (s : Sided). contains (told s) r) all))) same
    ∙ ap (λ ss. least (map (λ (s : Sided). s.line) ss)) (same_filter (λ (s : Sided). contains (told s) q) (λ (s : Sided). side s && contains (arrays_named s.form) q) all (λ s among. each s)))))
  where
    none : (n first : ℕ) → ◌≡◌ {A = List (Option ℕ)} (replicate n None) (map (λ r. None) (numbers_from first n))
    none zero first = refl
    none (suc n) first = ap (λ ls. None ∷ ls) (none n (first + 1))

-- the fault of one array
fault-of : (outer inner : Option ℕ) → first_fault (map (λ line. record { line = line; rule = 6 }) (mixed_at outer inner)) ≡ mixed_told outer inner
fault-of None inner = refl
fault-of (Some outer) None = refl
fault-of (Some outer) (Some inner) = refl

-- the first fault of arrays from one of a number on
mixed-from : (p : Tree) (outer inner : List (Option ℕ)) (place : ℕ) (arrays : List ArrayDecl) (first : Option Fault)
    → ((i : ℕ) → i < length arrays → first_fault (map (λ line. record { line = line; rule = 6 }) (local_mixed p (place + i))) ≡ array_mixed (slice_index_or arrays i (record { name = []; line = 0; kind = Temp; dims = [] })).kind (slice_index_or outer (place + i) None) (slice_index_or inner (place + i) None))
    → first_mixed outer inner place arrays first ≡ sooner first (first_fault (map (λ line. record { line = line; rule = 6 }) (flat_map (λ (x : ℕ × ArrayDecl). local_mixed p x.0) (enumerate_from place arrays))))
mixed-from p outer inner place [] first at = sym (sooner-none first)
mixed-from p outer inner place (a ∷ others) first at =
    let start : place + 0 ≡ place = omega arith in
    let here = subst (λ (n : ℕ). first_fault (map (λ line. record { line = line; rule = 6 }) (local_mixed p n)) ≡ array_mixed a.kind (slice_index_or outer n None) (slice_index_or inner n None)) start (at 0 (omega arith)) in
    let rest = flat_map (λ (x : ℕ × ArrayDecl). local_mixed p x.0) (enumerate_from (place + 1) others) in
    mixed-from p outer inner (place + 1) others (sooner first (array_mixed a.kind (slice_index_or outer place None) (slice_index_or inner place None))) (λ i within.
    let next : place + suc i ≡ (place + 1) + i = omega arith in
    subst (λ (n : ℕ). first_fault (map (λ line. record { line = line; rule = 6 }) (local_mixed p n)) ≡ array_mixed (slice_index_or others i (record { name = []; line = 0; kind = Temp; dims = [] })).kind (slice_index_or outer n None) (slice_index_or inner n None)) next (at (suc i) (omega (arith, within))))
    ∙ (sooner-three first (array_mixed a.kind (slice_index_or outer place None) (slice_index_or inner place None)) (first_fault (map (λ line. record { line = line; rule = 6 }) rest))
    ∙ ap (sooner first)
    (ap (λ x. sooner x (first_fault (map (λ line. record { line = line; rule = 6 }) rest))) (sym here)
    ∙ (sym (first-append (map (λ line. record { line = line; rule = 6 }) (local_mixed p place)) (map (λ line. record { line = line; rule = 6 }) rest))
    ∙ ap first_fault (sym (map-append (λ line. record { line = line; rule = 6 }) (local_mixed p place) rest)))))

-- so the walk over arrays finds the first mixed one
pub mixed-are : (p : Tree) (first : Option Fault) → first_mixed (lines_of named_outside (all_sided p) (replicate (length p.arrays) None)) (lines_of named_within (all_sided p) (replicate (length p.arrays) None)) 0 p.arrays first ≡ sooner first (first_fault (locals_mixed p))
mixed-are p first =
    let n = length p.arrays in
    let all = all_sided p in
    mixed-from p (lines_of named_outside all (replicate n None)) (lines_of named_within all (replicate n None)) 0 p.arrays first (λ q within.
    let same : 0 + q ≡ q = omega arith in
    let outer = line-at named_outside is_outer n q all (λ s. only-contains (is_outer s) (arrays_named s.form) q) within in
    let inner = line-at named_within is_inner n q all (λ s. only-contains (is_inner s) (arrays_named s.form) q) within in
    subst (λ (m : ℕ). first_fault (map (λ line. record { line = line; rule = 6 }) (local_mixed p m)) ≡ array_mixed (slice_index_or p.arrays q (record { name = []; line = 0; kind = Temp; dims = [] })).kind (slice_index_or (lines_of named_outside all (replicate n None)) m None) (slice_index_or (lines_of named_within all (replicate n None)) m None)) (sym same)
    (by q (has_kind p Local q) (least (naming_lines is_outer q all)) (least (naming_lines is_inner q all))
    ∙ (ap (λ l. if has_kind p Local q then mixed_told l (least (naming_lines is_inner q all)) else None) (sym outer)
    ∙ ap (λ l. if has_kind p Local q then mixed_told (slice_index_or (lines_of named_outside all (replicate n None)) q None) l else None) (sym inner))))
  where
    by : (q : ℕ) (b : Bool) (outer inner : Option ℕ) → first_fault (map (λ line. record { line = line; rule = 6 }) (if b then mixed_at outer inner else [])) ≡ (if b then mixed_told outer inner else None)
    by q true outer inner = fault-of outer inner
    by q false outer inner = refl
