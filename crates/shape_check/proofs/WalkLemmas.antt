-- The walk through a program finds the first of its faults.
use Rattle.std.proofs.Common.{◌≡◌, ℕ, List, [], ◌∷◌, ◌++◌, map, filter, flat_map, Bool, true, false, Option, Some, None, refl, sym, ap, ◌∙◌}
use Rattle.sial_syntax.specs.declared.array.ArrayDecl.{ArrayDecl}
use Rattle.sial_syntax.specs.declared.index.IndexDecl.{IndexDecl}
use Rattle.sial_syntax.specs.Shapes.{Fault, first_fault, broken_at, declarations_broken, shape_fault, breaks_unbound, breaks_rebound, breaks_repeated, breaks_kind, breaks_indices, breaks_writable, index_breaks_kind, array_breaks_kind}
use Rattle.sial_syntax.specs.Tree.{Tree, Procedure, Block, End, Then, Plain, Do, DoIn, Pardo, If, IfElse}
use Rattle.sial_syntax.specs.Visits.{Visit, visits, inner_visits, body_visits, all_visits}
use Rattle.shape_check.specs.declared.fault.ShapeFault.{ShapeFault}
use Rattle.shape_check.specs.declared.fault.ShapeFault.TheVariants.{Unbound, Rebound, Repeated, WrongKind, WrongIndices, NotWritable, OutOfMemory}
use Rattle.shape_check.specs.Breaks.{breaks, form_breaks}
use Rattle.shape_check.specs.Refused.{fault_of, IsCause}
use Rattle.shape_check.specs.Walk.{sooner, fault_if, told, first_in, first_inside, first_of_procedures, first_of_indices, first_of_arrays, first_of}
use Rattle.shape_check.proofs.BreaksLemmas.{breaks-form}
use Rattle.shape_check.proofs.FirstLemmas.{sooner-none, sooner-three, first-append, first-filter, of_six, told-first, six-pairs, fourth-first}

-- the first fault of statements where they stand
abbrev first_of_visits : Tree → List Visit → Option Fault
first_of_visits p [] = None
first_of_visits p (v ∷ vs) = sooner (told v.line (breaks p v)) (first_of_visits p vs)

-- the first fault of two lists of statements
visits-append : (p : Tree) (vs ws : List Visit) → first_of_visits p (vs ++ ws) ≡ sooner (first_of_visits p vs) (first_of_visits p ws)
visits-append p [] ws = refl
visits-append p (v ∷ vs) ws =
    ap (sooner (told v.line (breaks p v))) (visits-append p vs ws) ∙ sym (sooner-three (told v.line (breaks p v)) (first_of_visits p vs) (first_of_visits p ws))

-- the first fault of statements by rules, one rule after another
abbrev by_rules : Tree → List Visit → Option Fault
by_rules p vs =
    of_six
    (first_fault (broken_at 1 (breaks_unbound p) vs))
    (first_fault (broken_at 2 (breaks_rebound p) vs))
    (first_fault (broken_at 3 (breaks_repeated p) vs))
    (first_fault (broken_at 4 (breaks_kind p) vs))
    (first_fault (broken_at 5 (breaks_indices p) vs))
    (first_fault (broken_at 6 (breaks_writable p) vs))

-- six that are the same one by one
six-same : {a b c d e f g h i j k l : Option Fault} → a ≡ g → b ≡ h → c ≡ i → d ≡ j → e ≡ k → f ≡ l → of_six a b c d e f ≡ of_six g h i j k l
six-same p q r s t u = cc

-- it is the same by statements, one statement after another
rules-visits : (p : Tree) (vs : List Visit) → by_rules p vs ≡ first_of_visits p vs
rules-visits p [] = refl
rules-visits p (v ∷ vs) =
    six-same
    (first-filter (λ (w : Visit). w.line) 1 (breaks_unbound p) v vs)
    (first-filter (λ (w : Visit). w.line) 2 (breaks_rebound p) v vs)
    (first-filter (λ (w : Visit). w.line) 3 (breaks_repeated p) v vs)
    (first-filter (λ (w : Visit). w.line) 4 (breaks_kind p) v vs)
    (first-filter (λ (w : Visit). w.line) 5 (breaks_indices p) v vs)
    (first-filter (λ (w : Visit). w.line) 6 (breaks_writable p) v vs)
    ∙ (six-pairs
    (fault_if (breaks_unbound p v) v.line 1)
    (fault_if (breaks_rebound p v) v.line 2)
    (fault_if (breaks_repeated p v) v.line 3)
    (fault_if (breaks_kind p v) v.line 4)
    (fault_if (breaks_indices p v) v.line 5)
    (fault_if (breaks_writable p v) v.line 6)
    (first_fault (broken_at 1 (breaks_unbound p) vs))
    (first_fault (broken_at 2 (breaks_rebound p) vs))
    (first_fault (broken_at 3 (breaks_repeated p) vs))
    (first_fault (broken_at 4 (breaks_kind p) vs))
    (first_fault (broken_at 5 (breaks_indices p) vs))
    (first_fault (broken_at 6 (breaks_writable p) vs))
    ∙ (ap (λ x. sooner x (by_rules p vs)) (told-first v.line (breaks p v)) ∙ ap (sooner (told v.line (breaks p v))) (rules-visits p vs)))

mutual
  -- the walk through a body
  in-body : (p : Tree) (bound : List ℕ) (within : Bool) (body : Block) (first : Option Fault) → first_in p bound body first ≡ sooner first (first_of_visits p (visits bound within body))
  in-body p bound within End first = sym (sooner-none first)
  in-body p bound within (Then line form rest) first =
      in-body p bound within rest (first_inside p bound form (sooner first (told line (form_breaks p bound form))))
      ∙ (ap (λ x. sooner x (first_of_visits p (visits bound within rest))) (inside p bound within form (sooner first (told line (form_breaks p bound form))))
      ∙ (sooner-three (sooner first (told line (form_breaks p bound form))) (first_of_visits p (inner_visits bound within form)) (first_of_visits p (visits bound within rest))
      ∙ (sooner-three first (told line (form_breaks p bound form)) (sooner (first_of_visits p (inner_visits bound within form)) (first_of_visits p (visits bound within rest)))
      ∙ (ap (λ x. sooner first (sooner x (sooner (first_of_visits p (inner_visits bound within form)) (first_of_visits p (visits bound within rest))))) (ap (told line) (sym (breaks-form p line bound within form)))
      ∙ ap (λ x. sooner first (sooner (told line (breaks p (record { line = line; form = form; bound = bound; within = within }))) x)) (sym (visits-append p (inner_visits bound within form) (visits bound within rest)))))))

  -- the walk through the statements inside a statement
  inside : (p : Tree) (bound : List ℕ) (within : Bool) (form : Plain) (first : Option Fault) → first_inside p bound form first ≡ sooner first (first_of_visits p (inner_visits bound within form))
  inside p bound within (Do index body) first = in-body p (index ∷ bound) within body first
  inside p bound within (DoIn sub index body) first = in-body p (sub ∷ bound) within body first
  inside p bound within (Pardo indices wheres body) first = in-body p (indices ++ bound) true body first
  inside p bound within (If cond body) first = in-body p bound within body first
  inside p bound within (IfElse cond body other) first =
      in-body p bound within other (first_in p bound body first)
      ∙ (ap (λ x. sooner x (first_of_visits p (visits bound within other))) (in-body p bound within body first)
      ∙ (sooner-three first (first_of_visits p (visits bound within body)) (first_of_visits p (visits bound within other))
      ∙ ap (sooner first) (sym (visits-append p (visits bound within body) (visits bound within other)))))
  inside p bound within _ first = sym (sooner-none first)

-- the walk through procedures
in-procedures : (p : Tree) (qs : List Procedure) (first : Option Fault) → first_of_procedures p qs first ≡ sooner first (first_of_visits p (flat_map (λ (q : Procedure). body_visits q.body) qs))
in-procedures p [] first = sym (sooner-none first)
in-procedures p (q ∷ qs) first =
    in-procedures p qs (first_in p [] q.body first)
    ∙ (ap (λ x. sooner x (first_of_visits p (flat_map (λ (q : Procedure). body_visits q.body) qs))) (in-body p [] false q.body first)
    ∙ (sooner-three first (first_of_visits p (body_visits q.body)) (first_of_visits p (flat_map (λ (q : Procedure). body_visits q.body) qs))
    ∙ ap (sooner first) (sym (visits-append p (body_visits q.body) (flat_map (λ (q : Procedure). body_visits q.body) qs)))))

-- the walk through declarations of indices
in-indices : (p : Tree) (is : List IndexDecl) (first : Option Fault)
    → first_of_indices p is first ≡ sooner first (first_fault (map (λ (i : IndexDecl). record { line = i.line; rule = 4 }) (filter (index_breaks_kind p) is)))
in-indices p [] first = sym (sooner-none first)
in-indices p (i ∷ is) first =
    in-indices p is (sooner first (fault_if (index_breaks_kind p i) i.line 4))
    ∙ (sooner-three first (fault_if (index_breaks_kind p i) i.line 4) (first_fault (map (λ (i : IndexDecl). record { line = i.line; rule = 4 }) (filter (index_breaks_kind p) is)))
    ∙ ap (sooner first) (sym (first-filter (λ (j : IndexDecl). j.line) 4 (index_breaks_kind p) i is)))

-- the walk through declarations of arrays
in-arrays : (p : Tree) (arrays : List ArrayDecl) (first : Option Fault)
    → first_of_arrays p arrays first ≡ sooner first (first_fault (map (λ (a : ArrayDecl). record { line = a.line; rule = 4 }) (filter (array_breaks_kind p) arrays)))
in-arrays p [] first = sym (sooner-none first)
in-arrays p (a ∷ arrays) first =
    in-arrays p arrays (sooner first (fault_if (array_breaks_kind p a) a.line 4))
    ∙ (sooner-three first (fault_if (array_breaks_kind p a) a.line 4) (first_fault (map (λ (a : ArrayDecl). record { line = a.line; rule = 4 }) (filter (array_breaks_kind p) arrays)))
    ∙ ap (sooner first) (sym (first-filter (λ (b : ArrayDecl). b.line) 4 (array_breaks_kind p) a arrays)))

-- the first fault of the declarations
in-declarations : (p : Tree) → first_of_arrays p p.arrays (first_of_indices p p.indices None) ≡ first_fault (declarations_broken p)
in-declarations p =
    in-arrays p p.arrays (first_of_indices p p.indices None)
    ∙ (ap (λ x. sooner x (first_fault (map (λ (a : ArrayDecl). record { line = a.line; rule = 4 }) (filter (array_breaks_kind p) p.arrays)))) (in-indices p p.indices None)
    ∙ sym (first-append (map (λ (i : IndexDecl). record { line = i.line; rule = 4 }) (filter (index_breaks_kind p) p.indices)) (map (λ (a : ArrayDecl). record { line = a.line; rule = 4 }) (filter (array_breaks_kind p) p.arrays))))

-- the first of all faults, those of the declarations apart
by-parts : (p : Tree) → shape_fault p ≡ sooner (first_fault (declarations_broken p)) (by_rules p (all_visits p))
by-parts p =
    let one = broken_at 1 (breaks_unbound p) (all_visits p) in
    let two = broken_at 2 (breaks_rebound p) (all_visits p) in
    let three = broken_at 3 (breaks_repeated p) (all_visits p) in
    let declared = declarations_broken p in
    let four = broken_at 4 (breaks_kind p) (all_visits p) in
    let five = broken_at 5 (breaks_indices p) (all_visits p) in
    let six = broken_at 6 (breaks_writable p) (all_visits p) in
    apart one two three declared four five six
    ∙ fourth-first (first_fault one) (first_fault two) (first_fault three) (first_fault declared) (first_fault four) (first_fault five) (first_fault six)
  where
    apart : (a b c d e f g : List Fault)
        → first_fault ((((((a ++ b) ++ c) ++ d) ++ e) ++ f) ++ g)
        ≡ sooner (sooner (sooner (sooner (sooner (sooner (first_fault a) (first_fault b)) (first_fault c)) (first_fault d)) (first_fault e)) (first_fault f)) (first_fault g)
    apart a b c d e f g =
        let ab = first-append a b in
        let abc = first-append (a ++ b) c ∙ ap (λ x. sooner x (first_fault c)) ab in
        let abcd = first-append ((a ++ b) ++ c) d ∙ ap (λ x. sooner x (first_fault d)) abc in
        let abcde = first-append (((a ++ b) ++ c) ++ d) e ∙ ap (λ x. sooner x (first_fault e)) abcd in
        let abcdef = first-append ((((a ++ b) ++ c) ++ d) ++ e) f ∙ ap (λ x. sooner x (first_fault f)) abcde in
        first-append (((((a ++ b) ++ c) ++ d) ++ e) ++ f) g ∙ ap (λ x. sooner x (first_fault g)) abcdef

-- what the walk finds is the first of all faults
pub walk_first : (p : Tree) → first_of p ≡ shape_fault p
walk_first p =
    let declared = first_of_arrays p p.arrays (first_of_indices p p.indices None) in
    let others = flat_map (λ (q : Procedure). body_visits q.body) p.procedures in
    in-procedures p p.procedures (first_in p [] p.body declared)
    ∙ (ap (λ x. sooner x (first_of_visits p others)) (in-body p [] false p.body declared)
    ∙ (sooner-three declared (first_of_visits p (body_visits p.body)) (first_of_visits p others)
    ∙ (ap (sooner declared) (sym (visits-append p (body_visits p.body) others) ∙ sym (rules-visits p (all_visits p)))
    ∙ (ap (λ x. sooner x (by_rules p (all_visits p))) (in-declarations p)
    ∙ sym (by-parts p)))))

-- a fault that was found is what is answered
pub is_cause : (p : Tree) (f : ShapeFault) → Some (fault_of f) ≡ shape_fault p → IsCause p f
is_cause p (Unbound line) e = sym e
is_cause p (Rebound line) e = sym e
is_cause p (Repeated line) e = sym e
is_cause p (WrongKind line) e = sym e
is_cause p (WrongIndices line) e = sym e
is_cause p (NotWritable line) e = sym e
is_cause p OutOfMemory e = tt
