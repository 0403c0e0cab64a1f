-- The earlier of faults: it doesn't matter in which order they are found.
use Rattle.std.proofs.Common.{◌≡◌, ℕ, ◌<◌, List, [], ◌∷◌, ◌++◌, map, filter, Bool, true, false, cond, if◌then◌else◌, Option, Some, None, refl, sym, ap, ◌∙◌, lit<, arith}
use Rattle.std.proofs.lemmas.Bool.Decides.{nat_tests}
use Rattle.sial_syntax.specs.Shapes.{Fault, comes_before, earlier, first_fault}
use Rattle.scalar_discipline.specs.Judging.{sooner, fault_if, or_else}

-- of two only one comes before the other
one-way : (a b : Fault) → comes_before b a ≡ true → comes_before a b ≡ false
one-way a b e = grind (arith, nat_tests)

-- what comes before something that comes before a third comes before that
before-both : (a b c : Fault) → comes_before b a ≡ true → comes_before c b ≡ true → comes_before c a ≡ true
before-both a b c e f = grind (arith, nat_tests)

-- what doesn't come before something that doesn't come before a third doesn't come before that
not-before : (a b c : Fault) → comes_before b a ≡ false → comes_before c b ≡ false → comes_before c a ≡ false
not-before a b c e f = grind (arith, nat_tests)

-- of faults neither of which comes before the other, the lines are the same
same-line : (a b : Fault) → comes_before b a ≡ false → comes_before a b ≡ false → a.line ≡ b.line
same-line a b e f = grind (arith, nat_tests)

-- and so are the rules
same-rule : (a b : Fault) → comes_before b a ≡ false → comes_before a b ≡ false → a.rule ≡ b.rule
same-rule a b e f = grind (arith, nat_tests)

-- faults of one line and one rule are the same
same-fault : (a b : Fault) → a.line ≡ b.line → a.rule ≡ b.rule → a ≡ b
same-fault a b e f =
    let lines : ◌≡◌ {A = Fault} (record { line = a.line; rule = a.rule }) (record { line = b.line; rule = a.rule }) = ap (λ (x : ℕ). record { line = x; rule = a.rule }) e in
    let rules : ◌≡◌ {A = Fault} (record { line = b.line; rule = a.rule }) (record { line = b.line; rule = b.rule }) = ap (λ (x : ℕ). record { line = b.line; rule = x }) f in
    lines ∙ rules

-- of two faults it doesn't matter which is found first
earlier-other : (a b : Fault) → earlier a (Some b) ≡ earlier b (Some a)
earlier-other a b = by (comes_before b a) (comes_before a b) refl refl
  where
    by : (x y : Bool) → comes_before b a ≡ x → comes_before a b ≡ y → (if x then b else a) ≡ (if y then a else b)
    by true true e f = let g = one-way a b e in absurd cc
    by true false e f = refl
    by false true e f = refl
    by false false e f = same-fault a b (same-line a b e f) (same-rule a b e f)

-- of three faults it doesn't matter which two are compared first
earlier-three : (a b c : Fault) → earlier (earlier a (Some b)) (Some c) ≡ earlier a (Some (earlier b (Some c)))
earlier-three a b c = by (comes_before b a) (comes_before c b) refl refl
  where
    last : (z : Bool) → comes_before c a ≡ z → (e : comes_before b a ≡ true) → comes_before c b ≡ true → c ≡ (if z then c else a)
    last true g e f = refl
    last false g e f = let h = before-both a b c e f in absurd cc

    first : (z : Bool) → comes_before c a ≡ z → (e : comes_before b a ≡ false) → comes_before c b ≡ false → (if z then c else a) ≡ a
    first true g e f = let h = not-before a b c e f in absurd cc
    first false g e f = refl

    of-two : (y : Bool) → comes_before c b ≡ y → comes_before b a ≡ true → (if y then c else b) ≡ earlier a (Some (if y then c else b))
    of-two true f e = last (comes_before c a) refl e f
    of-two false f e = sym (ap (λ t. if t then b else a) e)

    of-one : (y : Bool) → comes_before c b ≡ y → comes_before b a ≡ false → earlier a (Some c) ≡ earlier a (Some (if y then c else b))
    of-one true f e = refl
    of-one false f e = first (comes_before c a) refl e f ∙ sym (ap (λ t. if t then b else a) e)

    by : (x y : Bool) → comes_before b a ≡ x → comes_before c b ≡ y → earlier (if x then b else a) (Some c) ≡ earlier a (Some (earlier b (Some c)))
    by true y e f = of-two (comes_before c b) refl e
    by false y e f = of-one (comes_before c b) refl e

-- a fault beside none
pub sooner-none : (a : Option Fault) → sooner a None ≡ a
sooner-none None = refl
sooner-none (Some a) = refl

-- it doesn't matter which of two is found first
pub sooner-other : (a b : Option Fault) → sooner a b ≡ sooner b a
sooner-other None b = sym (sooner-none b)
sooner-other (Some a) None = refl
sooner-other (Some a) (Some b) = ap Some (earlier-other a b)

-- nor which two of three are compared first
pub sooner-three : (a b c : Option Fault) → sooner (sooner a b) c ≡ sooner a (sooner b c)
sooner-three None b c = refl
sooner-three (Some a) None c = refl
sooner-three (Some a) (Some b) None = refl
sooner-three (Some a) (Some b) (Some c) = ap Some (earlier-three a b c)

-- one of the second pair is found before the other one
pub sooner-across : (a b c : Option Fault) → sooner a (sooner b c) ≡ sooner b (sooner a c)
sooner-across a b c = sym (sooner-three a b c) ∙ (ap (λ x. sooner x c) (sooner-other a b) ∙ sooner-three b a c)

-- two pairs, each taken apart
pub sooner-pairs : (a b c d : Option Fault) → sooner (sooner a b) (sooner c d) ≡ sooner (sooner a c) (sooner b d)
sooner-pairs a b c d = sooner-three a b (sooner c d) ∙ (ap (sooner a) (sooner-across b c d) ∙ sym (sooner-three a c (sooner b d)))

-- the first fault of two lists
pub first-append : (xs ys : List Fault) → first_fault (xs ++ ys) ≡ sooner (first_fault xs) (first_fault ys)
first-append [] ys = refl
first-append (x ∷ xs) ys = ap (sooner (Some x)) (first-append xs ys) ∙ sym (sooner-three (Some x) (first_fault xs) (first_fault ys))

-- the first of the faults of one rule: that of the first thing, or of the others
pub first-filter : {X : Type 0} (line : X → ℕ) (rule : ℕ) (test : X → Bool) (x : X) (xs : List X)
    → first_fault (map (λ (y : X). record { line = line y; rule = rule }) (filter test (x ∷ xs)))
    ≡ sooner (fault_if (test x) (line x) rule) (first_fault (map (λ (y : X). record { line = line y; rule = rule }) (filter test xs)))
first-filter {X = X} line rule test x xs = by (test x)
  where
    by : (b : Bool) → first_fault (map (λ (y : X). record { line = line y; rule = rule }) (cond b (x ∷ filter test xs) (filter test xs)))
        ≡ sooner (fault_if b (line x) rule) (first_fault (map (λ (y : X). record { line = line y; rule = rule }) (filter test xs)))
    by true = refl
    by false = refl

-- a fault of this line, of a rule behind this one, or none
abbrev IsBehind : (line rule : ℕ) → Option Fault → Type 0
IsBehind line rule None = Unit {0}
IsBehind line rule (Some f) = (f.line ≡ line) × (rule < f.rule)

-- such a fault doesn't come before this rule's
not-sooner : (line rule : ℕ) (f : Fault) → f.line ≡ line → rule < f.rule → comes_before f (record { line = line; rule = rule }) ≡ false
not-sooner line rule f e h = grind (arith, nat_tests)

-- so this rule's fault, where there is one, is told
rule-first : (b : Bool) (line rule : ℕ) (other : Option Fault) → IsBehind line rule other → sooner (fault_if b line rule) other ≡ or_else b line rule other
rule-first false line rule other behind = refl
rule-first true line rule None behind = refl
rule-first true line rule (Some f) behind =
    ap (λ t. Some (if t then f else record { line = line; rule = rule })) (not-sooner line rule f behind.0 behind.1)

-- and what is told stands behind the rules before
still-behind : (b : Bool) (line before rule : ℕ) (other : Option Fault) → before < rule → IsBehind line rule other → IsBehind line before (or_else b line rule other)
still-behind true line before rule other less behind = (refl, less)
still-behind false line before rule None less behind = tt
still-behind false line before rule (Some f) less behind = (behind.0, omega (arith, behind.1, less))

-- the first of eight, one for each rule
abbrev pub of_eight : (a b c d e f g h : Option Fault) → Option Fault
of_eight a b c d e f g h = sooner a (sooner b (sooner c (sooner d (sooner e (sooner f (sooner g h))))))

-- this rule's fault before what is told of the rules behind it
next-rule : (b : Bool) (line rule : ℕ) (other found : Option Fault) → other ≡ found → IsBehind line rule found → sooner (fault_if b line rule) other ≡ or_else b line rule found
next-rule b line rule other found e behind = ap (sooner (fault_if b line rule)) e ∙ rule-first b line rule found behind

-- of the rules that are broken on one line, the first is told
pub told-first : (line : ℕ) (a b c d e f g h : Bool)
    → of_eight (fault_if a line 1) (fault_if b line 2) (fault_if c line 3) (fault_if d line 4) (fault_if e line 5) (fault_if f line 7) (fault_if g line 8) (fault_if h line 10)
    ≡ or_else a line 1 (or_else b line 2 (or_else c line 3 (or_else d line 4 (or_else e line 5 (or_else f line 7 (or_else g line 8 (or_else h line 10 None)))))))
told-first line a b c d e f g h =
    let ten : fault_if h line 10 ≡ or_else h line 10 None = sym (sooner-none (fault_if h line 10)) ∙ rule-first h line 10 None tt in
    let ten-behind : IsBehind line 8 (or_else h line 10 None) = still-behind h line 8 10 None (lit< tt) tt in
    let eight = next-rule g line 8 _ _ ten ten-behind in
    let eight-behind = still-behind g line 7 8 (or_else h line 10 None) (lit< tt) ten-behind in
    let seven = next-rule f line 7 _ _ eight eight-behind in
    let seven-behind = still-behind f line 5 7 _ (lit< tt) eight-behind in
    let five = next-rule e line 5 _ _ seven seven-behind in
    let five-behind = still-behind e line 4 5 _ (lit< tt) seven-behind in
    let four = next-rule d line 4 _ _ five five-behind in
    let four-behind = still-behind d line 3 4 _ (lit< tt) five-behind in
    let three = next-rule c line 3 _ _ four four-behind in
    let three-behind = still-behind c line 2 3 _ (lit< tt) four-behind in
    let two = next-rule b line 2 _ _ three three-behind in
    next-rule a line 1 _ _ two (still-behind b line 1 2 _ (lit< tt) three-behind)

-- eight pairs, each taken apart
pub eight-pairs : (a b c d e f g h i j k l m n o q : Option Fault)
    → of_eight (sooner a i) (sooner b j) (sooner c k) (sooner d l) (sooner e m) (sooner f n) (sooner g o) (sooner h q) ≡ sooner (of_eight a b c d e f g h) (of_eight i j k l m n o q)
eight-pairs a b c d e f g h i j k l m n o q =
    let gh = sooner-pairs g o h q in
    let fh = ap (sooner (sooner f n)) gh ∙ sooner-pairs f n (sooner g h) (sooner o q) in
    let eh = ap (sooner (sooner e m)) fh ∙ sooner-pairs e m (sooner f (sooner g h)) (sooner n (sooner o q)) in
    let dh = ap (sooner (sooner d l)) eh ∙ sooner-pairs d l (sooner e (sooner f (sooner g h))) (sooner m (sooner n (sooner o q))) in
    let ch = ap (sooner (sooner c k)) dh ∙ sooner-pairs c k (sooner d (sooner e (sooner f (sooner g h)))) (sooner l (sooner m (sooner n (sooner o q)))) in
    let bh = ap (sooner (sooner b j)) ch ∙ sooner-pairs b j (sooner c (sooner d (sooner e (sooner f (sooner g h))))) (sooner k (sooner l (sooner m (sooner n (sooner o q))))) in
    ap (sooner (sooner a i)) bh ∙ sooner-pairs a i (sooner b (sooner c (sooner d (sooner e (sooner f (sooner g h)))))) (sooner j (sooner k (sooner l (sooner m (sooner n (sooner o q))))))

-- nine in the order of the rules, the sixth of them taken to the end
pub sixth-last : (a b c d e x f g h : Option Fault) → sooner (sooner (sooner (sooner (sooner (sooner (sooner (sooner a b) c) d) e) x) f) g) h ≡ sooner (of_eight a b c d e f g h) x
sixth-last a b c d e x f g h =
    let front = sooner (sooner (sooner (sooner a b) c) d) e in
    let back = sooner f (sooner g h) in
    let ends = sooner-three (sooner (sooner front x) f) g h ∙ sooner-three (sooner front x) f (sooner g h) in
    let moved = sooner-three front x back ∙ (ap (sooner front) (sooner-other x back) ∙ sym (sooner-three front back x)) in
    let whole = sooner-three (sooner (sooner (sooner a b) c) d) e back ∙ (sooner-three (sooner (sooner a b) c) d (sooner e back) ∙ (sooner-three (sooner a b) c (sooner d (sooner e back)) ∙ sooner-three a b (sooner c (sooner d (sooner e back))))) in
    ends ∙ (moved ∙ ap (λ y. sooner y x) whole)
