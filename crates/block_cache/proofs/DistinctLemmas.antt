-- Lists in which each block stands once.
use Rattle.std.proofs.Common.{◌≡◌, ℕ, Bool, true, false, cond, not, ◌&&◌, ◌||◌, ◌==◌, List, [], ◌∷◌, ◌++◌, refl, sym, ap, ◌∙◌, subst}
use Rattle.std.proofs.lemmas.List.Folds.{list_any-append}
use Rattle.std.proofs.lemmas.Bool.Decides.{Decides-eqb, Decides-like, same_from_decides}
use Rattle.std.specs.List.{filter}
use Rattle.sial_syntax.specs.declared.access.Class.{Class}
use Rattle.sial_syntax.specs.declared.access.Class.TheVariants.{Distributed, Served}
use Rattle.block_cache.specs.Recency.{Block, same_block, has_block, without, are_distinct}
use Rattle.sial_syntax.specs.Spaces.{same_class}

-- where two tests hold, each does
both_true : (a b : Bool) → (a && b) ≡ true → (a ≡ true) × (b ≡ true)
both_true true b h = (refl, h)
both_true false b h = absurd cc

-- where neither of two tests holds, each doesn't
neither : (a b : Bool) → (a || b) ≡ false → (a ≡ false) × (b ≡ false)
neither true b h = absurd cc
neither false b h = (refl, h)

not_false : (a : Bool) → not a ≡ true → a ≡ false
not_false true h = absurd cc
not_false false h = refl

same_class-sym : (a b : Class) → same_class a b ≡ same_class b a
same_class-sym Distributed Distributed = refl
same_class-sym Distributed Served = refl
same_class-sym Served Distributed = refl
same_class-sym Served Served = refl

same_class-true : (a b : Class) → same_class a b ≡ true → a ≡ b
same_class-true Distributed Distributed h = refl
same_class-true Distributed Served h = absurd cc
same_class-true Served Distributed h = absurd cc
same_class-true Served Served h = refl

number-sym : (a b : ℕ) → (a == b) ≡ (b == a)
number-sym a b = same_from_decides (a == b) (b == a) (Decides-eqb a b) (Decides-like (b == a) sym sym (Decides-eqb b a))

-- being one block goes both ways
pub same_block-sym : (a b : Block) → same_block a b ≡ same_block b a
same_block-sym a b = ap (λ t. t && a.1 == b.1) (same_class-sym a.0 b.0) ∙ ap (λ t. same_class b.0 a.0 && t) (number-sym a.1 b.1)

-- blocks that are told to be one are one
pub same_block-true : (a b : Block) → same_block a b ≡ true → a ≡ b
same_block-true a b h =
    let (classes, numbers) = both_true (same_class a.0 b.0) (a.1 == b.1) h in
    let first = same_class-true a.0 b.0 classes in
    let second : a.1 ≡ b.1 = (Decides-eqb a.1 b.1).0 numbers in
    λ i. (first i, second i)

-- a block that stands in neither of two lists
pub absent-append : (xs ys : List Block) (block : Block) → has_block xs block ≡ false → has_block ys block ≡ false → has_block (xs ++ ys) block ≡ false
absent-append xs ys block first second = list_any-append (same_block block) xs ys ∙ ap (λ t. t || has_block ys block) first ∙ second

pub absent_parts : (xs ys : List Block) (block : Block) → has_block (xs ++ ys) block ≡ false → (has_block xs block ≡ false) × (has_block ys block ≡ false)
absent_parts xs ys block h = neither (has_block xs block) (has_block ys block) (sym (list_any-append (same_block block) xs ys) ∙ h)

-- what a list doesn't have, a part of it hasn't either
pub absent-filter : (test : Block → Bool) (xs : List Block) (block : Block) → has_block xs block ≡ false → has_block (filter test xs) block ≡ false
absent-filter test [] block h = refl
absent-filter test (x ∷ xs) block h =
    let (first, rest) = neither (same_block block x) (has_block xs block) h in
    elim (test x) as (λ t. has_block (cond t (x ∷ filter test xs) (filter test xs)) block ≡ false) [
      | true ↦ ap (λ t. t || has_block (filter test xs) block) first ∙ absent-filter test xs block rest
      | false ↦ absent-filter test xs block rest
    ]

-- a block that was taken out is no longer there
pub absent-without : (block : Block) (xs : List Block) → has_block (without block xs) block ≡ false
absent-without block [] = refl
absent-without block (x ∷ xs) =
    elim (same_block block x) as (λ t. same_block block x ≡ t → has_block (cond (not t) (x ∷ without block xs) (without block xs)) block ≡ false) [
      | true ↦ λ is. absent-without block xs
      | false ↦ λ is. ap (λ t. t || has_block (without block xs) block) is ∙ absent-without block xs
    ] refl

-- one more block in front of distinct ones
pub distinct-cons : (x : Block) (xs : List Block) → has_block xs x ≡ false → are_distinct xs ≡ true → are_distinct (x ∷ xs) ≡ true
distinct-cons x xs absent distinct = ap (λ t. not t && are_distinct xs) absent ∙ distinct

-- the first of distinct blocks, and the others
pub distinct-parts : (x : Block) (xs : List Block) → are_distinct (x ∷ xs) ≡ true → (has_block xs x ≡ false) × (are_distinct xs ≡ true)
distinct-parts x xs h =
    let (first, rest) = both_true (not (has_block xs x)) (are_distinct xs) h in
    (not_false (has_block xs x) first, rest)

pub distinct-filter : (test : Block → Bool) (xs : List Block) → are_distinct xs ≡ true → are_distinct (filter test xs) ≡ true
distinct-filter test [] h = refl
distinct-filter test (x ∷ xs) h =
    let (first, rest) = distinct-parts x xs h in
    elim (test x) as (λ t. are_distinct (cond t (x ∷ filter test xs) (filter test xs)) ≡ true) [
      | true ↦ distinct-cons x (filter test xs) (absent-filter test xs x first) (distinct-filter test xs rest)
      | false ↦ distinct-filter test xs rest
    ]

pub distinct-filter_left : (test : Block → Bool) (xs ys : List Block) → are_distinct (xs ++ ys) ≡ true → are_distinct (filter test xs ++ ys) ≡ true
distinct-filter_left test [] ys h = h
distinct-filter_left test (x ∷ xs) ys h =
    let (first, rest) = distinct-parts x (xs ++ ys) h in
    let (left, right) = absent_parts xs ys x first in
    elim (test x) as (λ t. are_distinct (cond t (x ∷ filter test xs) (filter test xs) ++ ys) ≡ true) [
      | true ↦ distinct-cons x (filter test xs ++ ys) (absent-append (filter test xs) ys x (absent-filter test xs x left) right) (distinct-filter_left test xs ys rest)
      | false ↦ distinct-filter_left test xs ys rest
    ]

pub distinct-filter_right : (test : Block → Bool) (xs ys : List Block) → are_distinct (xs ++ ys) ≡ true → are_distinct (xs ++ filter test ys) ≡ true
distinct-filter_right test [] ys h = distinct-filter test ys h
distinct-filter_right test (x ∷ xs) ys h =
    let (first, rest) = distinct-parts x (xs ++ ys) h in
    let (left, right) = absent_parts xs ys x first in
    distinct-cons x (xs ++ filter test ys) (absent-append xs (filter test ys) x left (absent-filter test ys x right)) (distinct-filter_right test xs ys rest)

-- one more block behind distinct ones
pub distinct-push : (xs : List Block) (block : Block) → are_distinct xs ≡ true → has_block xs block ≡ false → are_distinct (xs ++ block ∷ []) ≡ true
distinct-push [] block h absent = refl
distinct-push (x ∷ xs) block h absent =
    let (first, rest) = distinct-parts x xs h in
    let (other, none) = neither (same_block block x) (has_block xs block) absent in
    let alone : has_block (block ∷ []) x ≡ false = ap (λ t. t || false) (same_block-sym x block ∙ other) in
    distinct-cons x (xs ++ block ∷ []) (absent-append xs (block ∷ []) x first alone) (distinct-push xs block rest none)

-- a block of the first of two distinct lists isn't in the second
pub distinct-apart : (xs ys : List Block) (block : Block) → are_distinct (xs ++ ys) ≡ true → has_block xs block ≡ true → has_block ys block ≡ false
distinct-apart [] ys block h has = absurd cc
distinct-apart (x ∷ xs) ys block h has =
    let (first, rest) = distinct-parts x (xs ++ ys) h in
    elim (same_block block x) as (λ t. same_block block x ≡ t → (t || has_block xs block) ≡ true → has_block ys block ≡ false) [
      | true ↦ λ is has. subst (λ (b : Block). has_block ys b ≡ false) (sym (same_block-true block x is)) (absent_parts xs ys x first).1
      | false ↦ λ is has. distinct-apart xs ys block rest has
    ] refl has

-- and the other way round
pub distinct-apart_left : (xs ys : List Block) (block : Block) → are_distinct (xs ++ ys) ≡ true → has_block ys block ≡ true → has_block xs block ≡ false
distinct-apart_left xs ys block h has =
    elim (has_block xs block) as (λ t. has_block xs block ≡ t → t ≡ false) [
      | true ↦ λ is. let none : has_block ys block ≡ false = distinct-apart xs ys block h is in absurd cc
      | false ↦ λ is. refl
    ] refl

-- the others of distinct blocks are distinct
pub distinct-between : (front : List Block) (block : Block) (back : List Block) → are_distinct (front ++ block ∷ back) ≡ true → are_distinct (front ++ back) ≡ true
distinct-between [] block back h = (distinct-parts block back h).1
distinct-between (x ∷ front) block back h =
    let (first, rest) = distinct-parts x (front ++ block ∷ back) h in
    let (left, right) = absent_parts front (block ∷ back) x first in
    let (here, behind) = neither (same_block x block) (has_block back x) right in
    distinct-cons x (front ++ back) (absent-append front back x left behind) (distinct-between front block back rest)

-- and one of them isn't among the others
pub absent-between : (front : List Block) (block : Block) (back : List Block) → are_distinct (front ++ block ∷ back) ≡ true → has_block (front ++ back) block ≡ false
absent-between [] block back h = (distinct-parts block back h).0
absent-between (x ∷ front) block back h =
    let (first, rest) = distinct-parts x (front ++ block ∷ back) h in
    let (left, right) = absent_parts front (block ∷ back) x first in
    let (here, behind) = neither (same_block x block) (has_block back x) right in
    ap (λ t. t || has_block (front ++ back) block) (same_block-sym block x ∙ here) ∙ absent-between front block back rest
