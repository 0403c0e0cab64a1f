-- What is kept of the blocks of arrays.
use Rattle.std.proofs.Common.{◌≡◌, ℕ, zero, suc, ◌+◌, ◌-◌, ◌^◌, ◌<◌, ◌≤◌, List, [], ◌∷◌, ◌++◌, map, filter, take, length, min, slice_index_or, Bool, true, false, cond, ◌==◌, ◌&&◌, ◌||◌, IsTrue, refl, sym, ap, ◌∙◌, subst, append_assoc, append-nil, arith}
use Rattle.std.specs.Prelude.{nat_le, sum_by}
use Rattle.std.proofs.lemmas.Bool.{eqb-true, eq-eqb, leb-true, and_parts, and_from}
use Rattle.std.proofs.lemmas.List.{map-append, take_more}
use Rattle.std.proofs.lemmas.List.Sums.{sum_by-cons}
use Rattle.sial_syntax.specs.declared.array.ArrayDecl.{ArrayDecl}
use Rattle.sial_syntax.specs.declared.array.ArrayKind.{ArrayKind}
use Rattle.sial_syntax.specs.declared.array.ArrayKind.TheVariants.{Static, Temp, Local, Distributed, Served}
use Rattle.sial_syntax.specs.Resolved.{has_few_blocks}
use Rattle.sial_syntax.specs.Spaces as sp
use Rattle.index_spaces.specs.declared.blocks.Blocks.{Blocks}
use Rattle.index_spaces.specs.Laid.{decl_of, decls_of, over, is_laid, are_laid, kept_if, kept_together, are_few, AreFewTogether}
use Rattle.index_spaces.specs.Placed.{bare, is_temp, array_among}

-- an array among those whose blocks are kept
pub kept_at : (bs : List Blocks) (k : ℕ) (b : Blocks) → k < length bs → b ≡ slice_index_or bs k b → array_among (decls_of bs) k ≡ decl_of b
kept_at [] k b within at = absurd (omega arith)
kept_at (x ∷ xs) zero b within at = sym (ap decl_of at)
kept_at (x ∷ xs) (suc k) b within at = kept_at xs k b (omega arith) at

-- what is kept of one of them is right
pub laid_at : (spans : List sp.Span) (before : List ArrayDecl) (bs : List Blocks) (k : ℕ) (b : Blocks) → IsTrue (are_laid spans before bs) → k < length bs → b ≡ slice_index_or bs k b → IsTrue (is_laid spans (before ++ take k (decls_of bs)) b)
laid_at spans before [] k b laid within at = absurd (omega arith)
laid_at spans before (x ∷ xs) zero b laid within at =
    let parts = and_parts (is_laid spans before x) (are_laid spans (before ++ decl_of x ∷ []) xs) laid in
    subst (λ (front : List ArrayDecl). IsTrue (is_laid spans front b)) (sym (append-nil before)) (subst (λ (y : Blocks). IsTrue (is_laid spans before y)) (sym at) parts.0)
laid_at spans before (x ∷ xs) (suc k) b laid within at =
    let parts = and_parts (is_laid spans before x) (are_laid spans (before ++ decl_of x ∷ []) xs) laid in
    subst (λ (front : List ArrayDecl). IsTrue (is_laid spans front b)) (append_assoc before (decl_of x ∷ []) (take k (decls_of xs))) (laid_at spans (before ++ decl_of x ∷ []) xs k b parts.1 (omega arith) at)

-- so are the counts, where the array isn't temp
pub laid_counts : (spans : List sp.Span) (before : List ArrayDecl) (b : Blocks) → IsTrue (is_laid spans before b) → is_temp (decl_of b) ≡ false → (b.count ≡ sp.blocks_of (over spans) (decl_of b)) × (b.first ≡ sp.blocks_together (over spans) b.kind before)
laid_counts spans before b laid counted =
    let both : (b.count == sp.blocks_of (over spans) (decl_of b) && b.first == sp.blocks_together (over spans) b.kind before) ≡ true =
    sym (ap (λ t. t || (b.count == sp.blocks_of (over spans) (decl_of b) && b.first == sp.blocks_together (over spans) b.kind before)) counted) ∙ laid in
    let parts = and_parts (b.count == sp.blocks_of (over spans) (decl_of b)) (b.first == sp.blocks_together (over spans) b.kind before) both in
    (eqb-true b.count (sp.blocks_of (over spans) (decl_of b)) parts.0, eqb-true b.first (sp.blocks_together (over spans) b.kind before) parts.1)

-- a kind that is another, which isn't temp, isn't temp
pub not-temp : (x y : ArrayKind) → sp.same_kind x y ≡ true → sp.same_kind y Temp ≡ false → sp.same_kind x Temp ≡ false
not-temp Static y e f = refl
not-temp Local y e f = refl
not-temp Distributed y e f = refl
not-temp Served y e f = refl
not-temp Temp Temp e f = f
not-temp Temp Static e f = absurd cc
not-temp Temp Local e f = absurd cc
not-temp Temp Distributed e f = absurd cc
not-temp Temp Served e f = absurd cc

-- how many blocks an array has, where it is of a kind
abbrev pub blocks_if : Bool → ℕ → ℕ
blocks_if true n = n
blocks_if false n = 0

-- the blocks of the arrays of a kind: those of the first, and those of the others
pub together-cons : (spaces : sp.Spaces) (kind : ArrayKind) (a : ArrayDecl) (others : List ArrayDecl)
    → sp.blocks_together spaces kind (a ∷ others) ≡ blocks_if (sp.same_kind a.kind kind) (sp.blocks_of spaces a) + sp.blocks_together spaces kind others
together-cons spaces kind a others = by (sp.same_kind a.kind kind)
  where
    by : (t : Bool)
        → sum_by (sp.blocks_of spaces) (cond t (a ∷ filter (λ (x : ArrayDecl). sp.same_kind x.kind kind) others) (filter (λ (x : ArrayDecl). sp.same_kind x.kind kind) others))
        ≡ blocks_if t (sp.blocks_of spaces a) + sp.blocks_together spaces kind others
    by true = sum_by-cons (sp.blocks_of spaces) a (filter (λ (x : ArrayDecl). sp.same_kind x.kind kind) others)
    by false = omega arith

-- the blocks of the first arrays of a kind are no more than those of all
together-take : (spaces : sp.Spaces) (kind : ArrayKind) (arrays : List ArrayDecl) (i : ℕ) → sp.blocks_together spaces kind (take i arrays) ≤ sp.blocks_together spaces kind arrays
together-take spaces kind [] zero = omega arith
together-take spaces kind [] (suc i) = omega arith
together-take spaces kind (a ∷ arrays) zero =
    let none : sp.blocks_together spaces kind [] ≡ 0 = refl in
    omega arith
together-take spaces kind (a ∷ arrays) (suc i) =
    omega (arith, together-cons spaces kind a (take i arrays), together-cons spaces kind a arrays, together-take spaces kind arrays i)

-- names and lines don't matter
together-bare : (spaces : sp.Spaces) (kind : ArrayKind) (arrays : List ArrayDecl) → sp.blocks_together spaces kind (map bare arrays) ≡ sp.blocks_together spaces kind arrays
together-bare spaces kind [] = refl
together-bare spaces kind (a ∷ arrays) =
    together-cons spaces kind (bare a) (map bare arrays)
    ∙ (ap (λ (n : ℕ). blocks_if (sp.same_kind a.kind kind) (sp.blocks_of spaces a) + n) (together-bare spaces kind arrays) ∙ sym (together-cons spaces kind a arrays))

-- what is kept for a kind is how many blocks its arrays have
kept-together : (spans : List sp.Span) (kind : ArrayKind) (before : List ArrayDecl) (bs : List Blocks) → sp.same_kind kind Temp ≡ false → are_laid spans before bs ≡ true → kept_together kind bs ≡ sp.blocks_together (over spans) kind (decls_of bs)
kept-together spans kind before [] counted laid = refl
kept-together spans kind before (b ∷ bs) counted laid =
    let parts = and_parts (is_laid spans before b) (are_laid spans (before ++ decl_of b ∷ []) bs) laid in
    ap (λ (n : ℕ). kept_if (sp.same_kind b.kind kind) b + n) (kept-together spans kind (before ++ decl_of b ∷ []) bs counted parts.1)
    ∙ (ap (λ (n : ℕ). n + sp.blocks_together (over spans) kind (decls_of bs)) (here (sp.same_kind b.kind kind) refl parts.0)
    ∙ sym (together-cons (over spans) kind (decl_of b) (decls_of bs)))
  where
    here : (t : Bool) → sp.same_kind b.kind kind ≡ t → is_laid spans before b ≡ true → kept_if t b ≡ blocks_if t (sp.blocks_of (over spans) (decl_of b))
    here true e laid = (laid_counts spans before b laid (not-temp b.kind kind e counted)).0
    here false e laid = refl

-- one more array behind the others
laid-push : (spans : List sp.Span) (before : List ArrayDecl) (bs : List Blocks) (b : Blocks) → are_laid spans before bs ≡ true → is_laid spans (before ++ decls_of bs) b ≡ true → are_laid spans before (bs ++ b ∷ []) ≡ true
laid-push spans before [] b laid is =
    and_from (is_laid spans before b) true (subst (λ (front : List ArrayDecl). is_laid spans front b ≡ true) (append-nil before) is) refl
laid-push spans before (x ∷ xs) b laid is =
    let parts = and_parts (is_laid spans before x) (are_laid spans (before ++ decl_of x ∷ []) xs) laid in
    and_from (is_laid spans before x) (are_laid spans (before ++ decl_of x ∷ []) (xs ++ b ∷ [])) parts.0
    (laid-push spans (before ++ decl_of x ∷ []) xs b parts.1 (subst (λ (front : List ArrayDecl). is_laid spans front b ≡ true) (sym (append_assoc before (decl_of x ∷ []) (decls_of xs))) is))

-- an array of some that have few blocks has few
few-at : (spans : List sp.Span) (arrays : List ArrayDecl) (i : ℕ) (a : ArrayDecl) → are_few spans arrays ≡ true → i < length arrays → a ≡ slice_index_or arrays i a → has_few_blocks (over spans) a ≡ true
few-at spans [] i a few within at = absurd (omega arith)
few-at spans (x ∷ xs) zero a few within at =
    let parts = and_parts (has_few_blocks (over spans) x) (are_few spans xs) few in
    ap (has_few_blocks (over spans)) at ∙ parts.0
few-at spans (x ∷ xs) (suc i) a few within at =
    let parts = and_parts (has_few_blocks (over spans) x) (are_few spans xs) few in
    few-at spans xs i a parts.1 (omega arith) at

-- the count of an array with few blocks
few-count : (spaces : sp.Spaces) (a : ArrayDecl) → has_few_blocks spaces a ≡ true → sp.same_kind a.kind Temp ≡ false → min (sp.blocks_of spaces a) (2 ^ 32 - 1) ≡ sp.blocks_of spaces a
few-count spaces a few counted =
    let test : nat_le (sp.blocks_of spaces a) (2 ^ 20) ≡ true = sym (ap (λ t. t || nat_le (sp.blocks_of spaces a) (2 ^ 20)) counted) ∙ few in
    let small : sp.blocks_of spaces a ≤ 2 ^ 20 = leb-true (sp.blocks_of spaces a) (2 ^ 20) test in
    omega (arith, small)

-- what is kept of one more array is right
next-laid : (spans : List sp.Span) (arrays : List ArrayDecl) (i : ℕ) (a : ArrayDecl) (bs : List Blocks) (count first : ℕ) → i < length arrays → a ≡ slice_index_or arrays i a → decls_of bs ≡ map bare (take i arrays) → are_laid spans [] bs ≡ true
    → are_few spans arrays ≡ true → AreFewTogether spans arrays → count ≡ min (sp.blocks_of (over spans) a) (2 ^ 32 - 1) → first ≡ min (kept_together a.kind bs) (2 ^ 32 - 1)
    → is_laid spans (decls_of bs) (record { kind = a.kind; dims = a.dims; count = count; first = first }) ≡ true
next-laid spans arrays i a bs count first within at decls laid few together counts firsts = by (sp.same_kind a.kind Temp) refl
  where
    by : (t : Bool) → sp.same_kind a.kind Temp ≡ t → (t || (count == sp.blocks_of (over spans) a && first == sp.blocks_together (over spans) a.kind (decls_of bs))) ≡ true
    by true e = refl
    by false e =
        let all : count ≡ sp.blocks_of (over spans) a = counts ∙ few-count (over spans) a (few-at spans arrays i a few within at) e in
        let so-far : sp.blocks_together (over spans) a.kind (decls_of bs) ≡ sp.blocks_together (over spans) a.kind (take i arrays) =
        ap (sp.blocks_together (over spans) a.kind) decls ∙ together-bare (over spans) a.kind (take i arrays) in
        let kept : kept_together a.kind bs ≡ sp.blocks_together (over spans) a.kind (decls_of bs) = kept-together spans a.kind [] bs e laid in
        let before : first ≡ sp.blocks_together (over spans) a.kind (decls_of bs) = omega (arith, firsts, kept, so-far, together-take (over spans) a.kind arrays i, together a.kind e) in
        and_from (count == sp.blocks_of (over spans) a) (first == sp.blocks_together (over spans) a.kind (decls_of bs)) (eq-eqb count (sp.blocks_of (over spans) a) all) (eq-eqb first (sp.blocks_together (over spans) a.kind (decls_of bs)) before)

-- the arrays of one more behind the others
pub decls_push : (arrays : List ArrayDecl) (i : ℕ) (a : ArrayDecl) (bs : List Blocks) (count first : ℕ) → i < length arrays → a ≡ slice_index_or arrays i a → decls_of bs ≡ map bare (take i arrays)
    → decls_of (bs ++ record { kind = a.kind; dims = a.dims; count = count; first = first } ∷ []) ≡ map bare (take (i + 1) arrays)
decls_push arrays i a bs count first within at decls =
    map-append decl_of bs (record { kind = a.kind; dims = a.dims; count = count; first = first } ∷ [])
    ∙ (ap (λ (front : List ArrayDecl). front ++ bare a ∷ []) decls
    ∙ (sym (map-append bare (take i arrays) (a ∷ []))
    ∙ ap (map bare) (ap (λ (x : ArrayDecl). take i arrays ++ x ∷ []) at ∙ sym (take_more arrays i a within))))

-- what is kept of them is right
pub laid_push : (spans : List sp.Span) (arrays : List ArrayDecl) (i : ℕ) (a : ArrayDecl) (bs : List Blocks) (count first : ℕ) → i < length arrays → a ≡ slice_index_or arrays i a → decls_of bs ≡ map bare (take i arrays) → IsTrue (are_laid spans [] bs)
    → IsTrue (are_few spans arrays) → AreFewTogether spans arrays → count ≡ min (sp.blocks_of (over spans) a) (2 ^ 32 - 1) → first ≡ min (kept_together a.kind bs) (2 ^ 32 - 1)
    → IsTrue (are_laid spans [] (bs ++ record { kind = a.kind; dims = a.dims; count = count; first = first } ∷ []))
laid_push spans arrays i a bs count first within at decls laid few together counts firsts =
    laid-push spans [] bs (record { kind = a.kind; dims = a.dims; count = count; first = first }) laid (next-laid spans arrays i a bs count first within at decls laid few together counts firsts)
