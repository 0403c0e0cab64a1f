-- The names of what is declared come one behind the other.
use Rattle.std.proofs.Common.{◌≡◌, ℕ, ◌+◌, List, [], ◌∷◌, ◌++◌, length, map, ap, sym, subst, ◌∙◌, append_assoc}
use Rattle.std.proofs.lemmas.List.{length-map}
use Rattle.std.proofs.lemmas.Simd.{map-map}
use Rattle.std.specs.List.{flat_map}
use Rattle.sial_syntax.specs.declared.array.ArrayDecl.{ArrayDecl}
use Rattle.sial_syntax.specs.declared.index.IndexDecl.{IndexDecl}
use Rattle.sial_syntax.specs.declared.program.Proc.{Proc}
use Rattle.sial_syntax.specs.declared.program.Program.{Program}
use Rattle.sial_syntax.specs.Numbering.{sizes}
use Rattle.sial_syntax.specs.Tree.{Procedure, procedure, block, tree}
use Rattle.sip_tables.specs.Code.{entries_of}
use Rattle.sip_tables.specs.Texts.{index_texts, names}
use Rattle.table_compiler.specs.declared.flat.Flat.{Flat}
use Rattle.table_compiler.specs.Grown.{Names}
use Rattle.table_compiler.proofs.ProgramLemmas.{length-entries_from}

-- some names behind others
Names-then : (a b c : Flat) (x y : List (List ℕ)) → Names a b x → Names b c y → Names a c (x ++ y)
Names-then a b c x y first second = record {
  texts = second.texts ∙ ap (λ (z : List (List ℕ)). z ++ y) first.texts ∙ append_assoc a.texts.items x y;
  code = second.code ∙ first.code;
}

-- the name of the program, and those of its indices, arrays, scalars and procedures
pub all_names : (p : Program) (indices : List IndexDecl) (arrays : List ArrayDecl) (scalars : List (List ℕ)) (procedures : List Proc) (a b c d e f : Flat)
    → indices ≡ p.indices.items → arrays ≡ p.arrays.items → scalars ≡ p.scalars.items → procedures ≡ p.procs.items
    → Names a b (p.name ∷ []) → Names b c (flat_map index_texts indices) → Names c d (map (λ (x : ArrayDecl). x.name) arrays) → Names d e scalars → Names e f (map (λ (q : Proc). q.name) procedures)
    → Names a f (names (tree p))
all_names p indices arrays scalars procedures a b c d e f is_indices is_arrays is_scalars is_procedures first second third fourth fifth =
    let two = Names-then a b c (p.name ∷ []) (flat_map index_texts p.indices.items) first (subst (λ (x : List IndexDecl). Names b c (flat_map index_texts x)) is_indices second) in
    let three = Names-then a c d _ (map (λ (x : ArrayDecl). x.name) p.arrays.items) two (subst (λ (x : List ArrayDecl). Names c d (map (λ (y : ArrayDecl). y.name) x)) is_arrays third) in
    let four = Names-then a d e _ p.scalars.items three (subst (λ (x : List (List ℕ)). Names d e x) is_scalars fourth) in
    let same : map (λ (q : Procedure). q.name) (map procedure p.procs.items) ≡ map (λ (q : Proc). q.name) p.procs.items = map-map (λ (q : Procedure). q.name) procedure p.procs.items in
    let last = subst (λ (x : List (List ℕ)). Names e f x) (sym same) (subst (λ (x : List Proc). Names e f (map (λ (q : Proc). q.name) x)) is_procedures fifth) in
    Names-then a e f _ (map (λ (q : Procedure). q.name) (map procedure p.procs.items)) four last

-- a program has as many first instructions as procedures
pub as_many : (p : Program) (entries : List ℕ) (procedures : List Proc) → entries ≡ entries_of (tree p) → procedures ≡ p.procs.items → length entries ≡ length procedures
as_many p entries procedures known same =
    ap (λ (x : List ℕ). length x) known ∙ length-entries_from (sizes (block p.body.items) + 1) (map procedure p.procs.items) ∙ length-map p.procs.items procedure
    ∙ ap (λ (x : List Proc). length x) (sym same)
