-- Programs are found again in their tables, so no two have the same.
use Rattle.std.proofs.Common.{◌≡◌, ℕ, suc, ◌+◌, ◌<◌, List, [], ◌∷◌, ◌++◌, length, take, drop, get_or, map, refl, sym, ap, ◌∙◌, arith, append_assoc, append-nil}
use Rattle.std.specs.List.{flat_map, enumerate_from}
use Rattle.std.proofs.lemmas.List.{length-map, take_at, drop_at}
use Rattle.std.proofs.lemmas.List.Concat.{flat_map-cons}
use Rattle.std.proofs.lemmas.List.FromFn.{length-enumerate_from}
use Rattle.sial_syntax.specs.declared.array.ArrayDecl.{ArrayDecl}
use Rattle.sial_syntax.specs.declared.index.Bound.{Bound}
use Rattle.sial_syntax.specs.declared.index.Bound.TheVariants as bound
use Rattle.sial_syntax.specs.declared.index.IndexDecl.{IndexDecl}
use Rattle.sial_syntax.specs.declared.index.Range.{Range}
use Rattle.sial_syntax.specs.declared.index.Range.TheVariants as range
use Rattle.sial_syntax.specs.Numbering.{sizes, procedure_size}
use Rattle.sial_syntax.specs.Tree.{Tree, Procedure, Block}
use Rattle.sip_tables.specs.Code.{instruction, procedures_code, entries_from, entries_of}
use Rattle.sip_tables.specs.declared.array.ArrayEntry.{ArrayEntry}
use Rattle.sip_tables.specs.declared.index.BoundEntry.{BoundEntry}
use Rattle.sip_tables.specs.declared.index.BoundEntry.TheVariants.{Number, Named}
use Rattle.sip_tables.specs.declared.index.IndexEntry.{IndexEntry}
use Rattle.sip_tables.specs.declared.index.RangeEntry.{RangeEntry}
use Rattle.sip_tables.specs.declared.index.RangeEntry.TheVariants.{Segments, Sub}
use Rattle.sip_tables.specs.declared.instruction.Operation.TheVariants as op
use Rattle.sip_tables.specs.Entries.{bound_entry, range_entry, index_entries, array_entries}
use Rattle.sip_tables.specs.Flatten.{flatten}
use Rattle.sip_tables.specs.Lists.{Lists}
use Rattle.sip_tables.specs.Texts.{bound_texts, range_texts, index_texts, body_prints, index_names, array_names, scalar_names, names, printed}
use Rattle.sip_tables.specs.UniqueLaws.{OneProgram}
use Rattle.sip_tables.proofs.Rebuilding.{Left, rebuilt}
use Rattle.sip_tables.proofs.BodiesFound.{body_found, bodies_from, all_sizes, bodies_found}

-- ---- what is declared, from entries and texts

abbrev bound_back : BoundEntry → List (List ℕ) → Bound × List (List ℕ)
bound_back (Number n) ts = (bound.Number n, ts)
bound_back (Named text) ts = (bound.Named (get_or ts 0 []), drop 1 ts)

bound_is : (text : ℕ) (b : Bound) (ts : List (List ℕ)) → bound_back (bound_entry text b) (bound_texts b ++ ts) ≡ (b, ts)
bound_is text (bound.Number n) ts = refl
bound_is text (bound.Named name) ts = refl

abbrev range_back : RangeEntry → List (List ℕ) → Range × List (List ℕ)
range_back (Segments kind lo hi) ts = (range.Segments kind (bound_back lo ts).0 (bound_back hi (bound_back lo ts).1).0, (bound_back hi (bound_back lo ts).1).1)
range_back (Sub super) ts = (range.Sub super, ts)

range_is : (text : ℕ) (r : Range) (ts : List (List ℕ)) → range_back (range_entry text r) (range_texts r ++ ts) ≡ (r, ts)
range_is text (range.Segments kind lo hi) ts =
    let split = append_assoc (bound_texts lo) (bound_texts hi) ts in
    let first = bound_is text lo (bound_texts hi ++ ts) in
    let second = bound_is (text + length (bound_texts lo)) hi ts in
    rw (split, first, second) refl
range_is text (range.Sub super) ts = refl

abbrev indices_back : List IndexEntry → List (List ℕ) → List IndexDecl × List (List ℕ)
indices_back [] ts = ([], ts)
indices_back (e ∷ es) ts =
    let r = range_back e.range (drop 1 ts) in
    ((record { name = get_or ts 0 []; line = e.line; range = r.0 }) ∷ (indices_back es r.1).0, (indices_back es r.1).1)

indices_are : (text : ℕ) (ds : List IndexDecl) (ts : List (List ℕ)) → indices_back (index_entries text ds) (flat_map index_texts ds ++ ts) ≡ (ds, ts)
indices_are text [] ts = refl
indices_are text (d ∷ ds) ts =
    let split : flat_map index_texts (d ∷ ds) ++ ts ≡ d.name ∷ (range_texts d.range ++ (flat_map index_texts ds ++ ts)) =
    ap (λ (x : List (List ℕ)). x ++ ts) (flat_map-cons index_texts d ds) ∙ append_assoc (index_texts d) (flat_map index_texts ds) ts in
    let first = range_is (text + 1) d.range (flat_map index_texts ds ++ ts) in
    let rest = indices_are (text + length (index_texts d)) ds ts in
    rw (split, first, rest) refl

abbrev arrays_back : List ArrayEntry → List (List ℕ) → List ArrayDecl × List (List ℕ)
arrays_back [] ts = ([], ts)
arrays_back (e ∷ es) ts = ((record { name = get_or ts 0 []; line = e.line; kind = e.kind; dims = e.dims }) ∷ (arrays_back es (drop 1 ts)).0, (arrays_back es (drop 1 ts)).1)

arrays_are : (text : ℕ) (ds : List ArrayDecl) (ts : List (List ℕ)) → arrays_back (array_entries text ds) (map (λ (a : ArrayDecl). a.name) ds ++ ts) ≡ (ds, ts)
arrays_are text [] ts = refl
arrays_are text (d ∷ ds) ts = let rest = arrays_are (text + 1) ds ts in rw rest refl

procedures_of : List (List ℕ) → List Block → List Procedure
procedures_of (n ∷ ns) (b ∷ bs) = (record { name = n; body = b }) ∷ procedures_of ns bs
procedures_of _ _ = []

procedures_are : (qs : List Procedure) → procedures_of (map (λ (q : Procedure). q.name) qs) (map (λ (q : Procedure). q.body) qs) ≡ qs
unfolding procedures_of
procedures_are [] = refl
procedures_are (q ∷ qs) = ap (λ (xs : List Procedure). q ∷ xs) (procedures_are qs)

-- ---- a program, from its tables

with_body : (most : ℕ) → Lists → (name : List ℕ) → List IndexDecl → List ArrayDecl → (scalars names : List (List ℕ)) → Block × Left → Tree
with_body most t name indices arrays scalars names found = record {
  name = name;
  indices = indices;
  arrays = arrays;
  scalars = scalars;
  procedures = procedures_of names (bodies_from (rebuilt most) (length t.procedures) (drop 1 found.1.0) found.1.1);
  body = found.0;
}

with_names : (most : ℕ) → Lists → (name : List ℕ) → List IndexDecl → List ArrayDecl → (scalars names printed : List (List ℕ)) → Tree
with_names most t name indices arrays scalars names printed = with_body most t name indices arrays scalars names (rebuilt most t.code printed)

with_arrays : (most : ℕ) → Lists → (name : List ℕ) → List IndexDecl → List ArrayDecl × List (List ℕ) → Tree
with_arrays most t name indices found =
    let behind = drop (length t.scalars) found.1 in
    with_names most t name indices found.0 (take (length t.scalars) found.1) (take (length t.procedures) behind) (drop (length t.procedures) behind)

with_indices : (most : ℕ) → Lists → (name : List ℕ) → List IndexDecl × List (List ℕ) → Tree
with_indices most t name found = with_arrays most t name found.0 (arrays_back t.arrays found.1)

tree_of : (most : ℕ) → Lists → Tree
tree_of most t = with_indices most t (get_or t.texts 0 []) (indices_back t.indices (drop 1 t.texts))

length-entries_from : (at : ℕ) (qs : List Procedure) → length (entries_from at qs) ≡ length qs
length-entries_from at [] = refl
length-entries_from at (q ∷ qs) = ap suc (length-entries_from (at + procedure_size q) qs)

tree_is : (most : ℕ) (p : Tree) → sizes p.body < most → all_sizes p.procedures < most → tree_of most (flatten p) ≡ p
unfolding tree_of with_indices with_arrays with_names with_body
tree_is most p small few =
    let t = flatten p in
    let is = flat_map index_texts p.indices in
    let ars = map (λ (a : ArrayDecl). a.name) p.arrays in
    let ns = map (λ (q : Procedure). q.name) p.procedures in
    let qs = flat_map (λ (q : Procedure). body_prints q.body) p.procedures in
    let out = body_prints p.body ++ qs in
    let split : (((is ++ ars) ++ p.scalars) ++ ns) ++ out ≡ is ++ (ars ++ (p.scalars ++ (ns ++ out))) =
    append_assoc ((is ++ ars) ++ p.scalars) ns out ∙ append_assoc (is ++ ars) p.scalars (ns ++ out) ∙ append_assoc is ars (p.scalars ++ (ns ++ out)) in
    let indices = indices_are 1 p.indices (ars ++ (p.scalars ++ (ns ++ out))) in
    let arrays = arrays_are (length (index_names p)) p.arrays (p.scalars ++ (ns ++ out)) in
    let scalars : length t.scalars ≡ length p.scalars =
    length-map (enumerate_from (length (array_names p)) p.scalars) (λ (x : ℕ × List ℕ). x.0) ∙ length-enumerate_from (length (array_names p)) p.scalars in
    let procedures : length t.procedures ≡ length p.procedures =
    length-map (enumerate_from (length (scalar_names p)) (entries_of p)) (λ (x : ℕ × ℕ). record { text = x.0; entry = x.1 })
    ∙ length-enumerate_from (length (scalar_names p)) (entries_of p) ∙ length-entries_from (sizes p.body + 1) p.procedures in
    let as_many : length ns ≡ length t.procedures = length-map p.procedures (λ (q : Procedure). q.name) ∙ sym procedures in
    let pc = procedures_code (entries_of p) (sizes p.body + 1) (length (names p) + length (body_prints p.body)) p.procedures in
    let body = body_found most (entries_of p) 0 (length (names p)) p.body (instruction 0 op.Stop ∷ pc) qs small tt in
    let bodies : bodies_from (rebuilt most) (length t.procedures) pc qs ≡ map (λ (q : Procedure). q.body) p.procedures =
    ap (λ (n : ℕ). bodies_from (rebuilt most) n pc qs) procedures ∙ ap (λ (x : List (List ℕ)). bodies_from (rebuilt most) (length p.procedures) pc x) (sym (append-nil qs))
    ∙ bodies_found most (rebuilt most) (body_found most) (entries_of p) (sizes p.body + 1) (length (names p) + length (body_prints p.body)) p.procedures [] few in
    let first = take_at p.scalars (ns ++ out) (length t.scalars) (sym scalars) in
    let behind = drop_at p.scalars (ns ++ out) (length t.scalars) (sym scalars) in
    let second = take_at ns out (length t.procedures) as_many in
    let last = drop_at ns out (length t.procedures) as_many in
    ap (λ (x : List (List ℕ)). with_indices most t p.name (indices_back t.indices x)) split
    ∙ ap (with_indices most t p.name) indices
    ∙ ap (with_arrays most t p.name p.indices) arrays
    ∙ ap (λ (x : List (List ℕ)). with_names most t p.name p.indices p.arrays x (take (length t.procedures) (drop (length t.scalars) (p.scalars ++ (ns ++ out)))) (drop (length t.procedures) (drop (length t.scalars) (p.scalars ++ (ns ++ out))))) first
    ∙ ap (λ (x : List (List ℕ)). with_names most t p.name p.indices p.arrays p.scalars (take (length t.procedures) x) (drop (length t.procedures) x)) behind
    ∙ ap (λ (x : List (List ℕ)). with_names most t p.name p.indices p.arrays p.scalars x (drop (length t.procedures) (ns ++ out))) second
    ∙ ap (λ (x : List (List ℕ)). with_names most t p.name p.indices p.arrays p.scalars ns x) last
    ∙ ap (with_body most t p.name p.indices p.arrays p.scalars ns) body
    ∙ ap (λ (x : List Block). record { name = p.name; indices = p.indices; arrays = p.arrays; scalars = p.scalars; procedures = procedures_of ns x; body = p.body }) bodies
    ∙ ap (λ (x : List Procedure). record { name = p.name; indices = p.indices; arrays = p.arrays; scalars = p.scalars; procedures = x; body = p.body }) (procedures_are p.procedures)

-- a program is found in its tables, with any number of rounds that is large enough
pub one_program : OneProgram
one_program p q same =
    let most = (sizes p.body + sizes q.body) + ((all_sizes p.procedures + all_sizes q.procedures) + 1) in
    let left = tree_is most p (omega arith) (omega arith) in
    let right = tree_is most q (omega arith) (omega arith) in
    sym left ∙ ap (tree_of most) same ∙ right
