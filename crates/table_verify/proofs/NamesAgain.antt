-- Declarations are read again from their entries and their texts.
use Rattle.std.proofs.Common.{◌≡◌, ℕ, suc, ◌+◌, ◌^◌, List, [], ◌∷◌, ◌++◌, Bool, true, nat_lt, cond, length, map, Some, None, refl, sym, ap, ◌∙◌, arith, append_assoc, append-nil, length-append}
use Rattle.std.specs.List.{AllByRecursion, flat_map}
use Rattle.std.proofs.lemmas.List.Concat.{flat_map-cons}
use Rattle.sial_syntax.specs.declared.array.ArrayDecl.{ArrayDecl}
use Rattle.sial_syntax.specs.declared.index.Bound.{Bound}
use Rattle.sial_syntax.specs.declared.index.Bound.TheVariants as bound
use Rattle.sial_syntax.specs.declared.index.IndexDecl.{IndexDecl}
use Rattle.sial_syntax.specs.declared.index.Kind.{Kind}
use Rattle.sial_syntax.specs.declared.index.Range.{Range}
use Rattle.sial_syntax.specs.declared.index.Range.TheVariants as range
use Rattle.sial_syntax.specs.Tree.{Procedure, End}
use Rattle.sip_tables.specs.declared.index.BoundEntry.{BoundEntry}
use Rattle.sip_tables.specs.declared.index.IndexEntry.{IndexEntry}
use Rattle.sip_tables.specs.declared.instruction.Instruction.{Instruction}
use Rattle.sip_tables.specs.Entries.{bound_entry, range_entry, index_entry, index_entries, array_entries, scalar_entries, procedure_entries}
use Rattle.sip_tables.specs.Texts.{bound_texts, range_texts, index_texts}
use Rattle.table_verify.specs.Rest.{Left, Read, numbered, ◌>>=◌}
use Rattle.table_verify.specs.Names.{each, bound_of, segments, range_of, index, array, named}
use Rattle.table_verify.proofs.StatementsAgain.{state, numbered_by}

-- ---- lists

-- one entry, and the others
pub each_by : {E D : Type 0} (read : E → Left → Read D) (front : List D) (e : E) (es : List E) (left : Left) (x : D) (mid : Left) (r : Read (List D)) → read e left ≡ Some (x, mid) → each read (front ++ x ∷ []) es mid ≡ r → each read front (e ∷ es) left ≡ r
unfolding each
each_by read front e es left x mid r first rest = ap (λ y. y >>= λ x. each read (front ++ x.0 ∷ []) es x.1) first ∙ rest

-- no entry
pub each_none : {E D : Type 0} (read : E → Left → Read D) (front : List D) (at text : ℕ) (code : List Instruction) (texts : List (List ℕ)) → each read front [] (state at text code texts) ≡ Some (front ++ [], state at (text + 0) code texts)
unfolding each
each_none read front at text code texts =
    let t : text ≡ text + 0 = omega arith in
    ap (λ x. Some (x, state at text code texts)) (sym (append-nil front)) ∙ ap (λ (n : ℕ). Some (front ++ [], state at n code texts)) t

-- ---- what is declared

-- the number of a super index has 16 bits
abbrev pub FitsRange : Range → Type 0
FitsRange (range.Segments kind lo hi) = Unit {0}
FitsRange (range.Sub super) = nat_lt super (2 ^ 16) ≡ true

bound_again : (at text : ℕ) (b : Bound) (code : List Instruction) (texts : List (List ℕ)) → bound_of (bound_entry text b) (state at text code (bound_texts b ++ texts)) ≡ Some (b, state at (text + length (bound_texts b)) code texts)
bound_again at text (bound.Number n) code texts = let t : text ≡ text + 0 = omega arith in ap (λ (m : ℕ). Some (bound.Number n, state at m code texts)) t
bound_again at text (bound.Named name) code texts = rw (numbered_by at text name code texts) refl

segments_by : (kind : Kind) (lo hi : BoundEntry) (left : Left) (a : Bound) (mid : Left) (b : Bound) (new : Left) → bound_of lo left ≡ Some (a, mid) → bound_of hi mid ≡ Some (b, new) → segments kind lo hi left ≡ Some (range.Segments kind a b, new)
unfolding segments
segments_by kind lo hi left a mid b new first second = rw (first, second) refl

range_again : (at text : ℕ) (r : Range) (code : List Instruction) (texts : List (List ℕ)) → FitsRange r → range_of (range_entry text r) (state at text code (range_texts r ++ texts)) ≡ Some (r, state at (text + length (range_texts r)) code texts)
range_again at text (range.Segments kind lo hi) code texts fits =
    let l = length-append (bound_texts lo) (bound_texts hi) in
    let number : text + length (bound_texts lo) + length (bound_texts hi) ≡ text + length (bound_texts lo ++ bound_texts hi) = omega (arith, l) in
    segments_by kind (bound_entry text lo) (bound_entry (text + length (bound_texts lo)) hi) _ lo _ hi _
    (ap (λ (u : List (List ℕ)). bound_of (bound_entry text lo) (state at text code u)) (append_assoc (bound_texts lo) (bound_texts hi) texts) ∙ bound_again at text lo code (bound_texts hi ++ texts))
    (bound_again at (text + length (bound_texts lo)) hi code texts)
    ∙ ap (λ (n : ℕ). Some (range.Segments kind lo hi, state at n code texts)) number
range_again at text (range.Sub super) code texts fits =
    let t : text ≡ text + 0 = omega arith in
    ap (λ (b : Bool). cond b (Some (range.Sub super, state at text code texts)) None) fits ∙ ap (λ (m : ℕ). Some (range.Sub super, state at m code texts)) t

index_by : (e : IndexEntry) (left : Left) (name : List ℕ) (mid : Left) (r : Range) (new : Left) → numbered e.text left ≡ Some (name, mid) → range_of e.range mid ≡ Some (r, new) → index e left ≡ Some (record { name = name; line = e.line; range = r }, new)
unfolding index
index_by e left name mid r new first second = rw (first, second) refl

index_again : (at text : ℕ) (d : IndexDecl) (code : List Instruction) (texts : List (List ℕ)) → FitsRange d.range → index (index_entry text d) (state at text code (index_texts d ++ texts)) ≡ Some (d, state at (text + length (index_texts d)) code texts)
index_again at text d code texts fits =
    let number : text + 1 + length (range_texts d.range) ≡ text + suc (length (range_texts d.range)) = omega arith in
    index_by (index_entry text d) _ d.name _ d.range _ (numbered_by at text d.name code (range_texts d.range ++ texts)) (range_again at (text + 1) d.range code texts fits)
    ∙ ap (λ (n : ℕ). Some (d, state at n code texts)) number

pub indices_again : (front : List IndexDecl) (at text : ℕ) (ds : List IndexDecl) (code : List Instruction) (texts : List (List ℕ)) → AllByRecursion (λ (d : IndexDecl). FitsRange d.range) ds
    → each index front (index_entries text ds) (state at text code (flat_map index_texts ds ++ texts)) ≡ Some (front ++ ds, state at (text + length (flat_map index_texts ds)) code texts)
indices_again front at text [] code texts fits = each_none index front at text code texts
indices_again front at text (d ∷ ds) code texts fits =
    let rest = flat_map index_texts ds in
    let l = length-append (index_texts d) rest in
    let number : text + length (index_texts d) + length rest ≡ text + length (index_texts d ++ rest) = omega (arith, l) in
    ap (λ (u : List (List ℕ)). each index front (index_entries text (d ∷ ds)) (state at text code (u ++ texts))) (flat_map-cons index_texts d ds)
    ∙ ap (λ (u : List (List ℕ)). each index front (index_entries text (d ∷ ds)) (state at text code u)) (append_assoc (index_texts d) rest texts)
    ∙ each_by index front (index_entry text d) (index_entries (text + length (index_texts d)) ds) _ d _ _ (index_again at text d code (rest ++ texts) fits.0) (indices_again (front ++ d ∷ []) at (text + length (index_texts d)) ds code texts fits.1)
    ∙ ap (λ (x : List IndexDecl). Some (x, state at (text + length (index_texts d) + length rest) code texts)) (append_assoc front (d ∷ []) ds)
    ∙ ap (λ (n : ℕ). Some (front ++ (d ∷ ds), state at n code texts)) number
    ∙ ap (λ (u : List (List ℕ)). Some (front ++ (d ∷ ds), state at (text + length u) code texts)) (sym (flat_map-cons index_texts d ds))

array_again : (at text : ℕ) (d : ArrayDecl) (code : List Instruction) (texts : List (List ℕ)) → array (record { text = text; line = d.line; kind = d.kind; dims = d.dims }) (state at text code (d.name ∷ texts)) ≡ Some (d, state at (text + 1) code texts)
unfolding array
array_again at text d code texts = rw (numbered_by at text d.name code texts) refl

pub arrays_again : (front : List ArrayDecl) (at text : ℕ) (ds : List ArrayDecl) (code : List Instruction) (texts : List (List ℕ))
    → each array front (array_entries text ds) (state at text code (map (λ (a : ArrayDecl). a.name) ds ++ texts)) ≡ Some (front ++ ds, state at (text + length (map (λ (a : ArrayDecl). a.name) ds)) code texts)
arrays_again front at text [] code texts = each_none array front at text code texts
arrays_again front at text (d ∷ ds) code texts =
    let rest = map (λ (a : ArrayDecl). a.name) ds in
    let number : text + 1 + length rest ≡ text + suc (length rest) = omega arith in
    each_by array front _ (array_entries (text + 1) ds) _ d _ _ (array_again at text d code (rest ++ texts)) (arrays_again (front ++ d ∷ []) at (text + 1) ds code texts)
    ∙ ap (λ (x : List ArrayDecl). Some (x, state at (text + 1 + length rest) code texts)) (append_assoc front (d ∷ []) ds)
    ∙ ap (λ (n : ℕ). Some (front ++ (d ∷ ds), state at n code texts)) number

pub scalars_again : (front : List (List ℕ)) (at text : ℕ) (ds : List (List ℕ)) (code : List Instruction) (texts : List (List ℕ))
    → each numbered front (scalar_entries text ds) (state at text code (ds ++ texts)) ≡ Some (front ++ ds, state at (text + length ds) code texts)
scalars_again front at text [] code texts = each_none numbered front at text code texts
scalars_again front at text (d ∷ ds) code texts =
    let number : text + 1 + length ds ≡ text + suc (length ds) = omega arith in
    each_by numbered front text (scalar_entries (text + 1) ds) _ d _ _ (numbered_by at text d code (ds ++ texts)) (scalars_again (front ++ d ∷ []) at (text + 1) ds code texts)
    ∙ ap (λ (x : List (List ℕ)). Some (x, state at (text + 1 + length ds) code texts)) (append_assoc front (d ∷ []) ds)
    ∙ ap (λ (n : ℕ). Some (front ++ (d ∷ ds), state at n code texts)) number

-- a procedure with no statement yet
abbrev pub emptied : Procedure → Procedure
emptied q = record { name = q.name; body = End }

named_again : (at text entry : ℕ) (q : Procedure) (code : List Instruction) (texts : List (List ℕ)) → named (record { text = text; entry = entry }) (state at text code (q.name ∷ texts)) ≡ Some (emptied q, state at (text + 1) code texts)
unfolding named
named_again at text entry q code texts = rw (numbered_by at text q.name code texts) refl

pub procedures_again : (front : List Procedure) (at text : ℕ) (entries : List ℕ) (qs : List Procedure) (code : List Instruction) (texts : List (List ℕ)) → length entries ≡ length qs
    → each named front (procedure_entries text entries) (state at text code (map (λ (q : Procedure). q.name) qs ++ texts)) ≡ Some (front ++ map emptied qs, state at (text + length (map (λ (q : Procedure). q.name) qs)) code texts)
procedures_again front at text [] [] code texts many = each_none named front at text code texts
procedures_again front at text [] (q ∷ qs) code texts many = absurd (omega (arith, many))
procedures_again front at text (n ∷ ns) [] code texts many = absurd (omega (arith, many))
procedures_again front at text (n ∷ ns) (q ∷ qs) code texts many =
    let rest = map (λ (x : Procedure). x.name) qs in
    let number : text + 1 + length rest ≡ text + suc (length rest) = omega arith in
    each_by named front _ (procedure_entries (text + 1) ns) _ (emptied q) _ _ (named_again at text n q code (rest ++ texts)) (procedures_again (front ++ emptied q ∷ []) at (text + 1) ns qs code texts (omega (arith, many)))
    ∙ ap (λ (x : List Procedure). Some (x, state at (text + 1 + length rest) code texts)) (append_assoc front (emptied q ∷ []) (map emptied qs))
    ∙ ap (λ (m : ℕ). Some (front ++ (emptied q ∷ map emptied qs), state at m code texts)) number
