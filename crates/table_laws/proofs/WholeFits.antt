-- The tables of a proper program fit into a file, and are read again from it.
use Rattle.std.proofs.Common.{◌≡◌, ℕ, zero, suc, ◌+◌, ◌^◌, ◌<◌, ◌≤◌, true, false, List, [], ◌∷◌, ◌++◌, length, slice_index, refl, ap, sym, ◌∙◌, arith, length-append}
use Rattle.std.specs.List.{list_all, flat_map, enumerate_from, AllByRecursion}
use Rattle.std.proofs.lemmas.List.Concat.{flat_map-cons}
use Rattle.std.proofs.lemmas.List.Folds.{list_all-append}
use Rattle.sial_syntax.specs.declared.array.ArrayDecl.{ArrayDecl}
use Rattle.sial_syntax.specs.declared.index.Bound.{Bound}
use Rattle.sial_syntax.specs.declared.index.Bound.TheVariants as bound
use Rattle.sial_syntax.specs.declared.index.IndexDecl.{IndexDecl}
use Rattle.sial_syntax.specs.declared.index.Range.{Range}
use Rattle.sial_syntax.specs.declared.index.Range.TheVariants as range
use Rattle.sial_syntax.specs.Names.{is_name}
use Rattle.sial_syntax.specs.Numbering.{sizes, procedure_size}
use Rattle.sial_syntax.specs.Proper.{IsProper, is_line, proper_bound, proper_range, proper_index, proper_array, proper_body, proper_procedure, proper_numbers}
use Rattle.sial_syntax.specs.Tree.{Tree, Procedure}
use Rattle.sial_syntax.specs.Visits.{body_visits}
use Rattle.sip_tables.specs.Code.{instruction, body_code, procedures_code, entries_from, entries_of}
use Rattle.sip_tables.specs.declared.instruction.Operation.TheVariants as op
use Rattle.sip_tables.specs.Entries.{bound_entry, range_entry, index_entries, array_entries, scalar_entries, procedure_entries}
use Rattle.sip_tables.specs.Flatten.{flatten}
use Rattle.sip_tables.specs.Texts.{bound_texts, range_texts, index_texts, body_prints, index_names, array_names, scalar_names, names, printed, texts}
use Rattle.sip_tables.proofs.CodeLemmas.{length-body_code}
use Rattle.table_file.specs.Fits.{IsWithin, IsNamed, IsShort, BoundFits, RangeFits, IndexFits, ArrayFits, ProcedureFits, InstructionFits, HaveFile}
use Rattle.table_laws.proofs.Proving.{both_true, below, IsSmall, indices_fit}
use Rattle.table_laws.proofs.CodeFits.{IsKnown, all_both, body_fits}
use Rattle.sip_tables.proofs.OneProgram.{one_program}
use Rattle.table_file.specs.Bytes.{bytes}
use Rattle.table_file.proofs.FileLaws.{decode_again}
use Rattle.table_file.proofs.ReadsLemmas.{ok_is}
use Rattle.table_laws.specs.FileLaws.{ProgramsHaveFiles, OneFile}
use Rattle.table_laws.proofs.TextsFit.{IsName, IsText, names_are, printed_are, named_at, printed_at, name_is_short, text_is_short, all_weaker}
use Rattle.table_laws.proofs.Counts.{printed_few, lengths, names_few, code_begun}

-- ---- entries, with the numbers of names below a bound

bound_fits : (ts : List (List ℕ)) (top text : ℕ) (b : Bound) → ((n : ℕ) → n < top → IsNamed ts 64 n) → proper_bound b ≡ true → text + length (bound_texts b) ≤ top → BoundFits ts (bound_entry text b)
bound_fits ts top text (bound.Number n) named e room = below n (2 ^ 64) e
bound_fits ts top text (bound.Named name) named e room = named text (omega (arith, room))

range_fits : (ts : List (List ℕ)) (top text place : ℕ) (r : Range) → ((n : ℕ) → n < top → IsNamed ts 64 n) → proper_range place r ≡ true → text + length (range_texts r) ≤ top → place ≤ 256 → RangeFits ts (range_entry text r)
range_fits ts top text place (range.Segments kind lo hi) named e room few =
    let a = both_true (proper_bound lo) _ e in
    let l = length-append (bound_texts lo) (bound_texts hi) in
    (bound_fits ts top text lo named a.0 (omega (arith, room, l)), bound_fits ts top (text + length (bound_texts lo)) hi named a.1 (omega (arith, room, l)))
range_fits ts top text place (range.Sub super) named e room few = let l = below super place e in omega (arith, l, few)

indices_fit_all : (ts : List (List ℕ)) (top text place : ℕ) (ds : List IndexDecl) → ((n : ℕ) → n < top → IsNamed ts 32 n) → ((n : ℕ) → n < top → IsNamed ts 64 n) → list_all proper_index (enumerate_from place ds) ≡ true
    → text + length (flat_map index_texts ds) ≤ top → place + length ds ≤ 256 → AllByRecursion (IndexFits ts) (index_entries text ds)
indices_fit_all ts top text place [] named wide e room few = tt
indices_fit_all ts top text place (d ∷ ds) named wide e room few =
    let a = both_true (proper_index (place, d)) (list_all proper_index (enumerate_from (place + 1) ds)) e in
    let b = both_true (is_name d.name) _ a.0 in
    let c = both_true (is_line d.line) _ b.1 in
    let l = ap (λ (x : List (List ℕ)). length x) (flat_map-cons index_texts d ds) ∙ length-append (index_texts d) (flat_map index_texts ds) in
    let own : length (index_texts d) ≡ 1 + length (range_texts d.range) = omega arith in (
      record {
        text = named text (omega (arith, room, l, own));
        line = below d.line (2 ^ 32) c.0;
        range = range_fits ts top (text + 1) place d.range wide c.1 (omega (arith, room, l, own)) (omega (arith, few));
      },
      indices_fit_all ts top (text + length (index_texts d)) (place + 1) ds named wide a.1 (omega (arith, room, l)) (omega (arith, few)),
    )

arrays_fit_all : (p : Tree) → IsSmall p → (ts : List (List ℕ)) (top text : ℕ) (ds : List ArrayDecl) → ((n : ℕ) → n < top → IsNamed ts 32 n) → list_all (proper_array p) ds ≡ true → text + length ds ≤ top
    → AllByRecursion (ArrayFits ts) (array_entries text ds)
arrays_fit_all p small ts top text [] named e room = tt
arrays_fit_all p small ts top text (d ∷ ds) named e room =
    let a = both_true (proper_array p d) _ e in
    let b = both_true (is_name d.name) _ a.0 in
    let c = both_true (is_line d.line) _ b.1 in
    (record { text = named text (omega (arith, room)); line = below d.line (2 ^ 32) c.0; dims = indices_fit p small 6 d.dims c.1 }, arrays_fit_all p small ts top (text + 1) ds named a.1 (omega (arith, room)))

scalars_fit_all : (ts : List (List ℕ)) (top text : ℕ) (ss : List (List ℕ)) → ((n : ℕ) → n < top → IsNamed ts 32 n) → text + length ss ≤ top → AllByRecursion (IsNamed ts 32) (scalar_entries text ss)
scalars_fit_all ts top text [] named room = tt
scalars_fit_all ts top text (s ∷ ss) named room = (named text (omega (arith, room)), scalars_fit_all ts top (text + 1) ss named (omega (arith, room)))

procedures_fit_all : (ts : List (List ℕ)) (top text : ℕ) (es : List ℕ) → ((n : ℕ) → n < top → IsNamed ts 32 n) → text + length es ≤ top → AllByRecursion (IsWithin 32) es → AllByRecursion (ProcedureFits ts) (procedure_entries text es)
procedures_fit_all ts top text [] named room fits = tt
procedures_fit_all ts top text (e ∷ es) named room fits =
    (record { text = named text (omega (arith, room)); entry = fits.0 }, procedures_fit_all ts top (text + 1) es named (omega (arith, room)) fits.1)

-- ---- procedures and their first instructions

abbrev total : List Procedure → ℕ
total [] = 0
total (q ∷ qs) = procedure_size q + total qs

length-procedures : (entries : List ℕ) (at text : ℕ) (qs : List Procedure) → length (procedures_code entries at text qs) ≡ total qs
length-procedures entries at text [] = refl
length-procedures entries at text (q ∷ qs) =
    let bc = body_code entries at text q.body in
    let rest = procedures_code entries (at + procedure_size q) (text + length (body_prints q.body)) qs in
    let a = length-body_code entries at text q.body in
    let b = length-procedures entries (at + procedure_size q) (text + length (body_prints q.body)) qs in
    let c = length-append bc (instruction 0 op.Return ∷ rest) in
    omega (arith, a, b, c)

entries_small : (at : ℕ) (qs : List Procedure) → at + total qs < 2 ^ 32 → AllByRecursion (IsWithin 32) (entries_from at qs)
entries_small at [] room = tt
entries_small at (q ∷ qs) room = (omega (arith, room), entries_small (at + procedure_size q) qs (omega (arith, room)))

length-entries_from : (at : ℕ) (qs : List Procedure) → length (entries_from at qs) ≡ length qs
length-entries_from at [] = refl
length-entries_from at (q ∷ qs) = ap suc (length-entries_from (at + procedure_size q) qs)

entry_small : (es : List ℕ) (k : ℕ) → AllByRecursion (IsWithin 32) es → slice_index es k < 2 ^ 32
entry_small [] k f = omega arith
entry_small (e ∷ es) zero f = f.0
entry_small (e ∷ es) (suc k) f = entry_small es k f.1

procedures_fit : (p : Tree) (ts : List (List ℕ)) (first : ℕ) (entries : List ℕ) → IsKnown p ts first entries → (at text : ℕ) (qs : List Procedure) → list_all (proper_procedure p) qs ≡ true
    → list_all proper_numbers (flat_map (λ (q : Procedure). body_visits q.body) qs) ≡ true → at + total qs < 2 ^ 32 → first ≤ text → text + length (flat_map (λ (q : Procedure). body_prints q.body) qs) < 2 ^ 32
    → AllByRecursion (InstructionFits ts) (procedures_code entries at text qs)
procedures_fit p ts first entries known at text [] proper numbers room behind few = tt
procedures_fit p ts first entries known at text (q ∷ qs) proper numbers room behind few =
    let v = λ (q : Procedure). body_visits q.body in
    let f = λ (q : Procedure). body_prints q.body in
    let a = both_true (proper_procedure p q) _ proper in
    let b = both_true (proper_body p q.body) _ (both_true (is_name q.name) _ a.0).1 in
    let split : list_all proper_numbers (v q ++ flat_map v qs) ≡ true = ap (list_all proper_numbers) (sym (flat_map-cons v q qs)) ∙ numbers in
    let c = both_true (list_all proper_numbers (v q)) _ (sym (list_all-append proper_numbers (v q) (flat_map v qs)) ∙ split) in
    let l = ap (λ (x : List (List ℕ)). length x) (flat_map-cons f q qs) ∙ length-append (f q) (flat_map f qs) in
    all_both (InstructionFits ts) (body_code entries at text q.body) _
    (body_fits p ts first entries known [] false at text q.body b.0 c.0 (omega (arith, room)) behind (omega (arith, few, l)))
    ((omega arith, tt), procedures_fit p ts first entries known (at + procedure_size q) (text + length (body_prints q.body)) qs a.1 c.1 (omega (arith, room)) (omega (arith, behind)) (omega (arith, few, l)))

length-index_entries : (text : ℕ) (ds : List IndexDecl) → length (index_entries text ds) ≡ length ds
length-index_entries text [] = refl
length-index_entries text (d ∷ ds) = ap suc (length-index_entries (text + length (index_texts d)) ds)

length-array_entries : (text : ℕ) (ds : List ArrayDecl) → length (array_entries text ds) ≡ length ds
length-array_entries text [] = refl
length-array_entries text (d ∷ ds) = ap suc (length-array_entries (text + 1) ds)

length-scalar_entries : (text : ℕ) (ss : List (List ℕ)) → length (scalar_entries text ss) ≡ length ss
length-scalar_entries text [] = refl
length-scalar_entries text (s ∷ ss) = ap suc (length-scalar_entries (text + 1) ss)

length-procedure_entries : (text : ℕ) (es : List ℕ) → length (procedure_entries text es) ≡ length es
length-procedure_entries text [] = refl
length-procedure_entries text (e ∷ es) = ap suc (length-procedure_entries (text + 1) es)

-- ---- the whole

have_file : (p : Tree) → IsProper p → length (flatten p).code < 2 ^ 32 → HaveFile (flatten p)
have_file p proper room =
    let ts = texts p in
    let small : IsSmall p = record { indices = proper.few_indices; arrays = proper.few_arrays; scalars = proper.few_scalars; procedures = proper.few_procedures } in
    let l = lengths p in
    let few = names_few p proper in
    let out = printed_few p proper in
    let top = length (names p) in
    let ns = names_are p proper in
    let os = printed_are p proper in
    let named : (n : ℕ) → n < top → IsNamed ts 32 n = λ n below_top. (omega (arith, below_top, few), named_at (names p) (printed p) n ns below_top) in
    let wide : (n : ℕ) → n < top → IsNamed ts 64 n = λ n below_top. (omega (arith, below_top, few), named_at (names p) (printed p) n ns below_top) in
    let entries = entries_of p in
    let bc = body_code entries 0 top p.body in
    let pc = procedures_code entries (sizes p.body + 1) (top + length (body_prints p.body)) p.procedures in
    let stop = instruction 0 op.Stop in
    let whole = length-append bc (stop ∷ pc) in
    let lb = length-body_code entries 0 top p.body in
    let lp = length-procedures entries (sizes p.body + 1) (top + length (body_prints p.body)) p.procedures in
    let wide_code : (sizes p.body + 1) + total p.procedures < 2 ^ 32 = omega (arith, room, whole, lb, lp) in
    let es = entries_small (sizes p.body + 1) p.procedures wide_code in
    let as_many = length-entries_from (sizes p.body + 1) p.procedures in
    let known : IsKnown p ts top entries = record { small = small; entries = λ k. entry_small entries k es; printed = λ n past. printed_at (names p) (printed p) n os past } in
    let visited = both_true (list_all proper_numbers (body_visits p.body)) _ (sym (list_all-append proper_numbers (body_visits p.body) (flat_map (λ (q : Procedure). body_visits q.body) p.procedures)) ∙ proper.numbers) in
    let prints_are = length-append (body_prints p.body) (flat_map (λ (q : Procedure). body_prints q.body) p.procedures) in
    let body = both_true (proper_body p p.body) _ proper.body in
    let begun_are = code_begun p in
    let short_names = all_weaker IsName IsShort name_is_short (names p) ns in
    let short_texts = all_weaker IsText IsShort text_is_short (printed p) os in
    let short = all_both IsShort (names p) (printed p) short_names short_texts in
    record {
      few_texts = omega (arith, l.all, few, out);
      texts = (proper.name, short.1);
      indices = (let n = length-index_entries 1 p.indices in omega (arith, n, proper.few_indices), indices_fit_all ts top 1 0 p.indices named wide proper.indices (omega (arith, l.indices, l.arrays, l.scalars, l.procedures)) (omega (arith, proper.few_indices)));
      arrays = (let n = length-array_entries (length (index_names p)) p.arrays in omega (arith, n, proper.few_arrays), arrays_fit_all p small ts top (length (index_names p)) p.arrays named proper.arrays (omega (arith, l.arrays, l.scalars, l.procedures)));
      scalars = (let n = length-scalar_entries (length (array_names p)) p.scalars in omega (arith, n, proper.few_scalars), scalars_fit_all ts top (length (array_names p)) p.scalars named (omega (arith, l.scalars, l.procedures)));
      procedures = (let n = length-procedure_entries (length (scalar_names p)) entries in omega (arith, n, as_many, proper.few_procedures), procedures_fit_all ts top (length (scalar_names p)) entries named (omega (arith, l.procedures, as_many)) es);
      code = record {
        few = room;
        statements = omega (arith, begun_are, proper.few_statements);
        each = all_both (InstructionFits ts) bc (stop ∷ pc)
            (body_fits p ts top entries known [] false 0 top p.body body.0 visited.0 (omega (arith, wide_code)) (omega arith) (omega (arith, few, out, prints_are)))
            ((omega arith, tt), procedures_fit p ts top entries known (sizes p.body + 1) (top + length (body_prints p.body)) p.procedures proper.procedures visited.1 wide_code (omega arith) (omega (arith, few, out, prints_are)));
      };
    }

pub programs_have_files : ProgramsHaveFiles
programs_have_files p proper room = (have_file p proper room, refl)

pub one_file : OneFile
one_file p q first second room space same =
    let a = decode_again (bytes (flatten p)) (flatten p) (have_file p first room, refl) in
    let b = decode_again (bytes (flatten p)) (flatten q) (have_file q second space, same) in
    one_program p q (ok_is (flatten p) (flatten q) (sym a ∙ b))
