-- A program whose numbers fit is read again from its tables.
use Rattle.std.proofs.Common.{◌≡◌, ℕ, zero, suc, ◌+◌, ◌≤◌, List, [], ◌∷◌, ◌++◌, Bool, cond, length, map, drop, slice_index, Some, None, refl, sym, ap, ◌∙◌, arith, append_assoc, append-nil, length-append}
use Rattle.std.specs.List.{AllByRecursion, flat_map, enumerate_from}
use Rattle.std.proofs.lemmas.Bool.{eq-eqb}
use Rattle.std.proofs.lemmas.List.Concat.{flat_map-cons}
use Rattle.sial_syntax.specs.Limits.{most_nesting}
use Rattle.sial_syntax.specs.Numbering.{sizes, procedure_size}
use Rattle.sial_syntax.specs.declared.array.ArrayDecl.{ArrayDecl}
use Rattle.sial_syntax.specs.declared.index.IndexDecl.{IndexDecl}
use Rattle.sial_syntax.specs.Tree.{Tree, Procedure, Block, End}
use Rattle.sip_tables.specs.Code.{instruction, body_code, procedures_code, entries_from, entries_of, program_code}
use Rattle.sip_tables.specs.Entries.{procedure_entries}
use Rattle.sip_tables.specs.Flatten.{flatten}
use Rattle.sip_tables.specs.Lists.{Lists}
use Rattle.sip_tables.specs.Texts.{index_texts, body_prints, index_names, array_names, scalar_names, names, printed}
use Rattle.sip_tables.specs.declared.instruction.Instruction.{Instruction}
use Rattle.sip_tables.specs.declared.instruction.Operation.TheVariants as op
use Rattle.sip_tables.proofs.CodeLemmas.{length-body_code}
use Rattle.table_verify.specs.Rest.{Left, Read, text, text_of, numbered}
use Rattle.table_verify.specs.Closings.{stop, return_from}
use Rattle.table_verify.specs.Names.{each, index, array, named}
use Rattle.table_verify.specs.Statements.{body}
use Rattle.table_verify.specs.Reading.{start, entries_in, heads, procedure_of, filled, bodies, read}
use Rattle.table_verify.proofs.ProgramFound.{IsShallow, prints_of}
use Rattle.table_verify.proofs.TablesFound.{IsShallowTree}
use Rattle.table_verify.proofs.StatementsAgain.{state}
use Rattle.table_verify.proofs.BodiesAgain.{body_again}
use Rattle.table_verify.proofs.NamesAgain.{each_by, FitsRange, indices_again, arrays_again, scalars_again, emptied, procedures_again}

-- ---- procedures

return_again : (at text : ℕ) (code : List Instruction) (texts : List (List ℕ)) → return_from (state at text (instruction 0 op.Return ∷ code) texts) ≡ Some (state (at + 1) text code texts)
unfolding return_from
return_again at text code texts = refl

stop_again : (at text : ℕ) (code : List Instruction) (texts : List (List ℕ)) → stop (state at text (instruction 0 op.Stop ∷ code) texts) ≡ Some (state (at + 1) text code texts)
unfolding stop
stop_again at text code texts = refl

procedure_by : (entries : List ℕ) (most : ℕ) (name : List ℕ) (left : Left) (b : Block) (mid new : Left) → body entries most most_nesting left ≡ Some (b, mid) → return_from mid ≡ Some new → procedure_of entries most name left ≡ Some (record { name = name; body = b }, new)
unfolding procedure_of
procedure_by entries most name left b mid new first last = rw (first, last) refl

filled_by : (entries : List ℕ) (most k : ℕ) (q : Procedure) (left : Left) (r : Read Procedure) → slice_index entries k ≡ left.at → procedure_of entries most q.name left ≡ r → filled entries most (k, q) left ≡ r
filled_by entries most k q left r here e = ap (λ (b : Bool). cond b (procedure_of entries most q.name left) None) (eq-eqb (slice_index entries k) left.at here) ∙ e

-- what is left of a list begins with what stands there
there : (es : List ℕ) (k x : ℕ) (xs : List ℕ) → drop k es ≡ x ∷ xs → (slice_index es k ≡ x) × (drop (k + 1) es ≡ xs)
there [] zero x xs e = absurd cc
there [] (suc k) x xs e = absurd cc
there (y ∷ es) zero x xs e =
    let p : y ≡ x = cc in
    let q : es ≡ xs = cc in
    (p, q)
there (y ∷ es) (suc k) x xs e =
    let r = there es k x xs e in
    let next : suc k + 1 ≡ suc (k + 1) = omega arith in
    (r.0, ap (λ (n : ℕ). drop n (y ∷ es)) next ∙ r.1)

-- procedures of no more instructions than so many
abbrev pub AreSmall : (most : ℕ) → List Procedure → Type 0
AreSmall most qs = AllByRecursion (λ (q : Procedure). sizes q.body ≤ most) qs

-- somewhere nothing else is left
abbrev EndsAt : {D : Type 0} → (code : List Instruction) → (texts : List (List ℕ)) → Read D → D → Type 0
EndsAt code texts r d = (at : ℕ) × ((text : ℕ) × (r ≡ Some (d, state at text code texts)))

all_again : (entries : List ℕ) (most k : ℕ) (front : List Procedure) (at text : ℕ) (qs : List Procedure) (code : List Instruction) (texts : List (List ℕ)) → drop k entries ≡ entries_from at qs → AllByRecursion IsShallow qs → AreSmall most qs
    → EndsAt code texts (each (filled entries most) front (enumerate_from k (map emptied qs)) (state at text (procedures_code entries at text qs ++ code) (prints_of qs ++ texts))) (front ++ qs)
unfolding each
all_again entries most k front at text [] code texts starts shallow small = (at, (text, ap (λ (x : List Procedure). Some (x, state at text code texts)) (sym (append-nil front))))
all_again entries most k front at text (q ∷ qs) code texts starts shallow small =
    let e = filled entries most in
    let h = there entries k at (entries_from (at + procedure_size q) qs) starts in
    let len = length (body_prints q.body) in
    let bc = body_code entries at text q.body in
    let rc = procedures_code entries (at + procedure_size q) (text + len) qs in
    let ret = instruction 0 op.Return in
    let place : at + sizes q.body + 1 ≡ at + procedure_size q = omega arith in
    let whole = state at text ((bc ++ (ret ∷ rc)) ++ code) (prints_of (q ∷ qs) ++ texts) in
    let split : whole ≡ state at text (bc ++ (ret ∷ (rc ++ code))) (body_prints q.body ++ (prints_of qs ++ texts)) =
    ap (λ (c : List Instruction). state at text c (prints_of (q ∷ qs) ++ texts)) (append_assoc bc (ret ∷ rc) code)
    ∙ ap (λ (u : List (List ℕ)). state at text (bc ++ (ret ∷ (rc ++ code))) u) (ap (λ (u : List (List ℕ)). u ++ texts) (flat_map-cons (λ (x : Procedure). body_prints x.body) q qs) ∙ append_assoc (body_prints q.body) (prints_of qs) texts) in
    let one : procedure_of entries most q.name whole ≡ Some (q, state (at + procedure_size q) (text + len) (rc ++ code) (prints_of qs ++ texts)) =
    ap (procedure_of entries most q.name) split
    ∙ procedure_by entries most q.name _ q.body _ _ (body_again entries most most_nesting at text q.body (ret ∷ (rc ++ code)) (prints_of qs ++ texts) shallow.0 small.0 refl)
    (return_again (at + sizes q.body) (text + len) (rc ++ code) (prints_of qs ++ texts))
    ∙ ap (λ (n : ℕ). Some (q, state n (text + len) (rc ++ code) (prints_of qs ++ texts))) place in
    let rest = all_again entries most (k + 1) (front ++ q ∷ []) (at + procedure_size q) (text + len) qs code texts h.1 shallow.1 small.1 in (
      rest.0,
      (
        rest.1.0,
        each_by e front (k, emptied q) (enumerate_from (k + 1) (map emptied qs)) whole q _ _ (filled_by entries most k (emptied q) whole _ h.0 one) rest.1.1
            ∙ ap (λ (x : List Procedure). Some (x, state rest.0 rest.1.0 code texts)) (append_assoc front (q ∷ []) qs),
      ),
    )

-- ---- the name and what is declared

-- a program with no statement yet
abbrev pub headed : Tree → Tree
headed p = record p { procedures = map emptied p.procedures; body = End }

first_text : (t : Lists) (x : List ℕ) (rest : List (List ℕ)) → t.texts ≡ x ∷ rest → text (start t) ≡ Some (x, state 0 1 t.code rest)
first_text t x rest e = ap (λ (ts : List (List ℕ)). text_of (start t) ts) e

heads_by : (t : Lists) (name : List ℕ) (is : List IndexDecl) (ars : List ArrayDecl) (scs : List (List ℕ)) (qs : List Procedure) (l0 l1 l2 l3 l4 : Left) → text (start t) ≡ Some (name, l0) → each index [] t.indices l0 ≡ Some (is, l1)
    → each array [] t.arrays l1 ≡ Some (ars, l2) → each numbered [] t.scalars l2 ≡ Some (scs, l3) → each named [] t.procedures l3 ≡ Some (qs, l4)
    → heads t ≡ Some (record { name = name; indices = is; arrays = ars; scalars = scs; procedures = qs; body = End }, l4)
unfolding heads
heads_by t name is ars scs qs l0 l1 l2 l3 l4 e0 e1 e2 e3 e4 = rw (e0, e1, e2, e3, e4) refl

length-entries_from : (at : ℕ) (qs : List Procedure) → length (entries_from at qs) ≡ length qs
length-entries_from at [] = refl
length-entries_from at (q ∷ qs) = ap suc (length-entries_from (at + procedure_size q) qs)

-- tables that declare what a program does, with any first instructions, code and further texts
pub heads_of : (p : Tree) (entries : List ℕ) (code : List Instruction) (out : List (List ℕ)) → AllByRecursion (λ (d : IndexDecl). FitsRange d.range) p.indices → length entries ≡ length p.procedures
    → heads (record { texts = names p ++ out; indices = (flatten p).indices; arrays = (flatten p).arrays; scalars = (flatten p).scalars; procedures = procedure_entries (length (scalar_names p)) entries; code = code })
    ≡ Some (headed p, state 0 (length (names p)) code out)
heads_of p entries code out fits many =
    let t : Lists = record { texts = names p ++ out; indices = (flatten p).indices; arrays = (flatten p).arrays; scalars = (flatten p).scalars; procedures = procedure_entries (length (scalar_names p)) entries; code = code } in
    let is = flat_map index_texts p.indices in
    let ars = map (λ (a : ArrayDecl). a.name) p.arrays in
    let ns = map (λ (q : Procedure). q.name) p.procedures in
    let split : (((is ++ ars) ++ p.scalars) ++ ns) ++ out ≡ is ++ (ars ++ (p.scalars ++ (ns ++ out))) =
    append_assoc ((is ++ ars) ++ p.scalars) ns out ∙ append_assoc (is ++ ars) p.scalars (ns ++ out) ∙ append_assoc is ars (p.scalars ++ (ns ++ out)) in
    let s1 = length-append is ars in
    let s2 = length-append (is ++ ars) p.scalars in
    let s3 = length-append ((is ++ ars) ++ p.scalars) ns in
    let n1 : 1 + length is ≡ length (index_names p) = omega arith in
    let n2 : length (index_names p) + length ars ≡ length (array_names p) = omega (arith, s1) in
    let n3 : length (array_names p) + length p.scalars ≡ length (scalar_names p) = omega (arith, s2) in
    let n4 : length (scalar_names p) + length ns ≡ length (names p) = omega (arith, s3) in
    heads_by t p.name p.indices p.arrays p.scalars (map emptied p.procedures) _ _ _ _ _ (first_text t p.name (is ++ (ars ++ (p.scalars ++ (ns ++ out)))) (ap (λ (x : List (List ℕ)). p.name ∷ x) split))
    (indices_again [] 0 1 p.indices code (ars ++ (p.scalars ++ (ns ++ out))) fits ∙ ap (λ (n : ℕ). Some (p.indices, state 0 n code (ars ++ (p.scalars ++ (ns ++ out))))) n1)
    (arrays_again [] 0 (length (index_names p)) p.arrays code (p.scalars ++ (ns ++ out)) ∙ ap (λ (n : ℕ). Some (p.arrays, state 0 n code (p.scalars ++ (ns ++ out)))) n2)
    (scalars_again [] 0 (length (array_names p)) p.scalars code (ns ++ out) ∙ ap (λ (n : ℕ). Some (p.scalars, state 0 n code (ns ++ out))) n3)
    (procedures_again [] 0 (length (scalar_names p)) entries p.procedures code out many ∙ ap (λ (n : ℕ). Some (map emptied p.procedures, state 0 n code out)) n4)

heads_again : (p : Tree) → AllByRecursion (λ (d : IndexDecl). FitsRange d.range) p.indices → heads (flatten p) ≡ Some (headed p, state 0 (length (names p)) (flatten p).code (printed p))
heads_again p fits = heads_of p (entries_of p) (flatten p).code (printed p) fits (length-entries_from (sizes p.body + 1) p.procedures)

-- ---- statements

bodies_by : (entries : List ℕ) (most : ℕ) (p : Tree) (left : Left) (b : Block) (l0 l1 : Left) (qs : List Procedure) (l2 : Left) → body entries most most_nesting left ≡ Some (b, l0) → stop l0 ≡ Some l1
    → each (filled entries most) [] (enumerate_from 0 p.procedures) l1 ≡ Some (qs, l2) → bodies entries most p left ≡ Some (record p { procedures = qs; body = b }, l2)
unfolding bodies
bodies_by entries most p left b l0 l1 qs l2 e0 e1 e2 = rw (e0, e1, e2) refl

bodies_again : (most : ℕ) (p : Tree) (text : ℕ) → IsShallowTree p → sizes p.body ≤ most → AreSmall most p.procedures → EndsAt [] [] (bodies (entries_of p) most (headed p) (state 0 text (program_code p text) (printed p))) p
bodies_again most p text shallow small few =
    let entries = entries_of p in
    let len = length (body_prints p.body) in
    let pc = procedures_code entries (sizes p.body + 1) (text + len) p.procedures in
    let back = instruction 0 op.Stop ∷ pc in
    let place : 0 + sizes p.body ≡ sizes p.body = omega arith in
    let first : body entries most most_nesting (state 0 text (program_code p text) (printed p)) ≡ Some (p.body, state (sizes p.body) (text + len) back (prints_of p.procedures)) =
    body_again entries most most_nesting 0 text p.body back (prints_of p.procedures) shallow.body small refl ∙ ap (λ (n : ℕ). Some (p.body, state n (text + len) back (prints_of p.procedures))) place in
    let rest = all_again entries most 0 [] (sizes p.body + 1) (text + len) p.procedures [] [] refl shallow.procedures few in
    let closed : state (sizes p.body + 1) (text + len) pc (prints_of p.procedures) ≡ state (sizes p.body + 1) (text + len) (pc ++ []) (prints_of p.procedures ++ []) =
    ap (λ (c : List Instruction). state (sizes p.body + 1) (text + len) c (prints_of p.procedures)) (sym (append-nil pc)) ∙ ap (λ (u : List (List ℕ)). state (sizes p.body + 1) (text + len) (pc ++ []) u) (sym (append-nil (prints_of p.procedures))) in (
      rest.0,
      (
        rest.1.0,
        bodies_by entries most (headed p) _ p.body _ _ p.procedures _ first (stop_again (sizes p.body) (text + len) pc (prints_of p.procedures))
            (ap (each (filled entries most) [] (enumerate_from 0 (map emptied p.procedures))) closed ∙ rest.1.1),
      ),
    )

-- ---- whole tables

entries_again : (text : ℕ) (ns : List ℕ) → entries_in (procedure_entries text ns) ≡ ns
entries_again text [] = refl
entries_again text (n ∷ ns) = ap (λ (xs : List ℕ). n ∷ xs) (entries_again (text + 1) ns)

-- small procedures, where more instructions are allowed
small_still : (few more : ℕ) (qs : List Procedure) → few ≤ more → AreSmall few qs → AreSmall more qs
small_still few more [] le small = tt
small_still few more (q ∷ qs) le small = let first = small.0 in (omega (arith, first, le), small_still few more qs le small.1)

all_small : (entries : List ℕ) (at text : ℕ) (qs : List Procedure) → AreSmall (length (procedures_code entries at text qs)) qs
all_small entries at text [] = tt
all_small entries at text (q ∷ qs) =
    let bc = body_code entries at text q.body in
    let rc = procedures_code entries (at + procedure_size q) (text + length (body_prints q.body)) qs in
    let l = length-append bc (instruction 0 op.Return ∷ rc) in
    let m = length-body_code entries at text q.body in
    (omega (arith, l, m), small_still (length rc) (length (procedures_code entries at text (q ∷ qs))) qs (omega (arith, l)) (all_small entries (at + procedure_size q) (text + length (body_prints q.body)) qs))

read_by : (t : Lists) (p : Tree) (left : Left) (q : Tree) (at text : ℕ) → heads t ≡ Some (p, left) → bodies (entries_in t.procedures) (length t.code) p left ≡ Some (q, state at text [] []) → read t ≡ Some q
unfolding read
read_by t p left q at text e0 e1 = rw (e0, e1) refl

-- the tables of a program give it
pub tables_again : (p : Tree) → IsShallowTree p → AllByRecursion (λ (d : IndexDecl). FitsRange d.range) p.indices → read (flatten p) ≡ Some p
tables_again p shallow fits =
    let t = flatten p in
    let text = length (names p) in
    let entries = entries_of p in
    let bc = body_code entries 0 text p.body in
    let pc = procedures_code entries (sizes p.body + 1) (text + length (body_prints p.body)) p.procedures in
    let l = length-append bc (instruction 0 op.Stop ∷ pc) in
    let m = length-body_code entries 0 text p.body in
    let few = small_still (length pc) (length t.code) p.procedures (omega (arith, l)) (all_small entries (sizes p.body + 1) (text + length (body_prints p.body)) p.procedures) in
    let b = bodies_again (length t.code) p text shallow (omega (arith, l, m)) few in
    read_by t (headed p) _ p b.0 b.1.0 (heads_again p fits)
    (ap (λ (es : List ℕ). bodies es (length t.code) (headed p) (state 0 text t.code (printed p))) (entries_again (length (scalar_names p)) entries) ∙ b.1.1)
