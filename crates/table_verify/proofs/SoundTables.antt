-- Tables without a fault are those of a program.
use Rattle.std.proofs.Common.{◌≡◌, ℕ, ◌+◌, ◌<◌, ◌≤◌, List, [], ◌∷◌, ◌++◌, Bool, true, ◌&&◌, nat_lt, nat_le, length, drop, slice_index, Some, refl, sym, ap, subst, ◌∙◌, arith, append-nil, length-append}
use Rattle.std.specs.Prelude.{slice_get}
use Rattle.std.specs.List.{AllByRecursion, list_all}
use Rattle.std.proofs.Math.Seq.{drop-append_seam}
use Rattle.std.proofs.lemmas.Bool.{le-leb}
use Rattle.std.proofs.lemmas.List.{drop_all, length-map}
use Rattle.sial_syntax.specs.declared.index.IndexDecl.{IndexDecl}
use Rattle.sial_syntax.specs.Limits.{most_names, most_nesting, most_statements}
use Rattle.sial_syntax.specs.Names.{is_name}
use Rattle.sial_syntax.specs.Numbering.{sizes}
use Rattle.sial_syntax.specs.Proper.{body_nesting, has_index, has_length, proper_cond, proper_form, proper_body, all_statements}
use Rattle.sial_syntax.specs.Tree.{Tree, Procedure, Block, End, Then, Plain, Do, DoIn, Pardo, If, IfElse, Call}
use Rattle.sip_tables.specs.Code.{instruction, body_code, procedures_code, program_code, entries_from, entries_of}
use Rattle.sip_tables.specs.declared.instruction.Instruction.{Instruction}
use Rattle.sip_tables.specs.declared.instruction.Operation.TheVariants as op
use Rattle.sip_tables.specs.declared.procedure.ProcedureEntry.{ProcedureEntry}
use Rattle.sip_tables.specs.Entries.{procedure_entries}
use Rattle.sip_tables.specs.Flatten.{flatten}
use Rattle.sip_tables.specs.Lists.{Lists}
use Rattle.sip_tables.specs.Texts.{body_prints, names, scalar_names}
use Rattle.table_verify.specs.Faults.{NestAt, Nests, is_shallow}
use Rattle.table_verify.specs.NumberFaults.{OutsideIsRight, NumberAt}
use Rattle.table_verify.specs.Outline.{EndProgram}
use Rattle.table_verify.specs.Passing.{passes_procedure, passes_names, passes_bodies, passes_lists, passes, verified}
use Rattle.table_verify.specs.Reading.{entries_in, read}
use Rattle.table_verify.specs.Starting.{first_call}
use Rattle.table_verify.specs.TargetFaults.{TargetAt}
use Rattle.table_verify.proofs.Closed.{both}
use Rattle.table_verify.proofs.FilledBodies.{body_is}
use Rattle.table_verify.proofs.FilledProcedures.{all_prints, AreProcedures, procedures_are}
use Rattle.table_verify.proofs.Filling.{Known, AllRight, Good, good_at, begins_with_both, IsClosed, closed}
use Rattle.table_verify.proofs.InLemmas.{in_left, in_right}
use Rattle.table_verify.proofs.JumpEnds.{body_told, procedures_told, program_told, program_same}
use Rattle.table_verify.proofs.LastInstructions.{stop_is}
use Rattle.table_verify.proofs.NamesAgain.{FitsRange}
use Rattle.table_verify.proofs.NoFault.{nests, all_lead, all_known, all_start, get_within, calls_right, no_call, outside_declared, all_right}
use Rattle.table_verify.proofs.OutlineLemmas.{at, procedures_marks, program_outline}
use Rattle.table_verify.proofs.OutsideLemmas.{declared_found, proper_heads}
use Rattle.table_verify.proofs.Passed.{together, at_most, indices_fit}
use Rattle.table_verify.proofs.StartEnds.{starts_of, get_left}
use Rattle.table_verify.proofs.TablesAgain.{headed, tables_again}
use Rattle.table_verify.proofs.TablesFound.{IsShallowTree}
use Rattle.table_verify.proofs.TargetLemmas.{known}

-- ---- what is proper with one list of statements is so with another

-- a program that declares the same, with these procedures and statements
abbrev pub with_bodies : Tree → List Procedure → Block → Tree
with_bodies h qs b = record h { procedures = qs; body = b }

module _ (h : Tree) (qs : List Procedure) (b : Block) (many : length qs ≡ length h.procedures) where
  mutual
    form_same : (f : Plain) → proper_form (with_bodies h qs b) f ≡ proper_form h f
    form_same (Do index body) = ap (λ (x : Bool). has_index h index && x) (body_same body)
    form_same (DoIn sub index body) = ap (λ (x : Bool). has_index h sub && (has_index h index && x)) (body_same body)
    form_same (Pardo indices wheres body) = ap (λ (x : Bool). has_length 12 indices && (list_all (has_index h) indices && (list_all (proper_cond h) wheres && x))) (body_same body)
    form_same (If test body) = ap (λ (x : Bool). proper_cond h test && x) (body_same body)
    form_same (IfElse test body other) = ap (λ (x : Bool). proper_cond h test && (x && proper_body (with_bodies h qs b) other)) (body_same body) ∙ ap (λ (x : Bool). proper_cond h test && (proper_body h body && x)) (body_same other)
    form_same (Call procedure) = ap (λ (n : ℕ). nat_lt procedure n) many
    form_same _ = refl

    body_same : (c : Block) → proper_body (with_bodies h qs b) c ≡ proper_body h c
    body_same End = refl
    body_same (Then line f rest) = ap (λ (x : Bool). x && proper_body (with_bodies h qs b) rest) (form_same f) ∙ ap (λ (x : Bool). proper_form h f && x) (body_same rest)

  procedures_same : (rs : List Procedure) → list_all (passes_procedure h) rs ≡ true → list_all (passes_procedure (with_bodies h qs b)) rs ≡ true
  procedures_same [] e = refl
  procedures_same (r ∷ rs) e =
      let p = both (passes_procedure h r) (list_all (passes_procedure h) rs) e in
      together (passes_procedure (with_bodies h qs b) r) (list_all (passes_procedure (with_bodies h qs b)) rs) (ap (λ (x : Bool). is_name r.name && x) (body_same r.body) ∙ p.0) (procedures_same rs p.1)

-- ---- the program of the tables

-- the starts that all of the code tells are those of the entries
known_starts : (t : Lists) (p : Tree) → Nests t p → entries_in t.procedures ≡ entries_of p → (procedure : ℕ) → procedure < length t.procedures → slice_get (known t (length t.code)) procedure ≡ Some (slice_index (entries_in t.procedures) procedure)
known_starts t p n starts procedure few =
    let es = entries_in t.procedures in
    let long : length es ≡ length t.procedures = length-map t.procedures (λ (q : ProcedureEntry). q.entry) in
    let is : known t (length t.code) ≡ es ++ (starts_of p).last ∷ [] = all_known t p n ∙ ap (λ (ks : List ℕ). ks ++ (starts_of p).last ∷ []) (sym starts) in
    ap (λ (ks : List ℕ). slice_get ks procedure) is ∙ get_left es ((starts_of p).last ∷ []) procedure (slice_index es procedure) (get_within es procedure (omega (arith, few, long)))

-- what is known of the code: what one program declares, and where a program leads that nests so
abbrev known_of : Lists → Tree → Tree → Known
known_of t h p = record { head = h; texts = t.texts; entries = entries_in t.procedures; jumps = program_told p }

-- a program that has these tables and passes
pub record HasTables (t : Lists) : Type 0 where
  pub program : Tree
  pub is : flatten program ≡ t
  pub passing : passes program ≡ true
  pub shallow : IsShallowTree program
  pub fits : AllByRecursion (λ (d : IndexDecl). FitsRange d.range) program.indices

module _ (t : Lists) (h p : Tree) (outside : OutsideIsRight t h) (n : Nests t p) (many : length p.procedures ≡ length h.procedures) (starts : entries_in t.procedures ≡ entries_of p)
    (c : IsClosed (known_of t h p) 0 0 (length (names h)) (body_nesting p.body) (sizes p.body) op.Stop t.code (procedures_marks p.procedures))
    (qs : AreProcedures (known_of t h p) (sizes p.body + 1) (length (names h) + length (body_prints c.body)) p.procedures h.procedures c.rest) where
  -- its names are those that are declared
  names_same : names (with_bodies h qs.list c.body) ≡ names h
  names_same = ap (λ (ns : List (List ℕ)). scalar_names h ++ ns) qs.names

  -- procedures start where their entries say
  starts_same : entries_in t.procedures ≡ entries_of (with_bodies h qs.list c.body)
  starts_same = starts ∙ (sym qs.starts ∙ ap (λ (m : ℕ). entries_from (m + 1) qs.list) (sym c.long_is))

  -- it uses all texts
  texts_same : t.texts ≡ names h ++ (body_prints c.body ++ all_prints qs.list)
  texts_same =
      let d = outside.declares in
      let text = length (names h) in
      let ps = body_prints c.body ++ all_prints qs.list in
      let l = length-append (body_prints c.body) (all_prints qs.list) in
      let cm = c.printed_is in
      let qm = qs.printed_is in
      let used = outside.used in
      let all = begins_with_both t.texts text (body_prints c.body) (all_prints qs.list) c.texts qs.texts in
      let none : drop (text + length ps) t.texts ≡ [] = drop_all (text + length ps) t.texts (omega (arith, used, cm, qm, l)) in
      let behind : drop text t.texts ≡ d.others = ap (λ (ts : List (List ℕ)). drop text ts) d.texts ∙ drop-append_seam (names h) d.others in
      let others : d.others ≡ ps = sym behind ∙ (all ∙ (ap (λ (ts : List (List ℕ)). ps ++ ts) none ∙ append-nil ps)) in
      d.texts ∙ ap (λ (ts : List (List ℕ)). names h ++ ts) others

  -- its code is the code
  code_same : t.code ≡ (flatten (with_bodies h qs.list c.body)).code
  code_same =
      let es = entries_in t.procedures in
      let text = length (names h) in
      let next = text + length (body_prints c.body) in
      let behind : c.rest ≡ procedures_code es (sizes c.body + 1) next qs.list = qs.is ∙ ap (λ (m : ℕ). procedures_code es (m + 1) next qs.list) (sym c.long_is) in
      c.is ∙ ap (λ (cs : List Instruction). body_code es 0 text c.body ++ (instruction 0 op.Stop ∷ cs)) behind
      ∙ ap (λ (ks : List ℕ). body_code ks 0 text c.body ++ (instruction 0 op.Stop ∷ procedures_code ks (sizes c.body + 1) next qs.list)) starts_same
      ∙ ap (λ (m : ℕ). program_code (with_bodies h qs.list c.body) m) (sym (ap (λ (ns : List (List ℕ)). length ns) names_same))

  tables_same : flatten (with_bodies h qs.list c.body) ≡ t
  tables_same =
      let d = outside.declares in
      let texts : t.texts ≡ (flatten (with_bodies h qs.list c.body)).texts = texts_same ∙ ap (λ (ns : List (List ℕ)). ns ++ (body_prints c.body ++ all_prints qs.list)) (sym names_same) in
      let procedures : t.procedures ≡ (flatten (with_bodies h qs.list c.body)).procedures = d.procedures ∙ ap (λ (es : List ℕ). procedure_entries (length (scalar_names h)) es) starts_same in
      let all : t ≡ flatten (with_bodies h qs.list c.body) = λ i. record { texts = texts i; indices = d.indices i; arrays = d.arrays i; scalars = d.scalars i; procedures = procedures i; code = code_same i } in
      sym all

  all_pass : passes (with_bodies h qs.list c.body) ≡ true
  all_pass =
      let r = with_bodies h qs.list c.body in
      let proper = outside.declares.proper in
      let a = both (passes_lists h) (passes_names h && list_all (passes_procedure h) h.procedures) (proper_heads h proper) in
      let b = both (passes_names h) (list_all (passes_procedure h) h.procedures) a.1 in
      let lists : passes_lists r ≡ true =
      ap (λ (m : ℕ). nat_le (length h.indices) most_names && (nat_le (length h.arrays) most_names && (nat_le (length h.scalars) most_names && nat_le m most_names))) qs.many ∙ a.0 in
      let ps = procedures_same h qs.list c.body qs.many qs.list qs.proper in
      let body : proper_body r c.body ≡ true = body_same h qs.list c.body qs.many c.body ∙ c.proper in
      let cn = c.begun_is in
      let qn = qs.begun_is in
      let few = outside.few in
      let count : all_statements r ≤ most_statements = omega (arith, few, cn, qn) in
      let bodies : passes_bodies r ≡ true = together (list_all (passes_procedure r) qs.list) (proper_body r c.body) ps body in
      together (passes_lists r) (passes_names r && (passes_bodies r && nat_le (all_statements r) most_statements)) lists
      (together (passes_names r) (passes_bodies r && nat_le (all_statements r) most_statements) b.0
      (together (passes_bodies r) (nat_le (all_statements r) most_statements) bodies (le-leb (all_statements r) most_statements count)))

  rebuilt : HasTables t
  rebuilt =
      let s = both (is_shallow p.body) (list_all (λ (q : Procedure). is_shallow q.body) p.procedures) n.nested in
      let few = at_most (body_nesting p.body) most_nesting s.0 in
      let deep = c.deep_is in
      let proper = outside.declares.proper in
      let names_few = proper.few_indices in
      record {
        program = with_bodies h qs.list c.body;
        is = tables_same;
        passing = all_pass;
        shallow = record { body = omega (arith, few, deep); procedures = qs.shallow };
        fits = indices_fit 0 h.indices (omega (arith, names_few)) proper.indices;
      }

-- tables whose code is known to have no fault
known_tables : (t : Lists) (h p : Tree) → OutsideIsRight t h → Nests t p → entries_in t.procedures ≡ entries_of p → Good (known_of t h p) 0 (length (names h)) t.code → HasTables t
known_tables t h p outside n starts good =
    let k = known_of t h p in
    let text = length (names h) in
    let d = outside.declares in
    let s = both (is_shallow p.body) (list_all (λ (q : Procedure). is_shallow q.body) p.procedures) n.nested in
    let heads = both (passes_lists h) (passes_names h && list_all (passes_procedure h) h.procedures) (proper_heads h d.proper) in
    let named = both (passes_names h) (list_all (passes_procedure h) h.procedures) heads.1 in
    let many : length p.procedures ≡ length h.procedures = n.procedures ∙ d.many in
    let js = body_told 0 p.body in
    let others = procedures_told (sizes p.body + 1) p.procedures in
    let b = body_is k p.body 0 text t.code (at 0 EndProgram ∷ procedures_marks p.procedures) (sym n.all ∙ program_outline p) good (λ x i. in_left x js others i) in
    let c = closed k 0 0 text (body_nesting p.body) (sizes p.body) EndProgram op.Stop t.code (procedures_marks p.procedures) b (λ o r here. stop_is o r) refl refl in
    let next = text + length (body_prints c.body) in
    let place : 0 + sizes p.body + 1 ≡ sizes p.body + 1 = omega arith in
    let qs = procedures_are k (sizes p.body + 1) next p.procedures h.procedures c.rest many s.1 named.1 c.marks (good_at k (0 + sizes p.body + 1) (sizes p.body + 1) next next c.rest place refl c.good) (λ x i. in_right x js others i) in
    rebuilt t h p outside n many starts c qs

-- ---- the law

-- tables in which nesting breaks nowhere, nothing leads elsewhere, and all that is named is there, are those of a program
pub sound_tables : (t : Lists) → ((place : ℕ) → NestAt place t → ⊥) → ((place : ℕ) → TargetAt place t → ⊥) → ((place : ℕ) → NumberAt place t → ⊥) → HasTables t
sound_tables t no_nest no_target no_number =
    let x = nests t no_nest in
    let p = x.0 in
    let n = x.1 in
    let d = outside_declared t no_number in
    let f = declared_found t d.program d.next d.is in
    let h = headed d.program in
    let outside = f.right in
    let k = known_of t h p in
    let starts = all_start t p n no_target in
    let many : length h.procedures ≡ length t.procedures = sym outside.declares.many in
    let stands : (procedure : ℕ) → procedure < length h.procedures → slice_get (known t (length t.code)) procedure ≡ Some (slice_index (entries_in t.procedures) procedure) =
    λ procedure few. known_starts t p n starts procedure (omega (arith, few, many)) in
    let calls = calls_right k (known t (length t.code)) stands 0 t.code (ap (λ (m : ℕ). first_call m (known t (length t.code)) 0 t.code) many ∙ no_call t p n no_target) in
    let right = all_right t p n no_number d k refl refl in
    known_tables t h p outside n starts (record {
      right = subst (λ (m : ℕ). AllRight k m t.code) f.number right;
      calls = calls;
      leads = λ j i l. all_lead t p n no_target j ((program_same p).back j i);
    })

-- such tables are read, and what is read passes
verified_by : (t : Lists) (p : Tree) → read t ≡ Some p → passes p ≡ true → verified t ≡ Some p
unfolding verified
verified_by t p e h = rw (e, h) refl

pub sound_verified : (t : Lists) → HasTables t → (p : Tree) × (verified t ≡ Some p)
sound_verified t x = (x.program, verified_by t x.program (ap read (sym x.is) ∙ tables_again x.program x.shallow x.fits) x.passing)
