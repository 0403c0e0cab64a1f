-- Code that nests as procedures, and has no fault, is theirs.
use Rattle.std.proofs.Common.{◌≡◌, ℕ, suc, ◌+◌, ◌≤◌, List, [], ◌∷◌, ◌++◌, true, length, map, sum_by, refl, sym, ap, subst, ◌∙◌, arith, length-append}
use Rattle.std.specs.List.{AllByRecursion, list_all, flat_map}
use Rattle.std.proofs.lemmas.List.Concat.{flat_map-cons}
use Rattle.std.proofs.lemmas.List.Sums.{sum_by-cons}
use Rattle.sial_syntax.specs.Limits.{most_nesting}
use Rattle.sial_syntax.specs.Names.{is_name}
use Rattle.sial_syntax.specs.Numbering.{sizes, procedure_size, statements}
use Rattle.sial_syntax.specs.Proper.{body_nesting, proper_body}
use Rattle.sial_syntax.specs.Tree.{Procedure}
use Rattle.sip_tables.specs.Code.{instruction, body_code, procedures_code, entries_from}
use Rattle.sip_tables.specs.Texts.{body_prints}
use Rattle.sip_tables.specs.declared.instruction.Instruction.{Instruction}
use Rattle.sip_tables.specs.declared.instruction.Operation.TheVariants as op
use Rattle.table_verify.specs.Faults.{is_shallow}
use Rattle.table_verify.specs.Outline.{EndProcedure, outline}
use Rattle.table_verify.specs.Passing.{passes_procedure}
use Rattle.table_verify.specs.Things.{prints_in, begun_in}
use Rattle.table_verify.proofs.Closed.{both}
use Rattle.table_verify.proofs.Filling.{Known, Good, BeginsWith, begins_with_none, begins_with_both, IsClosed, closed}
use Rattle.table_verify.proofs.InLemmas.{in_left, in_right}
use Rattle.table_verify.proofs.JumpEnds.{body_told, procedures_told}
use Rattle.table_verify.proofs.OutlineLemmas.{at, procedures_marks}
use Rattle.table_verify.proofs.Passed.{together, at_most}
use Rattle.table_verify.proofs.ProgramFound.{IsShallow}
use Rattle.table_verify.proofs.FilledBodies.{Told, body_is}
use Rattle.table_verify.proofs.LastInstructions.{return_is}

-- what procedures print
abbrev pub all_prints : List Procedure → List (List ℕ)
all_prints qs = flat_map (λ (q : Procedure). body_prints q.body) qs

-- code is that of these procedures, which have these names and start where those do
pub record AreProcedures (k : Known) (place text : ℕ) (qs named : List Procedure) (code : List Instruction) : Type 0 where
  pub list : List Procedure
  pub is : code ≡ procedures_code k.entries place text list
  pub names : map (λ (q : Procedure). q.name) list ≡ map (λ (q : Procedure). q.name) named
  pub many : length list ≡ length named
  pub starts : entries_from place list ≡ entries_from place qs
  pub texts : BeginsWith k.texts text (all_prints list)
  pub proper : list_all (passes_procedure k.head) list ≡ true
  pub shallow : AllByRecursion IsShallow list
  pub begun_is : begun_in code ≡ sum_by (λ (q : Procedure). statements q.body) list
  pub printed_is : prints_in code ≡ length (all_prints list)

nothing : (code : List Instruction) → outline code ≡ [] → code ≡ []
nothing [] e = refl
nothing (i ∷ code) e = absurd cc

none_are : (k : Known) (place text : ℕ) → AreProcedures k place text [] [] []
none_are k place text = record { list = []; is = refl; names = refl; many = refl; starts = refl; texts = begins_with_none k.texts text; proper = refl; shallow = tt; begun_is = refl; printed_is = refl }

-- a procedure with its return, and the others
procedure_then : (k : Known) (place text : ℕ) (q n : Procedure) (qs named : List Procedure) (code : List Instruction) → body_nesting q.body ≤ most_nesting → is_name n.name ≡ true
    → (c : IsClosed k 0 place text (body_nesting q.body) (sizes q.body) op.Return code (procedures_marks qs)) → AreProcedures k (place + sizes q.body + 1) (text + length (body_prints c.body)) qs named c.rest
    → AreProcedures k place text (q ∷ qs) (n ∷ named) code
procedure_then k place text q n qs named code few name c others =
    let next = text + length (body_prints c.body) in
    let new : Procedure = record { name = n.name; body = c.body } in
    let bc = body_code k.entries place text c.body in
    let l = c.long_is in
    let d = c.deep_is in
    let cn = c.begun_is in
    let cm = c.printed_is in
    let an = others.begun_is in
    let am = others.printed_is in
    let from : place + sizes q.body + 1 ≡ place + procedure_size new = omega (arith, l) in
    let theirs : place + sizes q.body + 1 ≡ place + procedure_size q = omega arith in
    let all : all_prints (new ∷ others.list) ≡ body_prints c.body ++ all_prints others.list = flat_map-cons (λ (x : Procedure). body_prints x.body) new others.list in
    let ps : length (all_prints (new ∷ others.list)) ≡ length (body_prints c.body) + length (all_prints others.list) = ap (λ (ts : List (List ℕ)). length ts) all ∙ length-append (body_prints c.body) (all_prints others.list) in
    let count : begun_in code ≡ statements c.body + sum_by (λ (x : Procedure). statements x.body) others.list = cn ∙ ap (λ (m : ℕ). statements c.body + m) an in
    let sums = sum_by-cons (λ (x : Procedure). statements x.body) new others.list in
    record {
      list = new ∷ others.list;
      is = c.is ∙ ap (λ (cs : List Instruction). bc ++ (instruction 0 op.Return ∷ cs)) (others.is ∙ ap (λ (m : ℕ). procedures_code k.entries m next others.list) from);
      names = ap (λ (ns : List (List ℕ)). n.name ∷ ns) others.names;
      many = ap suc others.many;
      starts = ap (λ (m : ℕ). place ∷ entries_from m others.list) (sym from) ∙ (ap (λ (ns : List ℕ). place ∷ ns) others.starts ∙ ap (λ (m : ℕ). place ∷ entries_from m qs) theirs);
      texts = subst (λ (ts : List (List ℕ)). BeginsWith k.texts text ts) (sym all) (begins_with_both k.texts text (body_prints c.body) (all_prints others.list) c.texts others.texts);
      proper = together (passes_procedure k.head new) (list_all (passes_procedure k.head) others.list) (together (is_name n.name) (proper_body k.head c.body) name c.proper) others.proper;
      shallow = (omega (arith, d, few), others.shallow);
      begun_is = count ∙ sym sums;
      printed_is = omega (arith, cm, am, ps);
    }

pub procedures_are : (k : Known) (place text : ℕ) (qs named : List Procedure) (code : List Instruction) → length qs ≡ length named → list_all (λ (q : Procedure). is_shallow q.body) qs ≡ true → list_all (passes_procedure k.head) named ≡ true
    → outline code ≡ procedures_marks qs → Good k place text code → Told k (procedures_told place qs) → AreProcedures k place text qs named code
procedures_are k place text [] [] code many shallow proper e good told = subst (λ (c : List Instruction). AreProcedures k place text [] [] c) (sym (nothing code e)) (none_are k place text)
procedures_are k place text [] (n ∷ named) code many shallow proper e good told = absurd (omega (arith, many))
procedures_are k place text (q ∷ qs) [] code many shallow proper e good told = absurd (omega (arith, many))
procedures_are k place text (q ∷ qs) (n ∷ named) code many shallow proper e good told =
    let s = both (is_shallow q.body) (list_all (λ (x : Procedure). is_shallow x.body) qs) shallow in
    let p = both (passes_procedure k.head n) (list_all (passes_procedure k.head) named) proper in
    let name = both (is_name n.name) (proper_body k.head n.body) p.0 in
    let js = body_told place q.body in
    let others = procedures_told (place + sizes q.body + 1) qs in
    let b = body_is k q.body place text code (at 0 EndProcedure ∷ procedures_marks qs) e good (λ x i. told x (in_left x js others i)) in
    let c = closed k 0 place text (body_nesting q.body) (sizes q.body) EndProcedure op.Return code (procedures_marks qs) b (λ o r here. return_is o r) refl refl in
    procedure_then k place text q n qs named code (at_most (body_nesting q.body) most_nesting s.0) name.0 c
    (procedures_are k (place + sizes q.body + 1) (text + length (body_prints c.body)) qs named c.rest (omega (arith, many)) s.1 p.1 c.marks c.good (λ x i. told x (in_right x js others i)))
