-- A text is refused for the fault of its words: the first one, or else its first call of no procedure.
use Rattle.std.proofs.Common.{◌≡◌, ℕ, List, true, false, None, Result, Ok, Err, refl, sym, ap, ◌∙◌}
use Rattle.sial_lexer.proofs.WholeLemmas.{tokens_read}
use Rattle.sial_syntax.specs.Tree.{Tree}
use Rattle.sial_parser.specs.Parsing.{Read, read_program, after_strict, last_fault, program_of}
use Rattle.sial_parser.specs.Scope.{thing_of, Declared}
use Rattle.sial_parser.specs.Whole.{parse_tokens}
use Rattle.sial_parser.specs.Words.{words_of}
use Rattle.sial_parser.specs.declared.fault.ParseFault.{ParseFault}
use Rattle.sial_parser.specs.declared.word.Word.{Word}
use Rattle.sial_faults.specs.Faults.{Past, at_start, checked, any_name, fault_in, first_uncalled, declared_by, is_procedure, is_procedure_of, or_else}
use Rattle.sial_faults.specs.Laws.{FaultIsTold}
use Rattle.sial_faults.specs.Forms.{program}
use Rattle.sial_faults.proofs.Agreeing.{Agrees}
use Rattle.sial_faults.proofs.AgreePrograms.{past_of}
use Rattle.sial_faults.proofs.AgreeProcedures.{meets_first}
use Rattle.sial_faults.proofs.Calls.{left_at}
use Rattle.sial_faults.proofs.Strict.{header, header_agrees, title_past, title_parts, scope_behind, callable_in, meets_strict}
use Rattle.sial_faults.proofs.TextFaults.{words_told}
use Rattle.sial_faults.proofs.PlainParts.{known_is}
use Rattle.sial_faults.proofs.Uncalled.{procs_reached}

-- the scope behind the title and the declarations is what the text declares
by_header : (ws : List Word) (end : Past) (r : Read (List ℕ × Declared)) → Agrees any_name (checked any_name at_start program ws) title_past title_parts r → checked any_name at_start program ws ≡ Ok end → scope_behind r ≡ end.scope
by_header ws end (Ok h) a e = procs_reached end h.1 (past_of h.0.1) (title_parts h.0) refl (sym a ∙ e)
by_header ws end (Err fault) a e = absurd (let k : ◌≡◌ {A = Result Past ParseFault} (Err fault) (Ok end) = sym a ∙ e in cc)

scope_is : (ws : List Word) (end : Past) → checked any_name at_start program ws ≡ Ok end → scope_behind (header ws) ≡ declared_by ws
scope_is ws end e = by_header ws end (header ws) (header_agrees any_name ws) e ∙ sym (ap (λ (p : Past). p.scope) (known_is any_name end ws at_start program e))

-- where words have no first fault
calls_left : (ws : List Word) (end : Past) → checked any_name at_start program ws ≡ Ok end → fault_in (read_program true ws) ≡ first_uncalled (is_procedure_of ws) ws
calls_left ws end e =
    sym (meets_strict ws) ∙ left_at (callable_in ws) end ws at_start program refl e ∙ ap (λ s. first_uncalled (λ x. is_procedure (thing_of s x)) ws) (scope_is ws end e)

strict_stays : (ws : List Word) (r lenient : Result Tree ParseFault) → read_program false ws ≡ lenient → fault_in lenient ≡ None → fault_in (after_strict ws r) ≡ fault_in r
strict_stays ws (Ok p) lenient e f = refl
strict_stays ws (Err fault) (Ok p) e f = ap (λ r. fault_in (last_fault fault r)) e
strict_stays ws (Err fault) (Err other) e f = absurd cc

by_first : (ws : List Word) (r : Result Past ParseFault) → checked any_name at_start program ws ≡ r → fault_in (program_of ws) ≡ or_else (fault_in r) (first_uncalled (is_procedure_of ws) ws)
by_first ws (Err fault) e = ap fault_in (words_told ws fault (ap fault_in e))
by_first ws (Ok end) e = strict_stays ws (read_program true ws) (read_program false ws) refl (sym (meets_first ws) ∙ ap fault_in e) ∙ calls_left ws end e

pub fault_is_told : FaultIsTold
fault_is_told text tokens has =
    ap (λ r. fault_in (parse_tokens text r)) (tokens_read text tokens has) ∙ by_first (words_of text tokens) (checked any_name at_start program (words_of text tokens)) refl
