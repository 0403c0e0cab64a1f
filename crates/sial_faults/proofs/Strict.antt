-- Where a `call` has to name a procedure: what is read then, and what it says of where any name may be called.
use Rattle.std.proofs.Common.{◌≡◌, ℕ, ◌+◌, ◌*◌, List, [], ◌∷◌, ◌++◌, Bool, true, false, Option, Some, None, Result, Ok, Err, refl, sym, ap, ◌∙◌, subst, arith}
use Rattle.sial_syntax.specs.Limits.{most_names}
use Rattle.sial_syntax.specs.Tree.{Tree}
use Rattle.sial_parser.specs.Parsing.{◌>>=◌, Read, skip, name, is_line_end, is_sial, called, declarations, with_procs, proc_names, program_from, read_program}
use Rattle.sial_parser.specs.Scope.{Scope, thing_of, Declared, nothing}
use Rattle.sial_parser.specs.declared.fault.ParseFault.{ParseFault}
use Rattle.sial_parser.specs.declared.fault.ParseFault.TheVariants.{Undeclared}
use Rattle.sial_parser.specs.declared.thing.Thing.{Thing}
use Rattle.sial_parser.specs.declared.thing.Thing.TheVariants.{Index, Array, Scalar, Proc}
use Rattle.sial_parser.specs.declared.word.Symbol.{Symbol}
use Rattle.sial_parser.specs.declared.word.Symbol.TheVariants.{Name}
use Rattle.sial_parser.specs.declared.word.Word.{Word}
use Rattle.sial_faults.specs.Faults.{Past, at_start, unless, told, at_text_end, checked, fault_at, past_after}
use Rattle.sial_faults.specs.Forms.{after, program}
use Rattle.sial_faults.specs.Parts.{Part, sial, line_end}
use Rattle.sial_faults.specs.Parts as part
use Rattle.sial_faults.specs.Faults.{fault_in}
use Rattle.sial_faults.specs.Faults.{any_name, is_procedure}
use Rattle.sial_faults.proofs.Agreeing.{Agrees, LookAt, then_agrees, skip_agrees, name_agrees}
use Rattle.sial_faults.proofs.AgreePrograms.{declarations_agree, past_of}
use Rattle.sial_faults.proofs.AgreeProcedures.{procs_plain, from_agrees}

-- the title and the declarations
pub header : List Word → Read (List ℕ × Declared)
header ws = skip is_sial ws >>= λ ws. name ws >>= λ x. skip is_line_end x.1 >>= λ ws. declarations (3 * most_names + 1) nothing ws >>= λ d. Ok ((x.0, d.0), d.1)

-- what stands behind them
abbrev pub from_header : (strict : Bool) → (List ℕ × Declared) × List Word → Result Tree ParseFault
from_header strict h = program_from strict (with_procs h.0.1.scope 0 (proc_names h.1)) h.0.0 h.0.1 h.1

under : {A B C : Type 0} (r : Result A ParseFault) (f : A → Result C ParseFault) (h : A → Result B ParseFault) (g : B → Result C ParseFault) → ((x : A) → f x ≡ (h x >>= g)) → (r >>= f) ≡ ((r >>= h) >>= g)
under (Ok x) f h g e = e x
under (Err fault) f h g e = refl

pub program_form : (strict : Bool) (ws : List Word) → read_program strict ws ≡ (header ws >>= from_header strict)
unfolding read_program header
program_form strict ws =
    under (skip is_sial ws) (λ ws. name ws >>= λ x. skip is_line_end x.1 >>= λ ws. declarations (3 * most_names + 1) nothing ws >>= λ d. from_header strict ((x.0, d.0), d.1))
    (λ ws. name ws >>= λ x. skip is_line_end x.1 >>= λ ws. declarations (3 * most_names + 1) nothing ws >>= λ d. Ok ((x.0, d.0), d.1)) (from_header strict)
    (λ ws. under (name ws) (λ x. skip is_line_end x.1 >>= λ ws. declarations (3 * most_names + 1) nothing ws >>= λ d. from_header strict ((x.0, d.0), d.1)) (λ x. skip is_line_end x.1 >>= λ ws. declarations (3 * most_names + 1) nothing ws >>= λ d. Ok ((x.0, d.0), d.1)) (from_header strict)
    (λ x. under (skip is_line_end x.1) (λ ws. declarations (3 * most_names + 1) nothing ws >>= λ d. from_header strict ((x.0, d.0), d.1)) (λ ws. declarations (3 * most_names + 1) nothing ws >>= λ d. Ok ((x.0, d.0), d.1)) (from_header strict)
    (λ ws. under (declarations (3 * most_names + 1) nothing ws) (λ d. from_header strict ((x.0, d.0), d.1)) (λ d. Ok ((x.0, d.0), d.1)) (from_header strict) (λ d. refl))))

abbrev pub title_past : List ℕ × Declared → Past
title_past h = past_of h.1

abbrev pub title_parts : List ℕ × Declared → List Part
title_parts h = part.procedures ∷ part.named_end h.0 ∷ part.text_end ∷ []

pub header_agrees : (callable : (name : List ℕ) → Bool) (ws : List Word) → Agrees callable (checked callable at_start program ws) title_past title_parts (header ws)
unfolding header
header_agrees callable ws =
    skip_agrees callable title_past title_parts sial at_start (part.title ∷ []) ws (λ ws. name ws >>= λ x. skip is_line_end x.1 >>= λ ws. declarations (3 * most_names + 1) nothing ws >>= λ d. Ok ((x.0, d.0), d.1))
    (λ ws. name_agrees callable title_past title_parts part.title at_start [] ws (λ l x ws. skip is_line_end ws >>= λ ws. declarations (3 * most_names + 1) nothing ws >>= λ d. Ok ((x, d.0), d.1)) refl
    (λ l x ws. skip_agrees callable title_past title_parts line_end at_start (part.declarations ∷ part.named_end x ∷ part.text_end ∷ []) ws (λ ws. declarations (3 * most_names + 1) nothing ws >>= λ d. Ok ((x, d.0), d.1))
    (λ ws. then_agrees callable (checked callable at_start (part.declarations ∷ part.named_end x ∷ part.text_end ∷ []) ws) past_of (λ d. part.procedures ∷ part.named_end x ∷ part.text_end ∷ []) title_past title_parts (declarations (3 * most_names + 1) nothing ws) (λ d ws. Ok ((x, d), ws))
    (declarations_agree callable (part.named_end x ∷ part.text_end ∷ []) (3 * most_names + 1) nothing ws (record { indices = omega arith; arrays = omega arith; scalars = omega arith }) (omega arith)) (λ d ws. refl))))

looks_proc : (line : ℕ) (thing : Option Thing) → LookAt (is_procedure thing) line (called true line thing)
looks_proc line None = refl
looks_proc line (Some (Index i)) = refl
looks_proc line (Some (Array i)) = refl
looks_proc line (Some (Scalar i)) = refl
looks_proc line (Some (Proc i)) = tt

-- the names that are declared where the title and the declarations end so
abbrev pub scope_behind : Read (List ℕ × Declared) → Scope
scope_behind (Ok h) = with_procs h.0.1.scope 0 (proc_names h.1)
scope_behind (Err fault) = []

-- the names that may be called
abbrev pub callable_in : List Word → (name : List ℕ) → Bool
callable_in ws x = is_procedure (thing_of (scope_behind (header ws)) x)

strict_by : (r : Read (List ℕ × Declared)) (callable : (name : List ℕ) → Bool) (first : Result Past ParseFault) → ((x : List ℕ) → callable x ≡ is_procedure (thing_of (scope_behind r) x)) → Agrees callable first title_past title_parts r → fault_in first ≡ fault_in (r >>= from_header true)
strict_by (Ok h) callable first e agrees =
    ap fault_in agrees ∙ from_agrees callable true (with_procs h.0.1.scope 0 (proc_names h.1)) (λ l x. subst (λ b. LookAt b l (called true l (thing_of (with_procs h.0.1.scope 0 (proc_names h.1)) x))) (sym (e x)) (looks_proc l (thing_of (with_procs h.0.1.scope 0 (proc_names h.1)) x)))
    h.0.0 h.0.1 (procs_plain h.0.1.scope 0 (proc_names h.1)) h.1
strict_by (Err fault) callable first e agrees = ap fault_in agrees

-- where a `call` has to name a procedure, a reading from the first word on meets the first fault
pub meets_strict : (ws : List Word) → fault_in (checked (callable_in ws) at_start program ws) ≡ fault_in (read_program true ws)
meets_strict ws = strict_by (header ws) (callable_in ws) (checked (callable_in ws) at_start program ws) (λ x. refl) (header_agrees (callable_in ws) ws) ∙ ap fault_in (sym (program_form true ws))

-- where more names may be called, there is no other fault
module _ (c1 c2 : (name : List ℕ) → Bool) (more_callable : (x : List ℕ) → c1 x ≡ true → c2 x ≡ true) where
  called_more : (b c : Bool) (line : ℕ) → (b ≡ true → c ≡ true) → unless b (Undeclared line) None ≡ None → unless c (Undeclared line) None ≡ None
  called_more true c line more e = ap (λ c. unless c (Undeclared line) None) (more refl)
  called_more false c line more e = absurd cc

  fault_more : (past : Past) (p : Part) (line : ℕ) (what : Symbol) (behind : List Word) → fault_at c1 past p line what behind ≡ None → fault_at c2 past p line what behind ≡ None
  fault_more past part.called line (Name x) behind e = called_more (c1 x) (c2 x) line (more_callable x) e
  fault_more past p line what behind e = e

  told_more : (end : Past) (line : ℕ) (more : Option (List Part)) (f g : Option ParseFault) (go go2 : List Part → Result Past ParseFault) → (f ≡ None → g ≡ None) → ((more : List Part) → go more ≡ Ok end → go2 more ≡ Ok end) → told line more f go ≡ Ok end → told line more g go2 ≡ Ok end
  told_more end line None f g go go2 h k e = absurd cc
  told_more end line (Some more) (Some fault) g go go2 h k e = absurd cc
  told_more end line (Some more) None g go go2 h k e = ap (λ g. told line (Some more) g go2) (h refl) ∙ k more e

  pub none_more : (end past : Past) (parts : List Part) (ws : List Word) → checked c1 past parts ws ≡ Ok end → checked c2 past parts ws ≡ Ok end
  none_more end past [] [] e = e
  none_more end past (p ∷ ps) [] e = absurd cc
  none_more end past [] (w ∷ ws) e = absurd cc
  none_more end past (p ∷ ps) (w ∷ ws) e =
      told_more end w.line (at_text_end p ws (after p w.symbol)) (fault_at c1 past p w.line w.symbol ws) (fault_at c2 past p w.line w.symbol ws) (λ more. checked c1 (past_after p w.symbol past) (more ++ ps) ws) (λ more. checked c2 (past_after p w.symbol past) (more ++ ps) ws)
      (fault_more past p w.line w.symbol ws) (λ more. none_more end (past_after p w.symbol past) (more ++ ps) ws) e

any_more : (c : (name : List ℕ) → Bool) (x : List ℕ) → c x ≡ true → any_name x ≡ true
any_more c x e = refl

-- an answer without a fault
pub record Faultless (r : Result Past ParseFault) : Type 0 where
  pub end : Past
  pub is : r ≡ Ok end

pub no_fault : (r : Result Past ParseFault) → fault_in r ≡ None → Faultless r
no_fault (Ok end) e = record { end = end; is = refl }
no_fault (Err fault) e = absurd cc

-- what is read where a `call` has to name a procedure has no fault
pub read_none : (ws : List Word) (p : Tree) → read_program true ws ≡ Ok p → Faultless (checked any_name at_start program ws)
read_none ws p e =
    let h = no_fault (checked (callable_in ws) at_start program ws) (meets_strict ws ∙ ap fault_in e) in
    record { end = h.end; is = none_more (callable_in ws) any_name (any_more (callable_in ws)) h.end at_start program ws h.is }
