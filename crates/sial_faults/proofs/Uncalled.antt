-- The procedures that a text declares are those that its calls may name.
use Rattle.std.proofs.Common.{◌≡◌, ℕ, ◌+◌, List, [], ◌∷◌, ◌++◌, Bool, true, false, cond, not, nat_lt, ◌&&◌, Some, None, Ok, refl, sym, ap, ◌∙◌}
use Rattle.sial_syntax.specs.Limits.{most_names}
use Rattle.sial_parser.specs.Grammar.{at, begins_proc}
use Rattle.sial_parser.specs.Parsing.{is_some, is_new, with_procs, first_name, proc_names}
use Rattle.sial_parser.specs.Scope.{thing_of}
use Rattle.sial_parser.specs.declared.fault.Counted.TheVariants as counts
use Rattle.sial_parser.specs.declared.fault.ParseFault.{ParseFault}
use Rattle.sial_parser.specs.declared.fault.ParseFault.TheVariants.{Twice, TooMany}
use Rattle.sial_parser.specs.declared.thing.Thing.TheVariants.{Proc}
use Rattle.sial_parser.specs.declared.word.Symbol.{Symbol}
use Rattle.sial_parser.specs.declared.word.Symbol.TheVariants.{Name}
use Rattle.sial_parser.specs.declared.word.Word.{Word}
use Rattle.sial_faults.specs.Faults.{Past, unless, at_text_end, checked, fault_at, past_after, any_name}
use Rattle.sial_faults.specs.Forms.{says, where_so, less, statement, ended, stays, after_body, after_procedures, after_assign, after_bin_or_end, after, program}
use Rattle.sial_faults.specs.Parts.{Part, a_procedure, Ending, of_program, of_procedure, of_do, of_pardo, of_if, of_else, line_end, equals}
use Rattle.sial_faults.specs.Forms as form
use Rattle.sial_faults.specs.Parts as part
use Rattle.sial_faults.proofs.FaultPlaces.{end_some}
use Rattle.sial_faults.proofs.Standing.{Going, going}
use Rattle.sial_faults.proofs.PlainParts.{plain, all_plain, ready, names_due, plain_in, all_due, all_ready, join_plain, after_plain, proc_part, kept}

-- a name that was new
new_there : (b c : Bool) (line : ℕ) (fault : ParseFault) → cond b (Some (Twice line)) (unless c fault None) ≡ None → c && not b ≡ true
new_there true c line fault e = absurd cc
new_there false true line fault e = refl
new_there false false line fault e = absurd cc

due_end : (parts : List Part) (past end : Past) → checked any_name past parts [] ≡ Ok end → with_procs past.scope past.procs (names_due parts []) ≡ end.scope
due_end [] past end e = ap (λ (p : Past). p.scope) (let h : past ≡ end = cc in h)
due_end (p ∷ ps) past end e = absurd cc

-- the procedures that are declared ahead of their text are those of the text, where it has no other fault
module _ (end : Past) where
  abbrev Reaches : List Word → Type 0
  Reaches ws = (past : Past) (parts : List Part) → ready parts ≡ true → checked any_name past parts ws ≡ Ok end → with_procs past.scope past.procs (names_due parts ws) ≡ end.scope

  named_proc : (past : Past) (ps : List Part) (l : ℕ) (what : Symbol) (ws : List Word) → Reaches ws → all_plain ps ≡ true → (more : List Part) → after (part.new a_procedure) what ≡ Some more → fault_at any_name past (part.new a_procedure) l what ws ≡ None
      → checked any_name (past_after (part.new a_procedure) what past) (more ++ ps) ws ≡ Ok end → with_procs past.scope past.procs (first_name (at l what ∷ ws) ++ proc_names (at l what ∷ ws)) ≡ end.scope
  named_proc past ps l (Name x) ws go h more e f g =
      let is : more ≡ form.after_new a_procedure x = cc in
      let fresh : is_new past.scope past.procs x ≡ true = new_there (is_some (thing_of past.scope x)) (nat_lt past.procs most_names) l (TooMany l counts.Procs) f in
      ap (λ b. cond b (with_procs (past.scope ++ record { name = x; thing = Proc past.procs } ∷ []) (past.procs + 1) (proc_names ws)) (with_procs past.scope past.procs (proc_names ws))) fresh
      ∙ go (past_after (part.new a_procedure) (Name x) past) (form.after_new a_procedure x ++ ps) h (ap (λ m. checked any_name (past_after (part.new a_procedure) (Name x) past) (m ++ ps) ws) (sym is) ∙ g)
  named_proc past ps l _ ws go h more e f g = absurd cc

  at_proc : (past : Past) (p : Part) (ps : List Part) (w : Word) (ws : List Word) → Reaches ws → plain p ≡ true → all_plain ps ≡ true → (more : List Part) → after p w.symbol ≡ Some more → checked any_name (past_after p w.symbol past) (more ++ ps) ws ≡ Ok end
      → begins_proc w.symbol ≡ true → with_procs past.scope past.procs (first_name ws ++ proc_names ws) ≡ end.scope
  at_proc past p ps w ws go h k more e g b =
      let is = proc_part p w.symbol more past h b e in
      go past (part.new a_procedure ∷ part.procedures ∷ ps) k (ap (λ q. checked any_name q (part.new a_procedure ∷ part.procedures ∷ ps) ws) (sym is.1) ∙ ap (λ m. checked any_name (past_after p w.symbol past) (m ++ ps) ws) (sym is.0) ∙ g)

  elsewhere : (past : Past) (p : Part) (ps : List Part) (w : Word) (ws : List Word) → Reaches ws → plain p ≡ true → all_plain ps ≡ true → (more : List Part) → after p w.symbol ≡ Some more → checked any_name (past_after p w.symbol past) (more ++ ps) ws ≡ Ok end
      → begins_proc w.symbol ≡ false → with_procs past.scope past.procs (proc_names ws) ≡ end.scope
  elsewhere past p ps w ws go h k more e g b =
      let same = kept p w.symbol past h in
      let plain_more : all_plain more ≡ true = sym (ap plain_in e) ∙ after_plain p w.symbol h b in
      let all = join_plain more ps plain_more k in
      ap (λ s. with_procs s past.procs (proc_names ws)) (sym same.scope) ∙ ap (λ n. with_procs (past_after p w.symbol past).scope n (proc_names ws)) (sym same.procs)
      ∙ ap (λ xs. with_procs (past_after p w.symbol past).scope (past_after p w.symbol past).procs xs) (sym (all_due (more ++ ps) ws all)) ∙ go (past_after p w.symbol past) (more ++ ps) (all_ready (more ++ ps) all) g

  by_word : (b : Bool) (past : Past) (p : Part) (ps : List Part) (w : Word) (ws : List Word) → begins_proc w.symbol ≡ b → Reaches ws → plain p ≡ true → all_plain ps ≡ true → (more : List Part) → after p w.symbol ≡ Some more → checked any_name (past_after p w.symbol past) (more ++ ps) ws ≡ Ok end
      → with_procs past.scope past.procs (proc_names (w ∷ ws)) ≡ end.scope
  by_word true past p ps w ws b go h k more e g = ap (λ c. with_procs past.scope past.procs (cond c (first_name ws ++ proc_names ws) (proc_names ws))) b ∙ at_proc past p ps w ws go h k more e g b
  by_word false past p ps w ws b go h k more e g = ap (λ c. with_procs past.scope past.procs (cond c (first_name ws ++ proc_names ws) (proc_names ws))) b ∙ elsewhere past p ps w ws go h k more e g b

  by_part : (past : Past) (p : Part) (ps : List Part) (w : Word) (ws : List Word) → Reaches ws → ready (p ∷ ps) ≡ true → Going end w.line (at_text_end p ws (after p w.symbol)) (fault_at any_name past p w.line w.symbol ws) (λ more. checked any_name (past_after p w.symbol past) (more ++ ps) ws)
      → with_procs past.scope past.procs (names_due (p ∷ ps) (w ∷ ws)) ≡ end.scope
  by_part past (part.new a_procedure) ps w ws go h g = named_proc past ps w.line w.symbol ws go h g.more g.is g.none g.goes
  by_part past (part.new named) ps w ws go h g = absurd cc
  by_part past (part.enters named x) ps w ws go h g = absurd cc
  by_part past part.declarations ps w ws go h g = absurd cc
  by_part past part.title ps w ws go h g = absurd cc
  by_part past p ps w ws go h g = by_word (begins_proc w.symbol) past p ps w ws refl go refl h g.more (end_some p ws (after p w.symbol) g.more g.is) g.goes

  pub procs_reached : (ws : List Word) → Reaches ws
  procs_reached [] past parts h e = due_end parts past end e
  procs_reached (w ∷ ws) past [] h e = absurd cc
  procs_reached (w ∷ ws) past (p ∷ ps) h e =
      by_part past p ps w ws (procs_reached ws) h (going end w.line (at_text_end p ws (after p w.symbol)) (fault_at any_name past p w.line w.symbol ws) (λ more. checked any_name (past_after p w.symbol past) (more ++ ps) ws) e)
