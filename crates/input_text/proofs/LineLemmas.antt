-- What is read of lines is what they say, and their first fault.
use Rattle.std.proofs.Common.{◌≡◌, ℕ, ◌+◌, List, [], ◌∷◌, Option, Some, None, Result, Ok, Err, refl, sym, ap, ◌∙◌, subst, inl, inr}
use Rattle.std.specs.Prelude.{IfOk, IfErr}
use Rattle.input_text.specs.LineReading.{by_wrong, add_said, after_line, add_lines, Fails, Gives}
use Rattle.input_text.specs.Lines.{LeadTo, HaveFault, IsWrong, fault_at}
use Rattle.input_text.specs.Texts.{TellsOf}
use Rattle.input_text.specs.declared.fault.InputFault.{InputFault}
use Rattle.input_text.specs.declared.fault.InputFault.TheVariants as fault
use Rattle.input_text.specs.declared.fault.Wrong.{Wrong}
use Rattle.input_text.specs.declared.fault.Wrong.TheVariants.{BadLine, TooWide, Twice, TooMany}

-- lines whose readings are what they say, and never wrong by saying nothing
pub record AreRead {G S : Type 0} (Says : List ℕ → S → Type 0) (wrong : G → S → Option Wrong) (said_in : List ℕ → Option S) : Type 0 where
  pub again : (line : List ℕ) (said : S) → Says line said → said_in line ≡ Some said
  pub says : (line : List ℕ) (said : S) → said_in line ≡ Some said → Says line said
  pub never : (g : G) (said : S) → wrong g said ≡ Some BadLine → ⊥

module _ {G S : Type 0} (Says : List ℕ → S → Type 0) (wrong : G → S → Option Wrong) (added : G → ℕ → S → G) (said_in : List ℕ → Option S) (read : AreRead Says wrong said_in) where
  -- what is read of a line
  abbrev line_read : G → ℕ → List ℕ → Result G InputFault
  line_read g n line = add_said wrong added g n (said_in line)

  -- where nothing is read, a line says nothing
  says_nothing : (line : List ℕ) → said_in line ≡ None → (said : S) → Says line said → ⊥
  says_nothing line e said h = let again = read.again line said h in absurd cc

  -- what is read of lines is right of them
  abbrev IsRight : Result G InputFault → ℕ → G → List (List ℕ) → Type 0
  IsRight (Ok end) n g lines = LeadTo Says wrong added n g lines end
  IsRight (Err fault) n g lines = HaveFault Says wrong added n g lines fault

  is_wrong : (g : G) (line : List ℕ) (said : S) (what : Wrong) → Says line said → wrong g said ≡ Some what → IsWrong Says wrong g line what
  is_wrong g line said BadLine h e = absurd (read.never g said e)
  is_wrong g line said TooWide h e = (said, h, e)
  is_wrong g line said Twice h e = (said, h, e)
  is_wrong g line said TooMany h e = (said, h, e)

  -- a line that adds, and the lines behind it
  goes_on : (n : ℕ) (g : G) (line : List ℕ) (lines : List (List ℕ)) (said : S) (rest : Result G InputFault) → Says line said → wrong g said ≡ None → IsRight rest (n + 1) (added g n said) lines → IsRight rest n g (line ∷ lines)
  goes_on n g line lines said (Ok end) h e right = (said, h, e, right)
  goes_on n g line lines said (Err fault) h e right = inr (said, h, e, right)

  by_what : (n : ℕ) (g : G) (line : List ℕ) (lines : List (List ℕ)) (said : S) (what : Option Wrong) → Says line said → wrong g said ≡ what
      → ((h : G) → IsRight (add_lines line_read (n + 1) h lines) (n + 1) h lines) → IsRight (after_line (λ h. add_lines line_read (n + 1) h lines) (by_wrong added g n said what)) n g (line ∷ lines)
  by_what n g line lines said None h e go = goes_on n g line lines said (add_lines line_read (n + 1) (added g n said) lines) h e (go (added g n said))
  by_what n g line lines said (Some what) h e go = inl (what, is_wrong g line said what h e, refl)

  by_said : (n : ℕ) (g : G) (line : List ℕ) (lines : List (List ℕ)) (said : Option S) → said_in line ≡ said
      → ((h : G) → IsRight (add_lines line_read (n + 1) h lines) (n + 1) h lines) → IsRight (after_line (λ h. add_lines line_read (n + 1) h lines) (add_said wrong added g n said)) n g (line ∷ lines)
  by_said n g line lines None e go = inl (BadLine, says_nothing line e, refl)
  by_said n g line lines (Some said) e go = by_what n g line lines said (wrong g said) (read.says line said e) refl go

  right : (n : ℕ) (g : G) (lines : List (List ℕ)) → IsRight (add_lines line_read n g lines) n g lines
  right n g [] = refl
  right n g (line ∷ lines) = by_said n g line lines (said_in line) refl (λ h. right (n + 1) h lines)

  -- and what lines say is read, and their first fault
  said_line : (n : ℕ) (g : G) (line : List ℕ) (said : S) (what : Option Wrong) → Says line said → wrong g said ≡ what → line_read g n line ≡ by_wrong added g n said what
  said_line n g line said what h e = ap (add_said wrong added g n) (read.again line said h) ∙ ap (by_wrong added g n said) e

  nothing_by : (n : ℕ) (g : G) (line : List ℕ) (said : Option S) → said_in line ≡ said → ((s : S) → Says line s → ⊥) → add_said wrong added g n said ≡ Err (fault_at n BadLine)
  nothing_by n g line None e none = refl
  nothing_by n g line (Some said) e none = absurd (none said (read.says line said e))

  wrong_line : (n : ℕ) (g : G) (line : List ℕ) (what : Wrong) → IsWrong Says wrong g line what → line_read g n line ≡ Err (fault_at n what)
  wrong_line n g line BadLine is = nothing_by n g line (said_in line) refl is
  wrong_line n g line TooWide is = said_line n g line is.0 (Some TooWide) is.1 is.2
  wrong_line n g line Twice is = said_line n g line is.0 (Some Twice) is.1 is.2
  wrong_line n g line TooMany is = said_line n g line is.0 (Some TooMany) is.1 is.2

  pub leads_again : (n : ℕ) (g end : G) (lines : List (List ℕ)) → LeadTo Says wrong added n g lines end → add_lines line_read n g lines ≡ Ok end
  leads_again n g end [] h = ap Ok (sym h)
  leads_again n g end (line ∷ lines) h =
      ap (after_line (λ x. add_lines line_read (n + 1) x lines)) (said_line n g line h.0 None h.1 h.2) ∙ leads_again (n + 1) (added g n h.0) end lines h.3

  pub fault_again : (n : ℕ) (g : G) (lines : List (List ℕ)) (fault : InputFault) → HaveFault Says wrong added n g lines fault → add_lines line_read n g lines ≡ Err fault
  fault_again n g [] fault h = absurd h
  fault_again n g (line ∷ lines) fault (inl h) = ap (after_line (λ x. add_lines line_read (n + 1) x lines)) (wrong_line n g line h.0 h.1) ∙ ap Err (sym h.2)
  fault_again n g (line ∷ lines) fault (inr h) =
      ap (after_line (λ x. add_lines line_read (n + 1) x lines)) (said_line n g line h.0 None h.1 h.2) ∙ fault_again (n + 1) (added g n h.0) lines fault h.3

  module _ (g : G) (lines : List (List ℕ)) where
    fault_found : (fault : InputFault) → add_lines line_read 1 g lines ≡ Err fault → HaveFault Says wrong added 1 g lines fault
    fault_found fault e = subst (λ r. IsRight r 1 g lines) e (right 1 g lines)

    tells : (fault : InputFault) → Fails fault (add_lines line_read 1 g lines) → TellsOf (HaveFault Says wrong added 1 g lines) fault
    tells fault.OutOfMemory h = tt
    tells (fault.BadLine n) h = fault_found (fault.BadLine n) h
    tells (fault.TooWide n) h = fault_found (fault.TooWide n) h
    tells (fault.Twice n) h = fault_found (fault.Twice n) h
    tells (fault.TooMany n) h = fault_found (fault.TooMany n) h

    -- an answer that gives what is read of lines gives what they lead to, or their fault
    pub answer_found : {X : Type 0} (view : X → G) (result : Result X InputFault) → Gives view result (add_lines line_read 1 g lines) → IfOk result (λ x. LeadTo Says wrong added 1 g lines (view x))
    answer_found view (Ok x) h = subst (λ r. IsRight r 1 g lines) h (right 1 g lines)
    answer_found view (Err fault) h = tt

    pub answer_fault : {X : Type 0} (view : X → G) (result : Result X InputFault) → Gives view result (add_lines line_read 1 g lines) → IfErr result (TellsOf (HaveFault Says wrong added 1 g lines))
    answer_fault view (Ok x) h = tt
    answer_fault view (Err fault) h = tells fault h

-- and what is read otherwise is what such an answer gives
pub answer_only : {G X : Type 0} (view : X → G) (result : Result X InputFault) (read other : Result G InputFault) → read ≡ other → Gives view result read → Gives view result other
answer_only {G = G} view result read other e h = subst (λ (r : Result G InputFault). Gives view result r) e h
