-- What a call answers, after which loads and with which output.
use Rattle.std.specs.Prelude.{◌≡◌, ◌≢◌, ◌⊎◌, ℕ, List, Option}
use Rattle.first_profile.specs.FirstTree.{IsFirstTree}
use Rattle.index_spaces.specs.declared.fault.SpaceFault.{SpaceFault}
use Rattle.input_text.specs.declared.fault.InputFault.{InputFault}
use Rattle.scalar_discipline.specs.declared.fault.RuleFault.{RuleFault}
use Rattle.shape_check.specs.declared.fault.ShapeFault.{ShapeFault}
use Rattle.sial_syntax.specs.Tree.{tree}
use Rattle.sip_compile.specs.Compiling.{Compiles, ForTable}
use Rattle.sip_compile.specs.Filing.{IsUnfiled}
use Rattle.sip_files.specs.Files.{Folder, Rose}
use Rattle.sip_files.specs.Loading.{LoadOf}
use Rattle.sip_files.specs.Sink.{Gains, GainsPart}
use Rattle.sip_files.specs.declared.call.Call.{Call}
use Rattle.sip_grant.specs.Granting.{HasBadInput, Misfits}
use Rattle.sip_grant.specs.Loads.{IsFirstUnread, IsUnread, IsUnreadable}
use Rattle.sip_grant.specs.Names.{Names, program_file, input_of, files_of}
use Rattle.sip_grant.specs.Programs.{BreaksShape, BreaksSides}
use Rattle.sip_grant.specs.Refusals.{ForProgram, ForTexts, Refuses, RefusesProgram}
use Rattle.sip_grant.specs.Syntax.{IsFaultOf}
use Rattle.sip_grant.specs.declared.refusal.Refusal.{Refusal}
use Rattle.sip_grant.specs.declared.refusal.SyntaxFault.{SyntaxFault}
use Rattle.sip_grant.specs.declared.refusal.Refusal.TheVariants as no
use Rattle.sip_setting.specs.Printing.{printed_text}
use Rattle.sip_setting.specs.Seen.{setting_of}
use Rattle.sip_setting.specs.declared.granted.Granted.{Granted}
use Rattle.sip_driver.specs.Prints.{Prints, PrintsPart, IsNotFirst}
use Rattle.sip_driver.specs.Says.{read_line, write_line, syntax_line, shape_line, side_line, input_line, space_line, first_line, line_of}
use Rattle.sip_driver.specs.declared.answer.Answer.{Answer}
use Rattle.sip_driver.specs.declared.answer.Answer.TheVariants.{Done, Refused, NotFirst, NotWritten, OutOfMemory}

-- what an answer says: the loads that came before it, and what the output gained
abbrev pub Performs :
    {F K : Type 0}
    → LoadOf F
    → (old new : F)
    → Names
    → (written : K → Option (List ℕ))
    → (faults : K → ℕ)
    → (before after : K)
    → Answer
    → Type 0
Performs load old new names written faults before after Done =
    ForTexts load old new names (Prints (written before) (written after))
Performs load old new names written faults before after (Refused refusal) =
    Refuses load old new names refusal × (written after ≡ written before)
Performs load old new names written faults before after NotFirst =
    ForTexts load old new names IsNotFirst × (written after ≡ written before)
Performs load old new names written faults before after NotWritten =
    Rose (faults before) (faults after) × ForTexts load old new names (PrintsPart (written before) (written after))
Performs load old new names written faults before after OutOfMemory =
    ForTexts load old new names (PrintsPart (written before) (written after))

-- the status of a refusal
abbrev pub status_of : Refusal → ℕ
status_of no.NoProgram = 2
status_of (no.NoTree fault) = 3
status_of (no.Shape fault) = 4
status_of (no.Sides fault) = 4
status_of no.NoInput = 2
status_of (no.BadInput fault) = 5
status_of (no.Unfit fault) = 5
status_of no.OutOfMemory = 13

-- the line of a refusal
abbrev pub line_on : Names → Refusal → List ℕ
line_on names no.NoProgram = read_line names.program
line_on names (no.NoTree fault) = syntax_line fault
line_on names (no.Shape fault) = shape_line fault
line_on names (no.Sides fault) = side_line fault
line_on names no.NoInput = read_line names.input
line_on names (no.BadInput fault) = input_line fault
line_on names (no.Unfit fault) = space_line fault
line_on names no.OutOfMemory = line_of 13

-- what an answer says of a granted program: whether it is of the first profile, and what the output gained
abbrev pub Runs : {K : Type 0} → Granted → (written : K → Option (List ℕ)) → (faults : K → ℕ) → (before after : K) → Answer → Type 0
Runs job written faults before after Done =
    IsFirstTree (tree job.program) × Gains (written before) (written after) (printed_text (setting_of job))
Runs job written faults before after (Refused refusal) = ⊥
Runs job written faults before after NotFirst = (IsFirstTree (tree job.program) → ⊥) × (written after ≡ written before)
Runs job written faults before after NotWritten =
    Rose (faults before) (faults after)
    × IsFirstTree (tree job.program)
    × GainsPart (written before) (written after) (printed_text (setting_of job))
Runs job written faults before after OutOfMemory =
    IsFirstTree (tree job.program) × GainsPart (written before) (written after) (printed_text (setting_of job))

-- what the status of a run says, by the files' names
pub record RunAnswers
    {F K : Type 0}
    (load : LoadOf F)
    (told : Option Folder)
    (old new : F)
    (names : Names)
    (written : K → Option (List ℕ))
    (faults : K → ℕ)
    (before after : K)
    (says : List ℕ → Type 0)
    (status : ℕ) : Type 0 where
  pub done : status ≡ 0 → ForTexts load old new names (Prints (written before) (written after))
  pub unread : status ≡ 2 → (name : List ℕ) × IsFirstUnread load old new (files_of names) name × says (read_line name)
  pub syntax : status ≡ 3
      → ((fault : SyntaxFault) × ForProgram load old new names.program (λ program. IsFaultOf program fault) × says (syntax_line fault))
      ⊎ (ForTexts load old new names IsNotFirst × says first_line)
  pub rule : status ≡ 4
      → ((fault : ShapeFault) × ForProgram load old new names.program (λ program. BreaksShape program fault) × says (shape_line fault))
      ⊎ ((fault : RuleFault) × ForProgram load old new names.program (λ program. BreaksSides program fault) × says (side_line fault))
  pub input : status ≡ 5
      → ((fault : InputFault) × ForTexts load old new names (λ program input. HasBadInput program input fault) × says (input_line fault))
      ⊎ ((fault : SpaceFault) × ForTexts load old new names (λ program input. Misfits program input fault) × says (space_line fault))
  pub not_written : status ≡ 10
      → Rose (faults before) (faults after) × ForTexts load old new names (PrintsPart (written before) (written after)) × says (line_of 10)
  pub memory : status ≡ 13
      → (Refuses load old new names no.OutOfMemory × (written after ≡ written before))
      ⊎ ForTexts load old new names (PrintsPart (written before) (written after))
  pub line : (status ≡ 0) ⊎ (status ≡ 13) → says (line_of status)
  pub program_unreadable : IsUnreadable told (program_file names.program) → (status ≡ 2) ⊎ (status ≡ 13)
  pub input_unreadable : IsUnreadable told (input_of names)
      → (status ≡ 2)
      ⊎ ((status ≡ 13)
      ⊎ (((status ≡ 3) × ((fault : SyntaxFault) × ForProgram load old new names.program (λ program. IsFaultOf program fault) × says (syntax_line fault)))
      ⊎ ((status ≡ 4)
      × (((fault : ShapeFault) × ForProgram load old new names.program (λ program. BreaksShape program fault) × says (shape_line fault))
      ⊎ ((fault : RuleFault) × ForProgram load old new names.program (λ program. BreaksSides program fault) × says (side_line fault))))))
  pub answers : (status ≡ 0) ⊎ ((status ≡ 2) ⊎ ((status ≡ 3) ⊎ ((status ≡ 4) ⊎ ((status ≡ 5) ⊎ ((status ≡ 10) ⊎ (status ≡ 13))))))
  pub kept : status ≢ 0 → status ≢ 10 → status ≢ 13 → written after ≡ written before

-- what the status of a compilation says, by the files' names
pub record CompileAnswers
    {F : Type 0}
    (load : LoadOf F)
    (files : (mid new : F) → Type 0)
    (told : F → Option Folder)
    (counts : F → Call → ℕ)
    (old new : F)
    (program table : List ℕ)
    (says : List ℕ → Type 0)
    (status : ℕ) : Type 0 where
  pub done : status ≡ 0 → Compiles load files told old new program table
  pub unread : status ≡ 2 → IsUnread load old new (program_file program) × says (read_line program)
  pub syntax : status ≡ 3 → (fault : SyntaxFault) × ForProgram load old new program (λ text. IsFaultOf text fault) × says (syntax_line fault)
  pub rule : status ≡ 4
      → ((fault : ShapeFault) × ForProgram load old new program (λ text. BreaksShape text fault) × says (shape_line fault))
      ⊎ ((fault : RuleFault) × ForProgram load old new program (λ text. BreaksSides text fault) × says (side_line fault))
  pub not_filed : status ≡ 10
      → (mid : F)
      × files mid new
      × ForTable load old mid program (λ whole. IsUnfiled (told new) table whole (counts mid) (counts new))
      × says (write_line table)
  pub memory : status ≡ 13 → RefusesProgram load old new program no.OutOfMemory
  pub line : (status ≡ 0) ⊎ (status ≡ 13) → says (line_of status)
  pub answers : (status ≡ 0) ⊎ ((status ≡ 2) ⊎ ((status ≡ 3) ⊎ ((status ≡ 4) ⊎ ((status ≡ 10) ⊎ (status ≡ 13)))))
  pub kept : status ≢ 0 → status ≢ 10 → told new ≡ told old
