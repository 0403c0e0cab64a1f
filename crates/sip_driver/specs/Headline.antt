-- What `sip` promises, by the status that it answers, in the order of the README's table; the clauses of `sip` cite these parts.
--
-- `words` are those of the call, `load` is what one load of its files is, and `files` what writing alone does to them. `old` and `new` are these files, `before` and
-- `after` the output, each before and after the call; `told` and `counts` are what files tell of their bytes and counts of their
-- faults, `written` and `faults` the same of a sink. `says` is what a line that went out to the other sink is.
use Rattle.std.specs.Prelude.{◌≡◌, ℕ, ◌⊎◌, List, Option, String}
use Rattle.std.specs.declared.alloc.Global.{Global}
use Rattle.index_spaces.specs.declared.fault.SpaceFault.{SpaceFault}
use Rattle.input_text.specs.declared.fault.InputFault.{InputFault}
use Rattle.scalar_discipline.specs.declared.fault.RuleFault.{RuleFault}
use Rattle.shape_check.specs.declared.fault.ShapeFault.{ShapeFault}
use Rattle.sip_compile.specs.Compiling.{Compiles, ForTable}
use Rattle.sip_compile.specs.Filing.{CountsFiles, IsUnfiled}
use Rattle.sip_files.specs.Files.{CountsOnly, Folder, Rose}
use Rattle.sip_files.specs.Loading.{LoadOf}
use Rattle.sip_files.specs.Writing.{others_of}
use Rattle.sip_files.specs.declared.call.Call.{Call}
use Rattle.sip_files.specs.declared.call.Call.TheVariants.{Load}
use Rattle.sip_grant.specs.Granting.{HasBadInput, Misfits}
use Rattle.sip_grant.specs.Loads.{IsFirstUnread, IsUnread, IsUnreadable}
use Rattle.sip_grant.specs.Names.{Names, program_file, input_of, files_of}
use Rattle.sip_grant.specs.Programs.{BreaksShape, BreaksSides}
use Rattle.sip_grant.specs.Refusals.{ForProgram, ForTexts, Refuses, RefusesProgram}
use Rattle.sip_grant.specs.Syntax.{IsFaultOf}
use Rattle.sip_grant.specs.declared.refusal.Refusal.TheVariants.{OutOfMemory}
use Rattle.sip_grant.specs.declared.refusal.SyntaxFault.{SyntaxFault}
use Rattle.sip_words.specs.Plain.{Spells}
use Rattle.sip_words.specs.Seen.{texts}
use Rattle.sip_driver.specs.Asked.{ForCompile, ForEither, ForRun, SpellNothing, run_of}
use Rattle.sip_driver.specs.Prints.{Prints, PrintsPart, IsNotFirst}
use Rattle.sip_driver.specs.Says.{read_line, syntax_line, shape_line, side_line, input_line, space_line, first_line, line_of, write_line}

-- the words ask for a run; both files were read, the program and then its input, nothing else was loaded, the program keeps the rules,
-- and both files have this property
abbrev pub Texts : {F : Type 0} → List (String Global) → LoadOf F → (old new : F) → (List ℕ → List ℕ → Type 0) → Type 0
Texts words load old new fact = ForRun words (λ names. ForTexts load old new names fact)

-- the words ask for something to do with a program; it was read, nothing else was loaded, and its file has this property
abbrev pub Program : {F : Type 0} → List (String Global) → LoadOf F → (old new : F) → (List ℕ → Type 0) → Type 0
Program words load old new fact = ForEither words (λ program. ForProgram load old new program fact)

-- 0: both files were read, they are a program of the first profile and an input that the rules grant, and the output gained exactly the
-- lines that the program's sequential meaning prints
abbrev pub Done :
    {F K : Type 0} → List (String Global) → LoadOf F → (old new : F) → (written : K → Option (List ℕ)) → (before after : K) → Type 0
Done words load old new written before after = Texts words load old new (Prints (written before) (written after))

-- 0 as well: the program was read, it keeps the rules, behind it nothing but the table was written, and the table's file has exactly the bytes
-- of the program's tables; no output
abbrev pub Compiled :
    {F K : Type 0}
    → List (String Global)
    → LoadOf F
    → (files : (mid new : F) → Type 0)
    → (told : F → Option Folder)
    → (old new : F)
    → (written : K → Option (List ℕ))
    → (before after : K)
    → Type 0
Compiled words load files told old new written before after =
    ForCompile words (λ program table. Compiles load files told old new program table) × (written after ≡ written before)

-- 1: only where the words spell nothing plainly that the program does
abbrev pub IsUsage : List (String Global) → Type 0
IsUsage words = SpellNothing words

-- 2: the line names the first file that wasn't read, behind which none was loaded; the input is loaded only behind a program that keeps
-- the rules
abbrev pub Unread : {F : Type 0} → List (String Global) → LoadOf F → (old new : F) → (says : List ℕ → Type 0) → Type 0
Unread words load old new says =
    ForRun words (λ names. (name : List ℕ) × IsFirstUnread load old new (files_of names) name × says (read_line name))
    ⊎ ForCompile words (λ program table. IsUnread load old new (program_file program) × says (read_line program))

-- 3: the program's file is that of no program: its text has a fault, its first one, or it is a table file and has one; the line tells the
-- fault and its place
abbrev pub Unparsed : {F : Type 0} → List (String Global) → LoadOf F → (old new : F) → (says : List ℕ → Type 0) → Type 0
Unparsed words load old new says =
    (fault : SyntaxFault) × Program words load old new (λ program. IsFaultOf program fault) × says (syntax_line fault)

-- 3 as well: the rules grant the program and its input, but the program isn't of the first profile
abbrev pub NotFirst : {F : Type 0} → List (String Global) → LoadOf F → (old new : F) → (says : List ℕ → Type 0) → Type 0
NotFirst words load old new says = Texts words load old new IsNotFirst × says first_line

-- 4: the program breaks a shape rule, and the line tells the first one by line and then by number
abbrev pub Misshapen : {F : Type 0} → List (String Global) → LoadOf F → (old new : F) → (says : List ℕ → Type 0) → Type 0
Misshapen words load old new says =
    (fault : ShapeFault) × Program words load old new (λ program. BreaksShape program fault) × says (shape_line fault)

-- 4 as well: the program keeps the shape rules and breaks a side rule, and the line tells the first one
abbrev pub Missided : {F : Type 0} → List (String Global) → LoadOf F → (old new : F) → (says : List ℕ → Type 0) → Type 0
Missided words load old new says =
    (fault : RuleFault) × Program words load old new (λ program. BreaksSides program fault) × says (side_line fault)

-- 5: the input's text has a fault, its first one, which the line tells with its own line
abbrev pub Misread : {F : Type 0} → List (String Global) → LoadOf F → (old new : F) → (says : List ℕ → Type 0) → Type 0
Misread words load old new says =
    (fault : InputFault) × Texts words load old new (λ program input. HasBadInput program input fault) × says (input_line fault)

-- 5 as well: the input doesn't fit the program, and the line tells the first reason
abbrev pub Unfit : {F : Type 0} → List (String Global) → LoadOf F → (old new : F) → (says : List ℕ → Type 0) → Type 0
Unfit words load old new says =
    (fault : SpaceFault) × Texts words load old new (λ program input. Misfits program input fault) × says (space_line fault)

-- where a file that is told can't be read: the program's gives 2, and the input's gives 2 unless the program's file has a fault (3) or
-- breaks a rule (4); or 13 for want of memory
abbrev pub RefusesUnreadable : (status : ℕ) → List (String Global) → Option Folder → (unparsed unruled : Type 0) → Type 0
RefusesUnreadable status words told unparsed unruled =
    (names : Names)
    → Spells (texts words) (run_of names)
    → (IsUnreadable told (program_file names.program) → (status ≡ 2) ⊎ (status ≡ 13))
    × (IsUnreadable told (input_of names)
    → (status ≡ 2) ⊎ ((status ≡ 13) ⊎ (((status ≡ 3) × unparsed) ⊎ ((status ≡ 4) × unruled))))

-- 10: both files were read, and the output, whose count of faults rose, gained a first part of the lines
abbrev pub NotWritten :
    {F K : Type 0}
    → List (String Global)
    → LoadOf F
    → (old new : F)
    → (written : K → Option (List ℕ))
    → (faults : K → ℕ)
    → (before after : K)
    → (says : List ℕ → Type 0)
    → Type 0
NotWritten words load old new written faults before after says =
    Rose (faults before) (faults after) × Texts words load old new (PrintsPart (written before) (written after)) × says (line_of 10)

-- 10 as well: the program was read and keeps the rules, and its table's file couldn't be cleared, or has a first part of the table, as the
-- files' counts say; no output
abbrev pub NotFiled :
    {F K : Type 0}
    → List (String Global)
    → LoadOf F
    → (files : (mid new : F) → Type 0)
    → (told : F → Option Folder)
    → (counts : F → Call → ℕ)
    → (old new : F)
    → (written : K → Option (List ℕ))
    → (before after : K)
    → (says : List ℕ → Type 0)
    → Type 0
NotFiled {F} words load files told counts old new written before after says =
    ForCompile words (λ program table.
    (mid : F)
    × files mid new
    × ForTable load old mid program (λ whole. IsUnfiled (told new) table whole (counts mid) (counts new))
    × says (write_line table))
    × (written after ≡ written before)

-- 13: memory ran out: before any file was loaded; in or behind a load, with the output as it was; while a program ran, with a first part
-- of the lines; or before its table's file was touched
abbrev pub NoMemory :
    {F K : Type 0} → List (String Global) → LoadOf F → (old new : F) → (written : K → Option (List ℕ)) → (before after : K) → Type 0
NoMemory words load old new written before after =
    ((new ≡ old) × (written after ≡ written before))
    ⊎ ((ForRun words (λ names. Refuses load old new names OutOfMemory) × (written after ≡ written before))
    ⊎ (Texts words load old new (PrintsPart (written before) (written after))
    ⊎ (ForCompile words (λ program table. RefusesProgram load old new program OutOfMemory) × (written after ≡ written before))))

-- there is no other status
abbrev pub IsAnswer : (status : ℕ) → Type 0
IsAnswer status =
    (status ≡ 0)
    ⊎ ((status ≡ 1) ⊎ ((status ≡ 2) ⊎ ((status ≡ 3) ⊎ ((status ≡ 4) ⊎ ((status ≡ 5) ⊎ ((status ≡ 10) ⊎ (status ≡ 13)))))))

-- files tell what they told, unless the words ask for a table: then its file alone may have changed
abbrev pub KeepsOthers : List (String Global) → (old new : Option Folder) → Type 0
KeepsOthers words old new = (new ≡ old) ⊎ ForCompile words (λ program table. others_of new table ≡ others_of old table)

-- of the files' counts none falls and that of loads alone may rise, unless the words ask for a table: then those of clearing and adding may too
abbrev pub CountsOf : List (String Global) → (before now : Call → ℕ) → Type 0
CountsOf words before now = CountsOnly Load before now ⊎ ForCompile words (λ program table. CountsFiles before now)
