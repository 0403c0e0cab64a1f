-- The texts of inputs, and those of numbers.
use Rattle.std.specs.Prelude.{◌≡◌, ℕ, ◌+◌, ◌^◌, List, [], ◌++◌, nat_lt, map, length, if◌then◌else◌, Option, Some, None}
use Rattle.std.specs.List.{list_any}
use Rattle.sip_input.specs.declared.input.Input.{Input}
use Rattle.input_text.specs.declared.fault.InputFault.{InputFault}
use Rattle.input_text.specs.declared.fault.InputFault.TheVariants as fault
use Rattle.input_text.specs.declared.fault.Wrong.{Wrong}
use Rattle.input_text.specs.declared.fault.Wrong.TheVariants.{TooWide, TooMany}
use Rattle.input_text.specs.declared.word.Word.TheVariants.{Number}
use Rattle.input_text.specs.Adding.{nothing, given_by, wrong, added, is_wide, plain}
use Rattle.input_text.specs.Lines.{lines_of, LeadTo, HaveFault}
use Rattle.input_text.specs.Statements.{Says}
use Rattle.input_text.specs.Words.{HasWords}

-- an input is that of a text
abbrev pub IsInputOf : (text : List ℕ) → Input → Type 0
IsInputOf text input = LeadTo Says wrong added 1 nothing (lines_of text) (given_by input)

-- the fault of a text of an input
abbrev pub IsFaultOf : (text : List ℕ) → InputFault → Type 0
IsFaultOf text fault = HaveFault Says wrong added 1 nothing (lines_of text) fault

-- a number below 2^32; none where it is greater
abbrev pub narrow : Option ℕ → Option ℕ
narrow None = None
narrow (Some n) = if nat_lt n (2 ^ 32) then Some n else None

-- a line says numbers: they are its words
abbrev pub SaysNumbers : (line : List ℕ) → List (Option ℕ) → Type 0
SaysNumbers line said = (numbers : List (Option ℕ)) × HasWords line (map Number numbers) × (said ≡ map narrow numbers)

-- what is wrong with the numbers of a line, where at most so many are wanted; none where nothing is
abbrev pub wrong_numbers : (most : ℕ) → (before : List ℕ) → List (Option ℕ) → Option Wrong
wrong_numbers most before said =
    if list_any is_wide said then Some TooWide
    else (if nat_lt most (length before + length said) then Some TooMany
    else None)

-- with the numbers of a line
abbrev pub with_numbers : (before : List ℕ) → (line : ℕ) → List (Option ℕ) → List ℕ
with_numbers before line said = before ++ map plain said

-- numbers are those of a text
abbrev pub AreNumbersOf : (most : ℕ) → (text : List ℕ) → List ℕ → Type 0
AreNumbersOf most text numbers = LeadTo SaysNumbers (wrong_numbers most) with_numbers 1 [] (lines_of text) numbers

-- the fault of a text of numbers
abbrev pub IsNumbersFault : (most : ℕ) → (text : List ℕ) → InputFault → Type 0
IsNumbersFault most text fault = HaveFault SaysNumbers (wrong_numbers most) with_numbers 1 [] (lines_of text) fault

-- an answer that gives nothing tells of want of memory, or of a fault
abbrev pub TellsOf : (InputFault → Type 0) → InputFault → Type 0
TellsOf IsFault fault.OutOfMemory = Unit {0}
TellsOf IsFault (fault.BadLine n) = IsFault (fault.BadLine n)
TellsOf IsFault (fault.TooWide n) = IsFault (fault.TooWide n)
TellsOf IsFault (fault.Twice n) = IsFault (fault.Twice n)
TellsOf IsFault (fault.TooMany n) = IsFault (fault.TooMany n)

-- the cause of an answer that gives no input, or no numbers
abbrev pub IsCause : (text : List ℕ) → InputFault → Type 0
IsCause text fault = TellsOf (IsFaultOf text) fault

abbrev pub IsNumbersCause : (most : ℕ) → (text : List ℕ) → InputFault → Type 0
IsNumbersCause most text fault = TellsOf (IsNumbersFault most text) fault
