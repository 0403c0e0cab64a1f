-- Lines read one by one, and what is read of the texts of inputs and of numbers.
use Rattle.std.specs.Prelude.{◌≡◌, ℕ, ◌+◌, List, [], ◌∷◌, ◌++◌, if◌then◌else◌, nat_lt, length, Option, Some, None, Result, Ok, Err}
use Rattle.std.specs.List.{prefix_len}
use Rattle.std.specs.Option.{option_and_then}
use Rattle.sial_lexer.specs.Characters.{is_within_line}
use Rattle.input_text.specs.declared.fault.InputFault.{InputFault}
use Rattle.input_text.specs.declared.fault.InputFault.TheVariants as fault
use Rattle.input_text.specs.declared.fault.Wrong.{Wrong}
use Rattle.input_text.specs.declared.fault.Wrong.TheVariants.{BadLine}
use Rattle.input_text.specs.declared.said.Said.{Said}
use Rattle.input_text.specs.declared.word.Word.{Word}
use Rattle.input_text.specs.declared.word.Word.TheVariants.{Name, Number, Equals, Minus}
use Rattle.input_text.specs.Adding.{Given, nothing, wrong, added}
use Rattle.input_text.specs.Lines.{lines_of, fault_at}
use Rattle.input_text.specs.Parts.{words_in}
use Rattle.input_text.specs.Reading.{said_in}
use Rattle.input_text.specs.Texts.{narrow, wrong_numbers, with_numbers}

-- how many bytes the first line has, with its line feed
abbrev pub line_len : List ℕ → ℕ
line_len text =
    if nat_lt (prefix_len is_within_line text) (length text) then prefix_len is_within_line text + 1
    else prefix_len is_within_line text

-- with what a line says, or the fault of what is wrong with it
abbrev pub by_wrong : {G S : Type 0} → (added : G → (line : ℕ) → S → G) → G → (line : ℕ) → S → Option Wrong → Result G InputFault
by_wrong added g n said None = Ok (added g n said)
by_wrong added g n said (Some what) = Err (fault_at n what)

-- with what a line says, if it says something, or the line's fault
abbrev pub add_said : {G S : Type 0} → (wrong : G → S → Option Wrong) → (added : G → (line : ℕ) → S → G)
    → G → (line : ℕ) → Option S → Result G InputFault
add_said wrong added g n None = Err (fault_at n BadLine)
add_said wrong added g n (Some said) = by_wrong added g n said (wrong g said)

-- what follows a line
abbrev pub after_line : {G : Type 0} → (G → Result G InputFault) → Result G InputFault → Result G InputFault
after_line go (Ok g) = go g
after_line go (Err fault) = Err fault

-- lines from a number on
abbrev pub add_lines : {G : Type 0} → (add_line : G → (line : ℕ) → List ℕ → Result G InputFault)
    → (line : ℕ) → G → List (List ℕ) → Result G InputFault
add_lines add_line n g [] = Ok g
add_lines add_line n g (line ∷ lines) = after_line (λ h. add_lines add_line (n + 1) h lines) (add_line g n line)

-- what a line of an input says, and what it adds
abbrev pub line_said : List ℕ → Option Said
line_said line = option_and_then said_in (words_in line)

abbrev pub add : Given → (line : ℕ) → Said → Result Given InputFault
add g n said = by_wrong added g n said (wrong g said)

abbrev pub add_line : Given → (line : ℕ) → List ℕ → Result Given InputFault
add_line g n line = add_said wrong added g n (line_said line)

-- what a text of an input gives, or its fault
abbrev pub given_in : List ℕ → Result Given InputFault
given_in text = add_lines add_line 1 nothing (lines_of text)

-- further numbers; none where a word is no number
abbrev pub figures_from : (so_far : List (Option ℕ)) → List Word → Option (List (Option ℕ))
figures_from so_far [] = Some so_far
figures_from so_far (Name name ∷ ws) = None
figures_from so_far (Number n ∷ ws) = figures_from (so_far ++ narrow n ∷ []) ws
figures_from so_far (Equals ∷ ws) = None
figures_from so_far (Minus ∷ ws) = None

-- the numbers of a line, and what they add
abbrev pub line_figures : List ℕ → Option (List (Option ℕ))
line_figures line = option_and_then (figures_from []) (words_in line)

abbrev pub add_numbers : (most : ℕ) → (before : List ℕ) → (line : ℕ) → List ℕ → Result (List ℕ) InputFault
add_numbers most before n line = add_said (wrong_numbers most) with_numbers before n (line_figures line)

-- the numbers of a text, or its fault
abbrev pub numbers_of_text : (most : ℕ) → List ℕ → Result (List ℕ) InputFault
numbers_of_text most text = add_lines (add_numbers most) 1 [] (lines_of text)

-- an answer that gives nothing tells of want of memory, or of the fault
abbrev pub Fails : {Y : Type 0} → InputFault → Result Y InputFault → Type 0
Fails fault.OutOfMemory read = Unit {0}
Fails (fault.BadLine n) read = read ≡ Err (fault.BadLine n)
Fails (fault.TooWide n) read = read ≡ Err (fault.TooWide n)
Fails (fault.Twice n) read = read ≡ Err (fault.Twice n)
Fails (fault.TooMany n) read = read ≡ Err (fault.TooMany n)

-- an answer, seen so, is what a reading gives, unless memory ran out
abbrev pub Gives : {X Y : Type 0} → (X → Y) → Result X InputFault → Result Y InputFault → Type 0
Gives view (Ok x) read = read ≡ Ok (view x)
Gives view (Err fault) read = Fails fault read
