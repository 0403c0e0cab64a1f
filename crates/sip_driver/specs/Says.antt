-- The line of each refusal, and that it went out.
use Rattle.std.specs.Prelude.{ℕ, ◌⊎◌, List, [], ◌∷◌, ◌++◌, Option, codes, decimal, ◌==◌, if◌then◌else◌}
use Rattle.index_spaces.specs.declared.fault.SpaceFault.{SpaceFault}
use Rattle.input_text.specs.declared.fault.InputFault.{InputFault}
use Rattle.scalar_discipline.specs.declared.fault.RuleFault.{RuleFault}
use Rattle.shape_check.specs.declared.fault.ShapeFault.{ShapeFault}
use Rattle.sip_files.specs.Files.{Rose}
use Rattle.sip_files.specs.Sink.{Gains, GainsPart}
use Rattle.sip_grant.specs.declared.refusal.SyntaxFault.{SyntaxFault}
use Rattle.sip_grant.specs.declared.refusal.SyntaxFault.TheVariants.{Text, File, Tables}
use Rattle.sip_driver.specs.Kinds.{Told, syntax_told, file_told, tables_told, shape_told, side_told, input_told, space_kind_of}

-- the line on a file that wasn't read
abbrev pub read_line : (name : List ℕ) → List ℕ
read_line name = codes "sip: read " ++ (name ++ (10 ∷ []))

-- the line on a file that wasn't written
abbrev pub write_line : (name : List ℕ) → List ℕ
write_line name = codes "sip: write " ++ (name ++ (10 ∷ []))

-- a line that begins so and tells a fault's place and kind
abbrev pub told_line : (front : List ℕ) → Told → List ℕ
told_line front told = front ++ (decimal told.place ++ (codes ": " ++ (told.kind ++ (10 ∷ []))))

-- the line on a fault of the program's file
abbrev pub syntax_line : SyntaxFault → List ℕ
syntax_line (Text fault) = told_line (codes "sip: syntax line ") (syntax_told fault)
syntax_line (File fault) = told_line (codes "sip: table at ") (file_told fault)
syntax_line (Tables fault) = told_line (codes "sip: table instruction ") (tables_told fault)

-- the line on a shape rule that the program breaks
abbrev pub shape_line : ShapeFault → List ℕ
shape_line fault = told_line (codes "sip: rule line ") (shape_told fault)

-- the line on a side rule that the program breaks
abbrev pub side_line : RuleFault → List ℕ
side_line fault = told_line (codes "sip: rule line ") (side_told fault)

-- the line on a fault of the input's text
abbrev pub input_line : InputFault → List ℕ
input_line fault = told_line (codes "sip: input line ") (input_told fault)

-- the line on an input that doesn't fit: what is refused, its value, and the kind
abbrev pub space_line : SpaceFault → List ℕ
space_line fault =
    codes "sip: space " ++ (fault.name ++ (codes " " ++ (decimal fault.value ++ (codes ": " ++ (space_kind_of fault.kind ++ (10 ∷ []))))))

-- the line on a program that isn't of the first profile
abbrev pub first_line : List ℕ
first_line = codes "sip: syntax line 0: FirstPath\n"

-- the line of each status whose line tells no more than the status; status 0 has none
abbrev pub line_of : (status : ℕ) → List ℕ
line_of status =
    if status == 1
    then codes "sip: usage\n"
    else if status == 10
    then codes "sip: write output\n"
    else if status == 13
    then codes "sip: memory\n"
    else []

-- a line went out whole; or a write failed, was counted, and a first part of it went out
abbrev pub Says : {K : Type 0} → (written : K → Option (List ℕ)) → (faults : K → ℕ) → (old new : K) → (line : List ℕ) → Type 0
Says written faults old new line =
    Gains (written old) (written new) line ⊎ (Rose (faults old) (faults new) × GainsPart (written old) (written new) line)
