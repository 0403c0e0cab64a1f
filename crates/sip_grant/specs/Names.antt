-- The two files that a run reads.
use Rattle.std.specs.Prelude.{ℕ, List, [], ◌∷◌}
use Rattle.sip_files.specs.Loading.{Wanted, wanted}
use Rattle.sip_grant.specs.Loads.{Reads, RuledProgram, AnyText}

-- the names of a program's file and of an input's
pub record Names : Type 0 where
  pub program : List ℕ
  pub input : List ℕ

-- two names
abbrev pub named : (program input : List ℕ) → Names
named program input = record { program = program; input = input }

-- the limit of a program, which is that of a table file
abbrev pub most_program : ℕ
most_program = 16777216

-- the limit of an input
abbrev pub most_input : ℕ
most_input = 1048576

-- the file of a program
abbrev pub program_file : (name : List ℕ) → Wanted
program_file name = wanted name most_program

-- the file of the program
abbrev pub program_of : Names → Wanted
program_of names = program_file names.program

-- the file of the input
abbrev pub input_of : Names → Wanted
input_of names = wanted names.input most_input

-- the files that are read, in order
abbrev pub files_of : Names → List Reads
files_of names =
    record { file = program_of names; content = RuledProgram } ∷ record { file = input_of names; content = AnyText } ∷ []
