-- What the output gains of the printed lines of a program that runs today.
use Rattle.std.specs.Prelude.{ℕ, List, Option}
use Rattle.first_profile.specs.FirstTree.{IsFirstTree}
use Rattle.sial_syntax.specs.Tree.{Tree}
use Rattle.sip_files.specs.Sink.{Gains, GainsPart}
use Rattle.sip_grant.specs.Granting.{AreFilesOf}
use Rattle.sip_input.specs.declared.input.Input.{Input}
use Rattle.sip_setting.specs.Given.{setting_by}
use Rattle.sip_setting.specs.Printing.{printed_text}

-- the texts are those of a program of the first profile and of an input that the rules grant
pub record AreRun (program_text input_text : List ℕ) (p : Tree) (i : Input) : Type 0 where
  pub granted : AreFilesOf program_text input_text p i
  pub first : IsFirstTree p

-- the output gained the lines that the sequential meaning of the texts prints
abbrev pub Prints : (old new : Option (List ℕ)) → (program_text input_text : List ℕ) → Type 0
Prints old new program_text input_text =
    (p : Tree) × (i : Input) × AreRun program_text input_text p i × Gains old new (printed_text (setting_by p i))

-- the output gained a first part of them
abbrev pub PrintsPart : (old new : Option (List ℕ)) → (program_text input_text : List ℕ) → Type 0
PrintsPart old new program_text input_text =
    (p : Tree) × (i : Input) × AreRun program_text input_text p i × GainsPart old new (printed_text (setting_by p i))

-- the texts are those of a program and of an input that the rules grant, and the program isn't of the first profile
abbrev pub IsNotFirst : (program_text input_text : List ℕ) → Type 0
IsNotFirst program_text input_text =
    (p : Tree) × (i : Input) × AreFilesOf program_text input_text p i × (IsFirstTree p → ⊥)
