-- The names of faults, and the places that they stand at.
use Rattle.std.specs.Prelude.{ℕ, List, codes}
use Rattle.index_spaces.specs.declared.fault.SpaceKind.{SpaceKind}
use Rattle.index_spaces.specs.declared.fault.SpaceKind.TheVariants as space
use Rattle.input_text.specs.declared.fault.InputFault.{InputFault}
use Rattle.input_text.specs.declared.fault.InputFault.TheVariants as input
use Rattle.scalar_discipline.specs.declared.fault.RuleFault.{RuleFault}
use Rattle.scalar_discipline.specs.declared.fault.RuleFault.TheVariants as rule
use Rattle.shape_check.specs.declared.fault.ShapeFault.{ShapeFault}
use Rattle.shape_check.specs.declared.fault.ShapeFault.TheVariants as shape
use Rattle.sial_lexer.specs.declared.fault.LexKind.{LexKind}
use Rattle.sial_lexer.specs.declared.fault.LexKind.TheVariants as lex
use Rattle.sial_parser.specs.declared.fault.ParseFault.{ParseFault}
use Rattle.sial_parser.specs.declared.fault.ParseFault.TheVariants.{Lex, Expected, Undeclared, Twice, EndName, TooMany, TooDeep, OutOfMemory}
use Rattle.table_file.specs.declared.fault.TableFault.{TableFault}
use Rattle.table_file.specs.declared.fault.TableFault.TheVariants as file
use Rattle.table_verify.specs.declared.fault.VerifyFault.{VerifyFault}
use Rattle.table_verify.specs.declared.fault.VerifyFault.TheVariants as verify

-- what a line tells of a fault: its place, which is a line, a byte of a table file or an instruction, and the name of its kind
pub record Told : Type 0 where
  pub place : ℕ
  pub kind : List ℕ

-- a kind at a place
abbrev pub at : ℕ → List ℕ → Told
at place kind = record { place = place; kind = kind }

-- the name of a lexer's kind
abbrev pub lex_kind_of : LexKind → List ℕ
lex_kind_of lex.BadByte = codes "BadByte"
lex_kind_of lex.Fraction = codes "Fraction"
lex_kind_of lex.TooWide = codes "TooWide"
lex_kind_of lex.OpenText = codes "OpenText"
lex_kind_of lex.TooLong = codes "TooLong"
lex_kind_of lex.OutOfMemory = codes "OutOfMemory"

-- a fault of a program's text; one of the lexer's has its own kind
abbrev pub syntax_told : ParseFault → Told
syntax_told (Lex fault) = at fault.line (lex_kind_of fault.kind)
syntax_told (Expected line) = at line (codes "Expected")
syntax_told (Undeclared line) = at line (codes "Undeclared")
syntax_told (Twice line) = at line (codes "Twice")
syntax_told (EndName line) = at line (codes "EndName")
syntax_told (TooMany line which) = at line (codes "TooMany")
syntax_told (TooDeep line) = at line (codes "TooDeep")
syntax_told OutOfMemory = at 0 (codes "OutOfMemory")

-- a fault of a table file; one without a place stands at 0
abbrev pub file_told : TableFault → Told
file_told file.Magic = at 0 (codes "Magic")
file_told file.Version = at 0 (codes "Version")
file_told (file.Short place) = at place (codes "Short")
file_told (file.Field place) = at place (codes "Field")
file_told (file.Rest place) = at place (codes "Rest")
file_told (file.TooMany place) = at place (codes "TooMany")
file_told file.OutOfMemory = at 0 (codes "OutOfMemory")

-- a fault of the tables of a file, at an instruction
abbrev pub tables_told : VerifyFault → Told
tables_told (verify.Nest instruction) = at instruction (codes "Nest")
tables_told (verify.Target instruction) = at instruction (codes "Target")
tables_told (verify.Id instruction) = at instruction (codes "Id")
tables_told verify.OutOfMemory = at 0 (codes "OutOfMemory")

-- a broken shape rule
abbrev pub shape_told : ShapeFault → Told
shape_told (shape.Unbound line) = at line (codes "Unbound")
shape_told (shape.Rebound line) = at line (codes "Rebound")
shape_told (shape.Repeated line) = at line (codes "Repeated")
shape_told (shape.WrongKind line) = at line (codes "WrongKind")
shape_told (shape.WrongIndices line) = at line (codes "WrongIndices")
shape_told (shape.NotWritable line) = at line (codes "NotWritable")
shape_told shape.OutOfMemory = at 0 (codes "OutOfMemory")

-- a broken side rule
abbrev pub side_told : RuleFault → Told
side_told (rule.PardoInPardo line) = at line (codes "PardoInPardo")
side_told (rule.SharedWriteOutside line) = at line (codes "SharedWriteOutside")
side_told (rule.SyncInside line) = at line (codes "SyncInside")
side_told (rule.PrintInside line) = at line (codes "PrintInside")
side_told (rule.StaticWriteInside line) = at line (codes "StaticWriteInside")
side_told (rule.MixedLocal line) = at line (codes "MixedLocal")
side_told (rule.MixedScalar line) = at line (codes "MixedScalar")
side_told (rule.PartialRead line) = at line (codes "PartialRead")
side_told (rule.Recursion line) = at line (codes "Recursion")
side_told (rule.CallTooDeep line) = at line (codes "CallTooDeep")
side_told rule.OutOfMemory = at 0 (codes "OutOfMemory")

-- a fault of an input's text
abbrev pub input_told : InputFault → Told
input_told (input.BadLine line) = at line (codes "BadLine")
input_told (input.TooWide line) = at line (codes "TooWide")
input_told (input.Twice line) = at line (codes "Twice")
input_told (input.TooMany line) = at line (codes "TooMany")
input_told input.OutOfMemory = at 0 (codes "OutOfMemory")

-- the name of the kind of what doesn't fit
abbrev pub space_kind_of : SpaceKind → List ℕ
space_kind_of space.NoConstant = codes "NoConstant"
space_kind_of space.NoSegment = codes "NoSegment"
space_kind_of space.NotWithin = codes "NotWithin"
space_kind_of space.BlockTooWide = codes "BlockTooWide"
space_kind_of space.TooManyBlocks = codes "TooManyBlocks"
space_kind_of space.BadStart = codes "BadStart"
space_kind_of space.OutOfMemory = codes "OutOfMemory"
