-- The work of a program starts in its code, and the cursor stands at the instruction of its first item.
use Rattle.std.specs.Prelude.{◌≡◌, []}
use Rattle.sial_syntax.specs.Proper.{IsProper}
use Rattle.sial_syntax.specs.Tree.{Tree}
use Rattle.sial_meaning.specs.Rest.{Rest, place}
use Rattle.sial_meaning.specs.Setting.{Setting}
use Rattle.sial_meaning.specs.Step.{start_work}
use Rattle.sip_tables.specs.declared.instruction.Instruction.{Instruction}
use Rattle.code_places.specs.Follows.{Follows, return_places}
use Rattle.code_places.specs.Head.{Says}
use Rattle.code_places.specs.Standing.{HasAt}

-- a proper program's code has all of its work
abbrev pub WorkStarts : Type 0
WorkStarts = (g : Setting) → IsProper g.program → Follows g.program (start_work g).rest

-- the cursor starts at the first instruction
abbrev pub StartsAtFirst : Type 0
StartsAtFirst = (g : Setting) → place (start_work g).rest ≡ 0

-- no call is in progress at the start
abbrev pub StartsWithoutCalls : Type 0
StartsWithoutCalls = (g : Setting) → return_places (start_work g).rest ≡ []

-- the code has an instruction at the place of the rest of the work, and it is the one that the first item says
abbrev pub HeadIs : Type 0
HeadIs = (p : Tree) (rest : Rest) → IsProper p → Follows p rest → (i : Instruction) × HasAt p (place rest) i × Says p rest i
