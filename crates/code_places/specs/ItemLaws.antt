-- What an instruction at the cursor tells of the rest of the work, and what stands at the heads of what is in progress.
use Rattle.std.specs.Prelude.{◌≡◌, ℕ, ◌+◌, Some, slice_get}
use Rattle.sial_syntax.specs.declared.condition.Cond.{Cond}
use Rattle.sial_syntax.specs.Proper.{IsProper}
use Rattle.sial_syntax.specs.Tree.{Tree}
use Rattle.sial_meaning.specs.Rest.{LoopAt, PardoAt, Rest, place}
use Rattle.sip_tables.specs.Code.{instruction}
use Rattle.sip_tables.specs.declared.instruction.Instruction.{Instruction}
use Rattle.sip_tables.specs.declared.instruction.Operation.{Operation}
use Rattle.sip_tables.specs.declared.instruction.Operation.TheVariants as op
use Rattle.code_places.specs.Follows.{Follows, LoopStands, PardoStands}
use Rattle.code_places.specs.Items.{ItemOf}
use Rattle.code_places.specs.Standing.{HasAt}

-- the instruction at the cursor tells the first item
abbrev pub ItemTold : Type 0
ItemTold =
    (p : Tree) (rest : Rest) (i : Instruction) → IsProper p → Follows p rest → HasAt p (place rest) i
    → ItemOf p rest i.line i.operation

-- an operation is the head of a loop
abbrev pub IsHeadOf : LoopAt → Operation → Type 0
IsHeadOf loop (op.Do index past) = (index ≡ loop.index) × (past ≡ loop.at + 1)
IsHeadOf loop (op.DoIn sub index past) = (sub ≡ loop.index) × (past ≡ loop.at + 1)
IsHeadOf loop _ = ⊥

-- a loop in progress has its head in the code
abbrev pub LoopsHaveHeads : Type 0
LoopsHaveHeads = (p : Tree) (loop : LoopAt) → LoopStands p loop → (i : Instruction) × HasAt p loop.head i × IsHeadOf loop i.operation

-- a pardo in progress has its head in the code
abbrev pub PardosHaveHeads : Type 0
PardosHaveHeads =
    (p : Tree) (pardo : PardoAt) (stands : PardoStands p pardo)
    → HasAt p pardo.head (instruction stands.line (op.Pardo pardo.indices pardo.at))

-- its `where` lines stand behind the head, one by one
abbrev pub WheresStand : Type 0
WheresStand =
    (p : Tree) (pardo : PardoAt) (stands : PardoStands p pardo) (number : ℕ) (cond : Cond) → slice_get pardo.wheres number ≡ Some cond
    → HasAt p (pardo.head + 1 + number) (instruction stands.line (op.Where cond))
