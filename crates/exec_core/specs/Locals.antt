-- Statements that allocate blocks of local arrays, or take them away, and their instructions.
use Rattle.std.specs.Prelude.{◌≡◌, ℕ, List, map}
use Rattle.index_spaces.specs.Placed.{bare}
use Rattle.sial_syntax.specs.declared.array.ArrayKind.TheVariants.{Local}
use Rattle.sial_syntax.specs.declared.operand.Slot.{Slot}
use Rattle.sial_syntax.specs.Tree.{Plain, Allocate, Deallocate}
use Rattle.sial_meaning.specs.LocalStep.{Answer, Done, allocated, deallocated, matched, quiet}
use Rattle.sial_meaning.specs.Next as next
use Rattle.sial_meaning.specs.Next.{Task}
use Rattle.sial_meaning.specs.Own.{Own}
use Rattle.sial_meaning.specs.Setting.{Setting, array_kind}
use Rattle.sip_tables.specs.declared.instruction.Operation.{Operation}
use Rattle.sip_tables.specs.declared.instruction.Operation.TheVariants as op
use Rattle.exec_names.specs.Matching.{MatchBlocks}

-- one of them
abbrev pub OfLocals : Plain → Type 0
OfLocals (Allocate array slots) = Unit {0}
OfLocals (Deallocate array slots) = Unit {0}
OfLocals _ = ⊥

-- one comes next
abbrev pub IsOfLocals : Task → Type 0
IsOfLocals (next.Statement line form more) = OfLocals form
IsOfLocals _ = ⊥

-- the instruction of one
abbrev pub OpOfLocals : Operation → Type 0
OpOfLocals (op.Allocate array slots) = Unit {0}
OpOfLocals (op.Deallocate array slots) = Unit {0}
OpOfLocals _ = ⊥

-- slots match blocks of a local array
pub record MatchLocals (g : Setting) (values : List ℕ) (array : ℕ) (slots : List Slot) : Type 0 where
  pub kind : array_kind g array ≡ Local
  pub fits : MatchBlocks (record { spaces = g.spaces; arrays = map bare g.program.arrays }) values array slots

-- so do those of an instruction, if it has some
abbrev pub OpMatches : Setting → (values : List ℕ) → Operation → Type 0
OpMatches g values (op.Allocate array slots) = MatchLocals g values array slots
OpMatches g values (op.Deallocate array slots) = MatchLocals g values array slots
OpMatches g values _ = Unit {0}

-- what an instruction makes of a worker's local blocks, or its trap
abbrev pub op_changed : Setting → Operation → Own → (partials : List ℕ) → Answer Done
op_changed g (op.Allocate array slots) own partials = allocated g array (matched g own array slots) own partials
op_changed g (op.Deallocate array slots) own partials = deallocated array (matched g own array slots) own partials
op_changed g _ own partials = quiet own partials
