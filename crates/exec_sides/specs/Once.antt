-- Instructions that name an index twice in a block or in slots.
use Rattle.std.specs.Prelude.{◌≡◌, ℕ, Bool, false, ◌||◌, Some, slice_get}
use Rattle.std.specs.List.{list_any, flat_map}
use Rattle.sial_syntax.specs.declared.operand.BlockRef.{BlockRef}
use Rattle.sial_syntax.specs.Agreeing.{has_twice}
use Rattle.sial_syntax.specs.Parts.{blocks_named, slot_index, slots_named}
use Rattle.sial_syntax.specs.SideRules.{IsGranted}
use Rattle.sial_syntax.specs.Tree.{Tree, Plain, Assign, Get, Request, Put, Prepare, Allocate, Deallocate, Integrals}
use Rattle.sip_tables.specs.declared.instruction.Instruction.{Instruction}
use Rattle.sip_tables.specs.declared.instruction.Operation.{Operation}
use Rattle.sip_tables.specs.declared.instruction.Operation.TheVariants as op
use Rattle.sip_tables.specs.Flatten.{flatten}

-- whether a statement names an index twice in one block, or in its slots
abbrev pub names_twice : Plain → Bool
names_twice form = list_any (λ (b : BlockRef). has_twice b.at) (blocks_named form) || has_twice (flat_map slot_index (slots_named form))

-- whether an instruction does
abbrev pub operation_names_twice : Operation → Bool
operation_names_twice (op.Assign target combining right) = names_twice (Assign target combining right)
operation_names_twice (op.Get block) = names_twice (Get block)
operation_names_twice (op.Request block) = names_twice (Request block)
operation_names_twice (op.Put block how from) = names_twice (Put block how from)
operation_names_twice (op.Prepare block how from) = names_twice (Prepare block how from)
operation_names_twice (op.Allocate array slots) = names_twice (Allocate array slots)
operation_names_twice (op.Deallocate array slots) = names_twice (Deallocate array slots)
operation_names_twice (op.Integrals block) = names_twice (Integrals block)
operation_names_twice _ = false

-- no instruction of a granted program does
abbrev pub InstructionsNameOnce : Type 0
InstructionsNameOnce = (p : Tree) (at : ℕ) (i : Instruction) → IsGranted p → slice_get (flatten p).code at ≡ Some i → operation_names_twice i.operation ≡ false
