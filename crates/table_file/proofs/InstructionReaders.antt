-- Readers of instructions, made of the readers of their parts.
use Rattle.std.proofs.Common.{◌≡◌, ℕ, List, [], ◌∷◌, ◌++◌, replicate, Option, arith}
use Rattle.sial_syntax.specs.declared.condition.Cond.{Cond}
use Rattle.sial_syntax.specs.declared.condition.Test.{Test}
use Rattle.sial_syntax.specs.declared.operand.Bin.{Bin}
use Rattle.sial_syntax.specs.declared.operand.BlockRef.{BlockRef}
use Rattle.sial_syntax.specs.declared.operand.Op.{Op}
use Rattle.sial_syntax.specs.declared.operand.Operand.{Operand}
use Rattle.sial_syntax.specs.declared.operand.Right.{Right}
use Rattle.sial_syntax.specs.declared.operand.Target.{Target}
use Rattle.sial_syntax.specs.Limits.{most_pardo}
use Rattle.sip_tables.specs.declared.instruction.Instruction.{Instruction}
use Rattle.sip_tables.specs.declared.instruction.Operation.{Operation}
use Rattle.sip_tables.specs.declared.instruction.Operation.TheVariants as op
use Rattle.table_file.specs.declared.combined.Putting.{Putting}
use Rattle.table_file.specs.declared.combined.Slotted.{Slotted}
use Rattle.table_file.specs.Bytes.{no_part, block_part, text_part, slots_part, target_part, operand_part}
use Rattle.table_file.specs.Fields.{unused}
use Rattle.table_file.specs.Fits.{IsWithin, IsPrinted, AreIndices, BlockFits, AreSlots, TargetFits, OperandFits, CondFits}
use Rattle.table_file.specs.Heads.{plain_head, jump_head, line_and_jump, line_alone, test_mode, assign_mode}
use Rattle.table_file.specs.Combined as combined
use Rattle.table_file.specs.Control as control
use Rattle.table_file.specs.Simple as simple
use Rattle.table_file.specs.Numbers.{test_number, how_number}
use Rattle.table_file.specs.Operands.{no_operand, thing, text_operand, target_operand, right_operand, pardo_indices}
use Rattle.table_file.proofs.ReadsLemmas.{Builds, first_then, skip_then, gives, turned}
use Rattle.table_file.proofs.FieldLaws.{unused_skips}
use Rattle.table_file.proofs.OperandLaws.{line_and_jump_reads, line_alone_reads, plain_head_reads, jump_head_reads, test_mode_reads, no_operand_skips, thing_reads, text_operand_reads}
use Rattle.table_file.proofs.ModeLaws.{mode_of, assign_mode_reads, HowFits}
use Rattle.table_file.proofs.TaggedLaws.{target_reads, right_reads, pardo_part, pardo_indices_reads}
use Rattle.table_file.proofs.InstructionParts.{plain_part, jump_part, line_part, both_part, JumpFits, thing_part, bare_reads, jump_reads, one_thing_reads, one_block_reads, array_slots_reads, put_blocks_reads, cond_part, compared_reads, right_part, IsRight, right_side_reads}

pub ending_builds : (operation : Operation) → Builds {P = ℕ} {Z = Instruction} (control.ending operation) (λ l. record { line = l; operation = operation }) (λ l. plain_part l ++ replicate 48 0) (IsWithin 32)
unfolding control.ending
ending_builds operation = turned combined.bare _ (IsWithin 32) (λ l. record { line = l; operation = operation }) bare_reads

pub loop_head_builds :
    Builds {P = (ℕ × ℕ) × (ℕ × Unit {0})} {Z = Instruction} control.loop_head (λ p. record { line = p.0.0; operation = op.Do p.1.0 p.0.1 })
    (λ p. jump_part p.0 ++ (thing_part 4 p.1.0 ++ (replicate 32 0 ++ []))) (λ p. JumpFits p.0 × (IsWithin 16 p.1.0 × Unit {0}))
unfolding control.loop_head
loop_head_builds =
    first_then jump_head jump_part JumpFits _ _ _ _ jump_head_reads (λ head f.
    first_then (thing 4) (thing_part 4) (IsWithin 16) _ _ _ _ (thing_reads 4 (omega arith)) (λ index f.
    skip_then (unused 32) (replicate 32 0) _ _ _ _ (unused_skips 32) (gives (record { line = head.0; operation = op.Do index head.1 }))))

pub pieces_head_builds :
    Builds {P = (ℕ × ℕ) × (ℕ × (ℕ × Unit {0}))} {Z = Instruction} control.pieces_head (λ p. record { line = p.0.0; operation = op.DoIn p.1.0 p.1.1.0 p.0.1 })
    (λ p. jump_part p.0 ++ (thing_part 4 p.1.0 ++ (thing_part 4 p.1.1.0 ++ (no_part ++ [])))) (λ p. JumpFits p.0 × (IsWithin 16 p.1.0 × (IsWithin 16 p.1.1.0 × Unit {0})))
unfolding control.pieces_head
pieces_head_builds =
    first_then jump_head jump_part JumpFits _ _ _ _ jump_head_reads (λ head f.
    first_then (thing 4) (thing_part 4) (IsWithin 16) _ _ _ _ (thing_reads 4 (omega arith)) (λ sub f.
    first_then (thing 4) (thing_part 4) (IsWithin 16) _ _ _ _ (thing_reads 4 (omega arith)) (λ index f.
    skip_then no_operand no_part _ _ _ _ no_operand_skips (gives (record { line = head.0; operation = op.DoIn sub index head.1 })))))

pub branch_builds :
    Builds {P = Test × ((ℕ × ℕ) × Cond)} {Z = Instruction} control.branch (λ p. record { line = p.1.0.0; operation = op.If p.1.1 p.1.0.1 })
    (λ p. (test_number p.0 ∷ []) ++ (both_part p.1.0 ++ cond_part p.1.1)) (λ p. Unit {0} × (JumpFits p.1.0 × ((p.1.1.test ≡ p.0) × CondFits p.1.1)))
unfolding control.branch
branch_builds =
    first_then test_mode (λ k. test_number k ∷ []) (λ k. Unit {0}) _ _ _ _ test_mode_reads (λ test f.
    first_then line_and_jump both_part JumpFits _ _ _ _ line_and_jump_reads (λ head f.
    turned (combined.compared test) cond_part _ (λ c. record { line = head.0; operation = op.If c head.1 }) (compared_reads test)))

pub where_builds :
    Builds {P = Test × (ℕ × Cond)} {Z = Instruction} control.where_line (λ p. record { line = p.1.0; operation = op.Where p.1.1 })
    (λ p. (test_number p.0 ∷ []) ++ (line_part p.1.0 ++ cond_part p.1.1)) (λ p. Unit {0} × (IsWithin 32 p.1.0 × ((p.1.1.test ≡ p.0) × CondFits p.1.1)))
unfolding control.where_line
where_builds =
    first_then test_mode (λ k. test_number k ∷ []) (λ k. Unit {0}) _ _ _ _ test_mode_reads (λ test f.
    first_then line_alone line_part (IsWithin 32) _ _ _ _ line_alone_reads (λ line f.
    turned (combined.compared test) cond_part _ (λ c. record { line = line; operation = op.Where c }) (compared_reads test)))

pub pardo_builds :
    Builds {P = (ℕ × ℕ) × (List ℕ × Unit {0})} {Z = Instruction} control.pardo_head (λ p. record { line = p.0.0; operation = op.Pardo p.1.0 p.0.1 })
    (λ p. jump_part p.0 ++ (pardo_part p.1.0 ++ (no_part ++ []))) (λ p. JumpFits p.0 × (AreIndices most_pardo p.1.0 × Unit {0}))
unfolding control.pardo_head
pardo_builds =
    first_then jump_head jump_part JumpFits _ _ _ _ jump_head_reads (λ head f.
    first_then pardo_indices pardo_part (AreIndices most_pardo) _ _ _ _ pardo_indices_reads (λ indices f.
    skip_then no_operand no_part _ _ _ _ no_operand_skips (gives (record { line = head.0; operation = op.Pardo indices head.1 }))))

pub call_builds :
    Builds {P = (ℕ × ℕ) × (ℕ × Unit {0})} {Z = Instruction} control.call (λ p. record { line = p.0.0; operation = op.Call p.1.0 p.0.1 })
    (λ p. jump_part p.0 ++ (thing_part 6 p.1.0 ++ (replicate 32 0 ++ []))) (λ p. JumpFits p.0 × (IsWithin 16 p.1.0 × Unit {0}))
unfolding control.call
call_builds =
    first_then jump_head jump_part JumpFits _ _ _ _ jump_head_reads (λ head f.
    first_then (thing 6) (thing_part 6) (IsWithin 16) _ _ _ _ (thing_reads 6 (omega arith)) (λ procedure f.
    skip_then (unused 32) (replicate 32 0) _ _ _ _ (unused_skips 32) (gives (record { line = head.0; operation = op.Call procedure head.1 }))))

pub assign_builds :
    Builds {P = (Op × Option Bin) × (ℕ × (Target × (Operand × Right)))} {Z = Instruction} simple.assignment (λ p. record { line = p.1.0; operation = op.Assign p.1.1.0 p.0.0 p.1.1.1.1 })
    (λ p. (mode_of p.0.0 p.0.1 ∷ []) ++ (line_part p.1.0 ++ (target_part p.1.1.0 ++ (operand_part p.1.1.1.0 ++ right_part p.1.1.1.1))))
    (λ p. Unit {0} × (IsWithin 32 p.1.0 × (TargetFits p.1.1.0 × (OperandFits p.1.1.1.0 × IsRight p.1.1.1.0 p.0.1 p.1.1.1.1))))
unfolding simple.assignment
assign_builds =
    first_then assign_mode (λ x. mode_of x.0 x.1 ∷ []) (λ x. Unit {0}) _ _ _ _ assign_mode_reads (λ mode f.
    first_then line_alone line_part (IsWithin 32) _ _ _ _ line_alone_reads (λ line f.
    first_then target_operand target_part TargetFits _ _ _ _ target_reads (λ target f.
    first_then right_operand operand_part OperandFits _ _ _ _ right_reads (λ first f.
    turned (simple.right_side first mode.1) right_part (IsRight first mode.1) (λ right. record { line = line; operation = op.Assign target mode.0 right }) (right_side_reads first mode.1)))))

pub collection_builds :
    Builds {P = ℕ × (ℕ × (ℕ × Unit {0}))} {Z = Instruction} simple.collection (λ p. record { line = p.0; operation = op.Collective p.1.0 p.1.1.0 })
    (λ p. plain_part p.0 ++ (thing_part 2 p.1.0 ++ (thing_part 2 p.1.1.0 ++ (no_part ++ [])))) (λ p. IsWithin 32 p.0 × (IsWithin 16 p.1.0 × (IsWithin 16 p.1.1.0 × Unit {0})))
unfolding simple.collection
collection_builds =
    first_then plain_head plain_part (IsWithin 32) _ _ _ _ plain_head_reads (λ line f.
    first_then (thing 2) (thing_part 2) (IsWithin 16) _ _ _ _ (thing_reads 2 (omega arith)) (λ into f.
    first_then (thing 2) (thing_part 2) (IsWithin 16) _ _ _ _ (thing_reads 2 (omega arith)) (λ from f.
    skip_then no_operand no_part _ _ _ _ no_operand_skips (gives (record { line = line; operation = op.Collective into from })))))

pub print_builds : (texts : List (List ℕ))
    → Builds {P = ℕ × (ℕ × Unit {0})} {Z = Instruction} (simple.print texts) (λ p. record { line = p.0; operation = op.Print p.1.0 })
    (λ p. plain_part p.0 ++ (text_part p.1.0 ++ (replicate 32 0 ++ []))) (λ p. IsWithin 32 p.0 × (IsPrinted texts p.1.0 × Unit {0}))
unfolding simple.print
print_builds texts =
    first_then plain_head plain_part (IsWithin 32) _ _ _ _ plain_head_reads (λ line f.
    first_then (text_operand texts) text_part (IsPrinted texts) _ _ _ _ (text_operand_reads texts) (λ text f.
    skip_then (unused 32) (replicate 32 0) _ _ _ _ (unused_skips 32) (gives (record { line = line; operation = op.Print text }))))

pub end_do_builds : Builds {P = ℕ × ℕ} {Z = Instruction} control.end_do (λ x. record { line = x.0; operation = op.EndDo x.1 }) (λ x. jump_part x ++ replicate 48 0) JumpFits
unfolding control.end_do
end_do_builds = turned combined.jump _ JumpFits (λ x. record { line = x.0; operation = op.EndDo x.1 }) jump_reads

pub past_else_builds : Builds {P = ℕ × ℕ} {Z = Instruction} control.past_else (λ x. record { line = x.0; operation = op.Else x.1 }) (λ x. jump_part x ++ replicate 48 0) JumpFits
unfolding control.past_else
past_else_builds = turned combined.jump _ JumpFits (λ x. record { line = x.0; operation = op.Else x.1 }) jump_reads

pub end_pardo_builds : Builds {P = ℕ × ℕ} {Z = Instruction} control.end_pardo (λ x. record { line = x.0; operation = op.EndPardo x.1 }) (λ x. jump_part x ++ replicate 48 0) JumpFits
unfolding control.end_pardo
end_pardo_builds = turned combined.jump _ JumpFits (λ x. record { line = x.0; operation = op.EndPardo x.1 }) jump_reads

pub get_builds : Builds {P = ℕ × BlockRef} {Z = Instruction} simple.get (λ x. record { line = x.0; operation = op.Get x.1 }) (λ x. plain_part x.0 ++ (block_part x.1 ++ replicate 32 0)) (λ x. IsWithin 32 x.0 × BlockFits x.1)
unfolding simple.get
get_builds = turned combined.one_block _ _ (λ x. record { line = x.0; operation = op.Get x.1 }) one_block_reads

pub request_builds : Builds {P = ℕ × BlockRef} {Z = Instruction} simple.request (λ x. record { line = x.0; operation = op.Request x.1 }) (λ x. plain_part x.0 ++ (block_part x.1 ++ replicate 32 0)) (λ x. IsWithin 32 x.0 × BlockFits x.1)
unfolding simple.request
request_builds = turned combined.one_block _ _ (λ x. record { line = x.0; operation = op.Request x.1 }) one_block_reads

pub integrals_builds : Builds {P = ℕ × BlockRef} {Z = Instruction} simple.integrals (λ x. record { line = x.0; operation = op.Integrals x.1 }) (λ x. plain_part x.0 ++ (block_part x.1 ++ replicate 32 0)) (λ x. IsWithin 32 x.0 × BlockFits x.1)
unfolding simple.integrals
integrals_builds = turned combined.one_block _ _ (λ x. record { line = x.0; operation = op.Integrals x.1 }) one_block_reads

pub create_builds : Builds {P = ℕ × ℕ} {Z = Instruction} simple.create (λ x. record { line = x.0; operation = op.Create x.1 }) (λ x. plain_part x.0 ++ (thing_part 8 x.1 ++ replicate 32 0)) (λ x. IsWithin 32 x.0 × IsWithin 16 x.1)
unfolding simple.create
create_builds = turned (combined.one_thing 8) _ _ (λ x. record { line = x.0; operation = op.Create x.1 }) (one_thing_reads 8 (omega arith))

pub delete_builds : Builds {P = ℕ × ℕ} {Z = Instruction} simple.delete (λ x. record { line = x.0; operation = op.Delete x.1 }) (λ x. plain_part x.0 ++ (thing_part 8 x.1 ++ replicate 32 0)) (λ x. IsWithin 32 x.0 × IsWithin 16 x.1)
unfolding simple.delete
delete_builds = turned (combined.one_thing 8) _ _ (λ x. record { line = x.0; operation = op.Delete x.1 }) (one_thing_reads 8 (omega arith))

pub print_scalar_builds : Builds {P = ℕ × ℕ} {Z = Instruction} simple.print_scalar (λ x. record { line = x.0; operation = op.PrintScalar x.1 }) (λ x. plain_part x.0 ++ (thing_part 2 x.1 ++ replicate 32 0)) (λ x. IsWithin 32 x.0 × IsWithin 16 x.1)
unfolding simple.print_scalar
print_scalar_builds = turned (combined.one_thing 2) _ _ (λ x. record { line = x.0; operation = op.PrintScalar x.1 }) (one_thing_reads 2 (omega arith))

pub put_builds : (version : ℕ)
    → Builds {P = Putting} {Z = Instruction} (simple.put version) (λ x. record { line = x.line; operation = op.Put x.block x.how x.from })
    (λ x. how_number x.how ∷ (line_part x.line ++ (block_part x.block ++ (block_part x.from ++ no_part)))) (λ x. HowFits version x.how × (IsWithin 32 x.line × (BlockFits x.block × BlockFits x.from)))
unfolding simple.put
put_builds version = turned (combined.put_blocks version) _ _ (λ x. record { line = x.line; operation = op.Put x.block x.how x.from }) (put_blocks_reads version)

pub prepare_builds : (version : ℕ)
    → Builds {P = Putting} {Z = Instruction} (simple.prepare version) (λ x. record { line = x.line; operation = op.Prepare x.block x.how x.from })
    (λ x. how_number x.how ∷ (line_part x.line ++ (block_part x.block ++ (block_part x.from ++ no_part)))) (λ x. HowFits version x.how × (IsWithin 32 x.line × (BlockFits x.block × BlockFits x.from)))
unfolding simple.prepare
prepare_builds version = turned (combined.put_blocks version) _ _ (λ x. record { line = x.line; operation = op.Prepare x.block x.how x.from }) (put_blocks_reads version)

pub allocate_builds : Builds {P = Slotted} {Z = Instruction} simple.allocate (λ x. record { line = x.line; operation = op.Allocate x.array x.slots }) (λ x. plain_part x.line ++ (slots_part x.array x.slots ++ replicate 32 0)) (λ x. IsWithin 32 x.line × (IsWithin 16 x.array × AreSlots x.slots))
unfolding simple.allocate
allocate_builds = turned combined.array_slots _ _ (λ x. record { line = x.line; operation = op.Allocate x.array x.slots }) array_slots_reads

pub deallocate_builds : Builds {P = Slotted} {Z = Instruction} simple.deallocate (λ x. record { line = x.line; operation = op.Deallocate x.array x.slots }) (λ x. plain_part x.line ++ (slots_part x.array x.slots ++ replicate 32 0)) (λ x. IsWithin 32 x.line × (IsWithin 16 x.array × AreSlots x.slots))
unfolding simple.deallocate
deallocate_builds = turned combined.array_slots _ _ (λ x. record { line = x.line; operation = op.Deallocate x.array x.slots }) array_slots_reads
