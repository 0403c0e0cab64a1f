use Rattle.std.proofs.Common.{◌≡◌, ◌*◌, ◌^◌, ◌≤◌, take}
use Rattle.sip_setting.specs.Seen.{setting_of}
use Rattle.sial_syntax.specs.Spaces.{blocks_together}
use Rattle.exec_blocks.proofs.opening.together.Given as goal

-- the blocks of the arrays up to here
abbrev pub invariant-loop-array : goal.invariant-loop-array
invariant-loop-array l = record {
  counted : l.total ≡ blocks_together (setting_of l.job).spaces l.kind (take l.array (setting_of l.job).program.arrays);
  few : l.total ≤ l.array * 2 ^ 32;
}
