-- Where a statement of a sound program stands, the blocks that it names are those of its arrays.
use Rattle.std.proofs.Common.{ℕ, ◌<◌, List, length}
use Rattle.sial_syntax.specs.declared.operand.BlockRef.{BlockRef}
use Rattle.sial_meaning.specs.Setting.{Setting}
use Rattle.sial_meaning.specs.Sound.{IsSound}
use Rattle.sial_meaning.proofs.Granted.Ranges.{InRange}
use Rattle.sial_meaning.proofs.WritesFitTheirBlocks.Blocks.{Fit}
use Rattle.exec_names.proofs.NamedLemmas.{named-block}
use Rattle.exec_blocks.specs.Standing.{IsNamed}

-- a block whose indices are bound within their ranges, of a declared array
pub named-is : (g : Setting) (bound values : List ℕ) (block : BlockRef) → IsSound g → InRange g bound values → Fit g bound block → block.array < length g.program.arrays → IsNamed g values block
named-is g bound values block sound in-range fit declared = record {
  declared = declared;
  rank = fit.long;
  among = λ other. named-block g bound values block sound in-range fit other;
}
