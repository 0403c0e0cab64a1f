use Rattle.std.proofs.Common.{rules}
use Rattle.block_pool.proofs.LeaseLists.{holds_two, frames_two}
use Rattle.memory_tests.proofs.worker.end_blocks.Goals as goal

pub end_both-requires : goal.end_both-requires
end_both-requires c = holds_two c.args.blocks c.requires (search rules) (search rules) (search rules)

pub returns : goal.returns
returns c = frames_two c.args.blocks c.end_both.ensures (search rules) (search rules) (search rules)
