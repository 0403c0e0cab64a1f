use Rattle.std.proofs.Common.{[], ◌∷◌}
use Rattle.block_pool.specs.declared.state.State.TheVariants.{Owned}
use Rattle.block_pool.proofs.Closing.{holds_popped, frames_popped}
use Rattle.block_pool.proofs.Frames.{frames_then}
use Rattle.memory_tests.proofs.worker.end_both.Goals as goal

pub end_block-requires : goal.end_block-requires
end_block-requires c = λ x e. c.requires.stands 1 x e

pub end_block-requires-2 : goal.end_block-requires-2
end_block-requires-2 c = λ x e.
    let gave = c.end_block.ensures in
    (holds_popped _ _ Owned c.args.second gave.some gave.none (c.args.first ∷ []) c.requires).stands 0 x e

pub returns : goal.returns
returns c =
    let gave = c.end_block.ensures in
    let then_gave = c.end_block-2.ensures in
    frames_then (frames_popped _ _ Owned c.args.second gave.some gave.none (c.args.first ∷ [])) (frames_popped _ _ Owned c.args.first then_gave.some then_gave.none [])
