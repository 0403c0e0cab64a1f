use Rattle.std.proofs.Common.{[], ◌∷◌}
use Rattle.block_pool.specs.declared.state.State.TheVariants.{Cached, Sending}
use Rattle.block_pool.proofs.Closing.{kept_beside, frames_beside}
use Rattle.block_pool.proofs.Frames.{frames_then}
use Rattle.memory_tests.proofs.worker.close.Goals as goal

pub end_put-requires : goal.end_put-requires
end_put-requires c = λ x e. c.requires.sending.stands 0 x e

pub end_cached-requires : goal.end_cached-requires
end_cached-requires c = λ x e.
    let put = c.end_put.ensures in
    let held = kept_beside _ _ Sending c.args.worker.put put.some put.none (λ y f. c.requires.sending.stands 0 y f) (λ z. absurd cc) (c.args.worker.cached ∷ []) c.requires.cached in
    held.stands 0 x e

pub end_blocks-requires : goal.end_blocks-requires
end_blocks-requires c =
    let put = c.end_put.ensures in
    let cached = c.end_cached.ensures in
    let held = kept_beside _ _ Sending c.args.worker.put put.some put.none (λ y f. c.requires.sending.stands 0 y f) (λ z. absurd cc) (c.args.worker.cached ∷ []) c.requires.cached in
    let owned = kept_beside _ _ Sending c.args.worker.put put.some put.none (λ y f. c.requires.sending.stands 0 y f) (λ z. absurd cc) c.args.worker.blocks c.requires.owned in
    kept_beside _ _ Cached c.args.worker.cached cached.some cached.none (λ y f. held.stands 0 y f) (λ z. absurd cc) c.args.worker.blocks owned

pub returns : goal.returns
returns c =
    let put = c.end_put.ensures in
    let cached = c.end_cached.ensures in
    let held = kept_beside _ _ Sending c.args.worker.put put.some put.none (λ y f. c.requires.sending.stands 0 y f) (λ z. absurd cc) (c.args.worker.cached ∷ []) c.requires.cached in
    frames_then
    (frames_then
    (frames_beside _ _ Sending c.args.worker.put put.some put.none (λ y f. c.requires.sending.stands 0 y f) (λ z. absurd cc) c.args.worker.blocks)
    (frames_beside _ _ Cached c.args.worker.cached cached.some cached.none (λ y f. held.stands 0 y f) (λ z. absurd cc) c.args.worker.blocks))
    c.end_blocks.ensures
