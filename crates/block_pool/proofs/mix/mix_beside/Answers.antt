use Rattle.std.proofs.Common.{◌+◌, take, refl, slice_range}
use Rattle.block_pool.proofs.MixedRows.{meets_behind, meets_before}
use Rattle.block_pool.proofs.mix.mix_beside.Goals as goal

pub returns-then-from-to : goal.returns-then-from-to
returns-then-from-to c =
    let s = c.split_at_mut-front.ensures in
    rw (c.mix.ensures, s.front, s.back)
    (meets_behind c.args.how c.args.words.now (slice_range (take c.args.to c.args.words.now) c.args.from (c.args.from + c.args.len)) c.args.from c.args.to c.args.len refl (c.requires.before c.if-from-to.true) c.requires.from)

pub returns-else-from-to : goal.returns-else-from-to
returns-else-from-to c =
    let s = c.split_at_mut-front-else-from-to.ensures in
    meets_before c.args.how c.args.words.now c.split_at_mut-front-else-from-to.result.0.now c.split_at_mut-front-else-from-to.result.1.now c.mix-else-from-to.new.to c.args.from c.args.to c.args.len s.front s.back
    c.mix-else-from-to.ensures (c.requires.behind c.if-from-to.false) c.requires.from
