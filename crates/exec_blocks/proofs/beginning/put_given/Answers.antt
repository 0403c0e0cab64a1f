use Rattle.std.proofs.Common.{◌≡◌, ◌<◌, ◌+◌, List, [], drop, map, length, ap, subst, arith}
use Rattle.sip_setting.specs.Given.{given}
use Rattle.sip_setting.specs.Seen.{setting_of}
use Rattle.index_spaces.specs.Starting.{given_of}
use Rattle.index_spaces.specs.declared.start.StartBlock.{StartBlock}
use Rattle.sial_meaning.specs.Setting.{Given, block_words}
use Rattle.exec_blocks.specs.Starting.{AreGiven, AreStartBut}
use Rattle.exec_blocks.proofs.AllocateLemmas.{drop-end}
use Rattle.exec_blocks.proofs.StartLemmas.{Starting, first-fits, left-at, starting-next, starting-none}
use Rattle.exec_blocks.proofs.beginning.put_given.Goals as goal

pub loop-block-init : goal.loop-block-init
loop-block-init c =
    starting-none (setting_of c.args.job.now) c.args.pool.now c.args.seats.now _ c.spaces-spaces.ensures.sound c.start_blocks-blocks.ensures c.requires.room

pub put_if_static-requires-clause-fits : goal.put_if_static-requires-clause-fits
put_if_static-requires-clause-fits c =
    let g = setting_of c.args.job.now in
    let left = left-at c.start_blocks-blocks.result.now c.loop-block.block-index c.block-item.result (omega (arith, c.loop-block-test.true)) c.block-item.is in
    first-fits g (given (given_of c.block-item.result)) (map given (map given_of (drop (c.loop-block.block-index + 1) c.start_blocks-blocks.result.now)))
    (subst (λ (bs : List Given). AreGiven g bs) left c.loop-block.invariant.given)

pub put_if_static-requires-clause-wide : goal.put_if_static-requires-clause-wide
put_if_static-requires-clause-wide c = λ a n is below. c.loop-block.invariant.wide (block_words (setting_of c.args.job.now) a n) (c.requires.wide a n is below)

pub loop-block-preserved : goal.loop-block-preserved
loop-block-preserved c =
    let g = setting_of c.args.job.now in
    let rest = map given (map given_of (drop (c.loop-block.block-index + 1) c.start_blocks-blocks.result.now)) in
    let left = left-at c.start_blocks-blocks.result.now c.loop-block.block-index c.block-item.result (omega (arith, c.loop-block-test.true)) c.block-item.is in
    starting-next g c.args.pool.now c.args.seats.now c.loop-block.seats c.put_if_static.new.seats (given (given_of c.block-item.result)) rest
    (first-fits g (given (given_of c.block-item.result)) rest (subst (λ (bs : List Given). AreGiven g bs) left c.loop-block.invariant.given)) c.put_if_static.ensures.fixed c.put_if_static.ensures.other
    (subst (λ (bs : List Given). Starting g c.args.pool.now c.args.seats.now c.loop-block.pool c.loop-block.seats bs) left c.loop-block.invariant)

pub returns-clause-start : goal.returns-clause-start
returns-clause-start c = λ start.
    let g = setting_of c.args.job.now in
    let blocks = c.start_blocks-blocks.result.now in
    let none = ap (λ (bs : List StartBlock). map given (map given_of bs)) (drop-end blocks c.loop-block.block-index (omega (arith, c.loop-block-test.false))) in
    subst (λ (bs : List Given). AreStartBut g c.loop-block.pool c.loop-block.seats bs) none (c.loop-block.invariant.start start)
