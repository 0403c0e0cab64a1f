use Rattle.std.proofs.Common.{◌+◌, drop, List, map, ap, subst, arith}
use Rattle.sip_setting.specs.Given.{given}
use Rattle.sip_setting.specs.Seen.{setting_of}
use Rattle.index_spaces.specs.Starting.{given_of}
use Rattle.index_spaces.specs.declared.start.StartBlock.{StartBlock}
use Rattle.sial_meaning.specs.Setting.{Given}
use Rattle.exec_blocks.specs.Starting.{AreGiven}
use Rattle.exec_blocks.proofs.AllocateLemmas.{drop-end}
use Rattle.exec_blocks.proofs.StartLemmas.{first-fits, left-at}
use Rattle.shared_blocks.specs.Starting.{AreStartBut}
use Rattle.shared_blocks.proofs.StartLemmas.{Starting, starting-next}
use Rattle.shared_blocks.proofs.starting.put_given.Goals as goal

pub loop-block-preserved : goal.loop-block-preserved
loop-block-preserved c =
    let g = setting_of c.args.job.now in
    let rest = map given (map given_of (drop (c.loop-block.block-index + 1) c.start_blocks-blocks.result.now)) in
    let left = left-at c.start_blocks-blocks.result.now c.loop-block.block-index c.block-item.result (omega (arith, c.loop-block-test.true)) c.block-item.is in
    starting-next g c.args.served.now c.loop-block.served c.put_if_served.new.served (given (given_of c.block-item.result)) rest
    (first-fits g (given (given_of c.block-item.result)) rest (subst (λ (bs : List Given). AreGiven g bs) left c.loop-block.invariant.given)) c.put_if_served.ensures.served c.put_if_served.ensures.other
    (subst (λ (bs : List Given). Starting g c.args.served.now c.loop-block.served bs) left c.loop-block.invariant)

pub returns-clause-start : goal.returns-clause-start
returns-clause-start c = λ start.
    let g = setting_of c.args.job.now in
    let blocks = c.start_blocks-blocks.result.now in
    let none = ap (λ (bs : List StartBlock). map given (map given_of bs)) (drop-end blocks c.loop-block.block-index (omega (arith, c.loop-block-test.false))) in
    subst (λ (bs : List Given). AreStartBut g c.loop-block.served bs) none (c.loop-block.invariant.start start)
