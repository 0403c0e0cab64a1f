use Rattle.std.proofs.Common.{arith}
use Rattle.sip_setting.specs.Seen.{setting_of}
use Rattle.exec_control.proofs.StartLemmas.{opened, starts}
use Rattle.exec_control.proofs.control.Control.open.Goals as goal

pub returns-clause-starts : goal.returns-clause-starts
returns-clause-starts c sound =
    let f = c.if-code_len.false in
    starts (setting_of c.args.job.now) _ sound.setting.proper (omega (arith, f, c.code_len.ensures))
    (opened c.in_ok-numbers.numbers c.new.result.items c.new-2.result.items c.indices_len.result _ c.in_ok-numbers.ensures c.indices_len.ensures.count c.new.ensures c.new-2.ensures)
