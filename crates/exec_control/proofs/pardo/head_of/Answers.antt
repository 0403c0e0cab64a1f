use Rattle.std.proofs.Common.{sym, ◌∙◌}
use Rattle.sip_setting.specs.Seen.{setting_of}
use Rattle.exec_control.proofs.PardoLemmas.{end_in_code, end_says, same_head}
use Rattle.exec_control.proofs.pardo.head_of.Goals as goal

pub instruction-requires : goal.instruction-requires
instruction-requires c = let s = c.requires.stands in end_in_code (setting_of c.args.job.now).program s.0 c.args.end s.1 s.2

pub indices_of-requires : goal.indices_of-requires
indices_of-requires c =
    let s = c.requires.stands in
    record { stands = (s.0, s.1, same_head c.in-EndPardo.head s.0.head (sym c.in-EndPardo.is ∙ end_says (setting_of c.args.job.now).program s.0 c.args.end c.instruction.result.now s.1 s.2 c.instruction.ensures)) }

pub returns-in-EndPardo : goal.returns-in-EndPardo
returns-in-EndPardo c pardo stands is =
    let head = same_head c.in-EndPardo.head pardo.head (sym c.in-EndPardo.is ∙ end_says (setting_of c.args.job.now).program pardo c.args.end c.instruction.result.now stands is c.instruction.ensures) in
    (head, c.indices_of.ensures pardo stands head)

pub returns-in_default : goal.returns-in_default
returns-in_default c pardo stands is =
    absurd (c.in_default.not-EndPardo pardo.head (end_says (setting_of c.args.job.now).program pardo c.args.end c.instruction.result.now stands is c.instruction.ensures))
