use Rattle.exec_core.proofs.StandLemmas.{flag_set}
use Rattle.exec_core.proofs.local.Local.set_created.Goals as goal

pub returns : goal.returns
returns c = λ g p rest own partials st. flag_set g p c.args.self.now c.flag.new.self rest own partials c.args.array c.args.created st c.flag.ensures
