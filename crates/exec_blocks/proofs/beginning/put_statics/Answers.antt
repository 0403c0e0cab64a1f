use Rattle.std.proofs.Common.{length}
use Rattle.sip_setting.specs.Seen.{setting_of}
use Rattle.exec_blocks.proofs.StartLemmas.{start-zeros}
use Rattle.exec_blocks.proofs.beginning.put_statics.Goals as goal

pub returns-clause-opens : goal.returns-clause-opens
returns-clause-opens c = c.put_given.ensures.opens c.args.pool.now (length c.args.seats.now.slots) c.put_zeros.ensures.opens

pub returns-clause-start : goal.returns-clause-start
returns-clause-start c = c.put_given.ensures.start (start-zeros (setting_of c.args.job.now) c.put_zeros.new.pool c.put_zeros.new.seats c.put_zeros.ensures.zeros)
