use Rattle.sip_grant.specs.Names.{named}
use Rattle.sip_driver.specs.Says.{Says}
use Rattle.sip_driver.proofs.RunLemmas.{run_refused, run_not_first, run_not_written}
use Rattle.sip_driver.proofs.running.run_command.Goals as goal

pub returns-in-Refused-clause-answers : goal.returns-in-Refused-clause-answers
returns-in-Refused-clause-answers g c =
    run_refused g.F.Files.load_gives g.F.Files.told g.F.Files.faults g.F.Files.overlong c.args.files.now c.perform.new.files
    (named c.args.program.now c.args.input.now) g.K.Sink.written g.K.Sink.faults c.args.out.now c.perform.new.out
    (Says g.K.Sink.written g.K.Sink.faults c.args.err.now c.refuse.new.err)
    c.refuse.result.0 c.in-Refused.refusal c.in-Refused.ensures.performs.0 c.in-Refused.ensures.performs.1 c.refuse.ensures.says c.refuse.ensures.status

pub returns-in-NotFirst-clause-answers : goal.returns-in-NotFirst-clause-answers
returns-in-NotFirst-clause-answers g c =
    run_not_first g.F.Files.load_gives g.F.Files.told g.F.Files.faults g.F.Files.overlong c.args.files.now c.perform.new.files
    (named c.args.program.now c.args.input.now) g.K.Sink.written g.K.Sink.faults c.args.out.now c.perform.new.out
    (Says g.K.Sink.written g.K.Sink.faults c.args.err.now c.say.new.err)
    c.in-NotFirst.ensures.performs.0 c.in-NotFirst.ensures.performs.1 c.say.ensures.says

pub returns-in-NotWritten-clause-answers : goal.returns-in-NotWritten-clause-answers
returns-in-NotWritten-clause-answers g c =
    run_not_written g.F.Files.load_gives g.F.Files.told g.F.Files.faults g.F.Files.overlong c.args.files.now c.perform.new.files
    (named c.args.program.now c.args.input.now) g.K.Sink.written g.K.Sink.faults c.args.out.now c.perform.new.out
    (Says g.K.Sink.written g.K.Sink.faults c.args.err.now c.say-in-NotWritten.new.err)
    c.in-NotWritten.ensures.performs.0 c.in-NotWritten.ensures.performs.1 c.say-in-NotWritten.ensures.says
