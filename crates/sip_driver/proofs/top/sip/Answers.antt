use Rattle.std.proofs.Common.{inl, inr, rules}
use Rattle.sip_files.specs.Loading.{Loading}
use Rattle.sip_grant.specs.Names.{named}
use Rattle.sip_words.specs.Requests.{compile}
use Rattle.sip_driver.specs.Asked.{AskFor, SpellNothing, run_of}
use Rattle.sip_driver.specs.Says.{Says}
use Rattle.sip_driver.proofs.TopLemmas.{for_run_fault, for_run_rule, for_run_input, for_run_memory, for_table_rule, unreadable_names, nothing_unreadable, table_unreadable, run_line, compile_line}
use Rattle.sip_driver.proofs.top.sip.Goals as goal

pub returns-in-Ok-Run-clause-done : goal.returns-in-Ok-Run-clause-done
returns-in-Ok-Run-clause-done g c =
    let names = named c.in-Ok-Run.program.now c.in-Ok-Run.input.now in
    let asks : AskFor c.args.words.now (run_of names) = search rules in
    let a = c.run_command.ensures.answers in
    λ e. inl (names, asks, a.done e)

pub returns-in-Ok-Run-clause-unread : goal.returns-in-Ok-Run-clause-unread
returns-in-Ok-Run-clause-unread g c =
    let names = named c.in-Ok-Run.program.now c.in-Ok-Run.input.now in
    let asks : AskFor c.args.words.now (run_of names) = search rules in
    let a = c.run_command.ensures.answers in
    λ e. inl (names, asks, a.unread e)

pub returns-in-Ok-Run-clause-unreadable : goal.returns-in-Ok-Run-clause-unreadable
returns-in-Ok-Run-clause-unreadable g c =
    let names = named c.in-Ok-Run.program.now c.in-Ok-Run.input.now in
    let asks : AskFor c.args.words.now (run_of names) = search rules in
    let a = c.run_command.ensures.answers in
    unreadable_names (Loading g.F.Files.load_gives g.F.Files.told g.F.Files.faults g.F.Files.overlong) c.args.files.now c.run_command.new.files (Says g.K.Sink.written g.K.Sink.faults c.args.err.now c.run_command.new.err) c.args.words.now names asks c.run_command.result.0 (g.F.Files.told c.args.files.now) a.program_unreadable a.input_unreadable

pub returns-in-Ok-Run-clause-syntax : goal.returns-in-Ok-Run-clause-syntax
returns-in-Ok-Run-clause-syntax g c =
    let names = named c.in-Ok-Run.program.now c.in-Ok-Run.input.now in
    let asks : AskFor c.args.words.now (run_of names) = search rules in
    let a = c.run_command.ensures.answers in
    λ e. for_run_fault (Loading g.F.Files.load_gives g.F.Files.told g.F.Files.faults g.F.Files.overlong) c.args.files.now c.run_command.new.files (Says g.K.Sink.written g.K.Sink.faults c.args.err.now c.run_command.new.err) c.args.words.now names asks (a.syntax e)

pub returns-in-Ok-Run-clause-rule : goal.returns-in-Ok-Run-clause-rule
returns-in-Ok-Run-clause-rule g c =
    let names = named c.in-Ok-Run.program.now c.in-Ok-Run.input.now in
    let asks : AskFor c.args.words.now (run_of names) = search rules in
    let a = c.run_command.ensures.answers in
    λ e. for_run_rule (Loading g.F.Files.load_gives g.F.Files.told g.F.Files.faults g.F.Files.overlong) c.args.files.now c.run_command.new.files (Says g.K.Sink.written g.K.Sink.faults c.args.err.now c.run_command.new.err) c.args.words.now names asks (a.rule e)

pub returns-in-Ok-Run-clause-input : goal.returns-in-Ok-Run-clause-input
returns-in-Ok-Run-clause-input g c =
    let names = named c.in-Ok-Run.program.now c.in-Ok-Run.input.now in
    let asks : AskFor c.args.words.now (run_of names) = search rules in
    let a = c.run_command.ensures.answers in
    λ e. for_run_input (Loading g.F.Files.load_gives g.F.Files.told g.F.Files.faults g.F.Files.overlong) c.args.files.now c.run_command.new.files (Says g.K.Sink.written g.K.Sink.faults c.args.err.now c.run_command.new.err) c.args.words.now names asks (a.input e)

pub returns-in-Ok-Run-clause-not_written : goal.returns-in-Ok-Run-clause-not_written
returns-in-Ok-Run-clause-not_written g c =
    let names = named c.in-Ok-Run.program.now c.in-Ok-Run.input.now in
    let asks : AskFor c.args.words.now (run_of names) = search rules in
    let a = c.run_command.ensures.answers in
    λ e. let (rose, texts, said) = a.not_written e in inl (rose, (names, asks, texts), said)

pub returns-in-Ok-Run-clause-memory : goal.returns-in-Ok-Run-clause-memory
returns-in-Ok-Run-clause-memory g c =
    let names = named c.in-Ok-Run.program.now c.in-Ok-Run.input.now in
    let asks : AskFor c.args.words.now (run_of names) = search rules in
    let a = c.run_command.ensures.answers in
    λ e. for_run_memory (Loading g.F.Files.load_gives g.F.Files.told g.F.Files.faults g.F.Files.overlong) c.args.files.now c.run_command.new.files (Says g.K.Sink.written g.K.Sink.faults c.args.err.now c.run_command.new.err) c.args.words.now names asks g.K.Sink.written c.args.out.now c.run_command.new.out (a.memory e)

pub returns-in-Ok-Run-clause-line : goal.returns-in-Ok-Run-clause-line
returns-in-Ok-Run-clause-line g c =
    let a = c.run_command.ensures.answers in
    run_line (Says g.K.Sink.written g.K.Sink.faults c.args.err.now c.run_command.new.err) c.run_command.result.0 a.answers a.line

pub returns-in-Ok-Compile-clause-line : goal.returns-in-Ok-Compile-clause-line
returns-in-Ok-Compile-clause-line g c =
    let a = c.compile_command.ensures.answers in
    compile_line (Says g.K.Sink.written g.K.Sink.faults c.args.err.now c.compile_command.new.err) c.compile_command.result.0 a.answers a.line

pub returns-in-Ok-Compile-clause-unreadable : goal.returns-in-Ok-Compile-clause-unreadable
returns-in-Ok-Compile-clause-unreadable g c =
    let asks : AskFor c.args.words.now (compile c.in-Ok-Compile.program.now c.in-Ok-Compile.table.now) = search rules in
    table_unreadable c.args.words.now c.in-Ok-Compile.program.now c.in-Ok-Compile.table.now c.compile_command.result.0 (g.F.Files.told c.args.files.now) _ _ asks

pub returns-in-Ok-Compile-clause-syntax : goal.returns-in-Ok-Compile-clause-syntax
returns-in-Ok-Compile-clause-syntax g c = λ e.
    let asks : AskFor c.args.words.now (compile c.in-Ok-Compile.program.now c.in-Ok-Compile.table.now) = search rules in
    let found = c.compile_command.ensures.answers.syntax e in
    inl (found.0, inr (c.in-Ok-Compile.program.now, c.in-Ok-Compile.table.now, asks, found.1), found.2)

pub returns-in-Ok-Compile-clause-rule : goal.returns-in-Ok-Compile-clause-rule
returns-in-Ok-Compile-clause-rule g c = λ e.
    let asks : AskFor c.args.words.now (compile c.in-Ok-Compile.program.now c.in-Ok-Compile.table.now) = search rules in
    for_table_rule (Loading g.F.Files.load_gives g.F.Files.told g.F.Files.faults g.F.Files.overlong) c.args.files.now c.compile_command.new.files
    (Says g.K.Sink.written g.K.Sink.faults c.args.err.now c.compile_command.new.err) c.args.words.now c.in-Ok-Compile.program.now c.in-Ok-Compile.table.now asks (c.compile_command.ensures.answers.rule e)

pub returns-in-Err-Usage-clause-unreadable : goal.returns-in-Err-Usage-clause-unreadable
returns-in-Err-Usage-clause-unreadable g c =
    let nothing : SpellNothing c.args.words.now = search rules in
    nothing_unreadable c.args.words.now 1 (g.F.Files.told c.args.files.now) _ _ nothing
