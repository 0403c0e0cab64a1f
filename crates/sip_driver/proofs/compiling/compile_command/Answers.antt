use Rattle.std.proofs.Common.{subst}
use Rattle.sip_compile.specs.Compiling.{FailsToCompile}
use Rattle.sip_compile.specs.declared.fault.CompileFault.{CompileFault}
use Rattle.sip_compile.specs.declared.fault.CompileFault.TheVariants.{Refused}
use Rattle.sip_compile.specs.Filing.{WritesAlone}
use Rattle.sip_files.specs.Loading.{Loading}
use Rattle.sip_driver.specs.Says.{Says}
use Rattle.sip_driver.proofs.CompileLemmas.{compile_refused}
use Rattle.sip_driver.proofs.compiling.compile_command.Goals as goal

pub returns-in-Err-Refused-clause-answers : goal.returns-in-Err-Refused-clause-answers
returns-in-Err-Refused-clause-answers g c =
    let load = Loading g.F.Files.load_gives g.F.Files.told g.F.Files.faults g.F.Files.overlong in
    let refuses : FailsToCompile load (WritesAlone g.F.Files.faults g.F.Files.overlong) g.F.Files.told g.F.Files.faults c.args.files.now c.compile_program.new.files c.args.program.now c.args.table.now (Refused c.in-Err-Refused.refusal) =
    subst (λ (f : CompileFault). FailsToCompile load (WritesAlone g.F.Files.faults g.F.Files.overlong) g.F.Files.told g.F.Files.faults c.args.files.now c.compile_program.new.files c.args.program.now c.args.table.now f)
    c.in-Err-Refused.field-0-is c.in-Err-Refused.ensures.fault in
    compile_refused load (WritesAlone g.F.Files.faults g.F.Files.overlong) g.F.Files.told g.F.Files.faults
    c.args.files.now c.compile_program.new.files c.args.program.now c.args.table.now
    (Says g.K.Sink.written g.K.Sink.faults c.args.err.now c.refuse.new.err)
    c.refuse.result.0 c.in-Err-Refused.refusal refuses.0 c.refuse.ensures.says c.refuse.ensures.status refuses.1
