use Rattle.sip_files.specs.Loading.{Loading}
use Rattle.sip_compile.specs.Filing.{Holds, IsUnfiled}
use Rattle.sip_compile.proofs.CompilingLemmas.{for_table}
use Rattle.sip_compile.proofs.compiling.compile_program.Goals as goal

pub returns-in-Ok-file_tables-clause-compiled : goal.returns-in-Ok-file_tables-clause-compiled
returns-in-Ok-file_tables-clause-compiled g c =
    let found = c.in-Ok.ensures.ruled in (
      c.load_program.new.files,
      record { counts = c.file_tables.ensures.counts; overlong_stays = c.file_tables.ensures.overlong },
      for_table (Loading g.F.Files.load_gives g.F.Files.told g.F.Files.faults g.F.Files.overlong) c.args.files.now c.load_program.new.files
          c.args.program.now found.0 c.in-Ok.ruled c.in-Ok-compile.tables (λ whole. Holds (g.F.Files.told c.file_tables.new.files) c.args.table.now whole)
          found.1 found.2 c.in-Ok-compile.ensures.value c.in-Ok-file_tables.ensures.filed,
    )

pub returns-clause-fault : goal.returns-clause-fault
returns-clause-fault g c =
    let found = c.in-Ok.ensures.ruled in (
      c.load_program.new.files,
      record { counts = c.file_tables.ensures.counts; overlong_stays = c.file_tables.ensures.overlong },
      for_table (Loading g.F.Files.load_gives g.F.Files.told g.F.Files.faults g.F.Files.overlong) c.args.files.now c.load_program.new.files
          c.args.program.now found.0 c.in-Ok.ruled c.in-Ok-compile.tables
          (λ whole. IsUnfiled (g.F.Files.told c.file_tables.new.files) c.args.table.now whole (g.F.Files.faults c.load_program.new.files) (g.F.Files.faults c.file_tables.new.files))
          found.1 found.2 c.in-Ok-compile.ensures.value c.in-Err-file_tables.ensures.unfiled,
    )
