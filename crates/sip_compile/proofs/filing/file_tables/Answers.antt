use Rattle.std.proofs.Common.{rules}
use Rattle.table_file.specs.Bytes.{bytes}
use Rattle.sip_compile.proofs.FilingLemmas.{filed, unfiled}
use Rattle.sip_compile.proofs.filing.file_tables.Goals as goal

pub returns-in-Ok-clause-filed : goal.returns-in-Ok-clause-filed
returns-in-Ok-clause-filed g c =
    filed c.add_tables.result (g.F.Files.told c.args.files.now) (g.F.Files.told c.clear.new.self) (g.F.Files.told c.add_tables.new.files)
    c.args.name.now (bytes c.args.tables.now) c.in-Ok.ensures.ok c.add_tables.ensures.ok

pub returns-in-Ok-clause-unfiled : goal.returns-in-Ok-clause-unfiled
returns-in-Ok-clause-unfiled g c =
    unfiled c.add_tables.result (g.F.Files.told c.args.files.now) (g.F.Files.told c.clear.new.self) (g.F.Files.told c.add_tables.new.files)
    c.args.name.now (bytes c.args.tables.now)
    (g.F.Files.faults c.args.files.now) (g.F.Files.faults c.clear.new.self) (g.F.Files.faults c.add_tables.new.files)
    c.in-Ok.ensures.ok (search rules) c.add_tables.ensures.cause c.add_tables.ensures.part
