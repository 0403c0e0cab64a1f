use Rattle.std.proofs.Common.{rules}
use Rattle.sip_files.specs.Writing.{bytes_of}
use Rattle.table_file.specs.Bytes.{bytes}
use Rattle.sip_compile.proofs.FilingLemmas.{same_part}
use Rattle.sip_compile.proofs.filing.add_tables.Goals as goal

pub returns-clause-part : goal.returns-clause-part
returns-clause-part g c =
    same_part c.encode.result
    (bytes_of (g.F.Files.told c.args.files.now) c.args.name.now)
    (bytes_of (g.F.Files.told c.encode.new.sink.files.now) c.encode.new.sink.name.now)
    _
    (bytes c.args.tables.now)
    (search rules)
    c.encode.ensures.wrote.err
