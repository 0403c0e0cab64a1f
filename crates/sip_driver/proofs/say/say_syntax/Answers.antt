use Rattle.std.specs.Prelude.{codes}
use Rattle.sip_driver.specs.Kinds.{syntax_told, file_told, tables_told}
use Rattle.sip_driver.specs.Seen.{told_of}
use Rattle.sip_driver.proofs.SaysLemmas.{says_syntax, says_told}
use Rattle.sip_grant.specs.declared.refusal.SyntaxFault.TheVariants.{Text, File, Tables}
use Rattle.sip_driver.proofs.say.say_syntax.Goals as goal

pub returns-in-Text-clause-says : goal.returns-in-Text-clause-says
returns-in-Text-clause-says g c =
    says_syntax g.K.Sink.written g.K.Sink.faults c.args.err.now c.say_told.new.err c.args.fault (Text c.in-Text.fault) c.in-Text.is
    (says_told g.K.Sink.written g.K.Sink.faults c.args.err.now c.say_told.new.err (codes "sip: syntax line ") (told_of c.syntax_told.result) (syntax_told c.in-Text.fault) c.syntax_told.ensures c.say_told.ensures.says)

pub returns-in-File-clause-says : goal.returns-in-File-clause-says
returns-in-File-clause-says g c =
    says_syntax g.K.Sink.written g.K.Sink.faults c.args.err.now c.say_told-in-File.new.err c.args.fault (File c.in-File.fault) c.in-File.is
    (says_told g.K.Sink.written g.K.Sink.faults c.args.err.now c.say_told-in-File.new.err (codes "sip: table at ") (told_of c.file_told.result) (file_told c.in-File.fault) c.file_told.ensures c.say_told-in-File.ensures.says)

pub returns-in-Tables-clause-says : goal.returns-in-Tables-clause-says
returns-in-Tables-clause-says g c =
    says_syntax g.K.Sink.written g.K.Sink.faults c.args.err.now c.say_told-in-Tables.new.err c.args.fault (Tables c.in-Tables.fault) c.in-Tables.is
    (says_told g.K.Sink.written g.K.Sink.faults c.args.err.now c.say_told-in-Tables.new.err (codes "sip: table instruction ") (told_of c.tables_told.result) (tables_told c.in-Tables.fault) c.tables_told.ensures c.say_told-in-Tables.ensures.says)
