use Rattle.std.proofs.Common.{ap, map}
use Rattle.sial_syntax.specs.Tree.{block, procedure, tree}
use Rattle.table_compiler.proofs.ProgramLemmas.{all_code}
use Rattle.table_compiler.proofs.compiler.code.Goals as goal

pub returns : goal.returns
returns c =
    all_code (tree c.args.program.now) c.args.entries.now (block c.as_slice.result.now) (map procedure c.as_slice-2.result.now) c.args.flat.now c.body.new.flat c.put.new.self c.procedures_code.new.flat
    c.requires.entries (ap block c.as_slice.ensures.value) (ap (map procedure) c.as_slice-2.ensures.value) c.requires.empty c.in_ok-body.ensures c.in_ok-put.ensures c.in_ok-procedures_code.ensures
