use Rattle.table_compiler.proofs.NameLemmas.{all_names, as_many}
use Rattle.table_compiler.proofs.declared.declare.Goals as goal

pub procedures-requires : goal.procedures-requires
procedures-requires c = as_many c.args.program.now c.args.entries.now c.as_slice-4.result.now c.requires.entries c.as_slice-4.ensures.value

pub returns-clause-texts : goal.returns-clause-texts
returns-clause-texts c =
    all_names c.args.program.now c.as_slice.result.now c.as_slice-2.result.now c.as_slice-3.result.now c.as_slice-4.result.now c.args.flat.now c.name.new.self c.indices.new.flat c.arrays.new.flat c.scalars.new.flat c.procedures.new.flat
    c.as_slice.ensures.value c.as_slice-2.ensures.value c.as_slice-3.ensures.value c.as_slice-4.ensures.value c.in_ok-name.ensures.texts c.in_ok-indices.ensures.texts c.in_ok-arrays.ensures.texts c.in_ok-scalars.ensures.texts c.in_ok-procedures.ensures.texts
