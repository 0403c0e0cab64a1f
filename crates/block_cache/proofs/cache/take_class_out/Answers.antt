use Rattle.std.proofs.Common.{rules, not}
use Rattle.arrayvec.proofs.ArrayVecLemmas.{filter-from_retain}
use Rattle.block_cache.proofs.cache.take_class_out.Goals as goal
use Rattle.sial_syntax.specs.Spaces.{same_class}

pub returns-clause-items : goal.returns-clause-items
returns-clause-items c = filter-from_retain _ (λ block. not (same_class c.args.class block.0)) _ (λ x b f' y called. search rules) _ _ c.retain.ensures.filtered
