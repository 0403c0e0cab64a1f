use Rattle.sial_syntax.specs.Tree.{tree}
use Rattle.first_profile.proofs.SegmentLemmas.{segment-there}
use Rattle.first_profile.proofs.start.zero_block.Goals as goal

pub segment-len-requires-clause-some : goal.segment-len-requires-clause-some
segment-len-requires-clause-some c =
    (segment-there (tree c.args.granted.now.program) c.args.granted.now.spaces.spaces c.args.index c.args.number c.requires.setting.ready.spaces c.requires.from c.requires.below).0

pub segment-len-requires-clause-within : goal.segment-len-requires-clause-within
segment-len-requires-clause-within c =
    (segment-there (tree c.args.granted.now.program) c.args.granted.now.spaces.spaces c.args.index c.args.number c.requires.setting.ready.spaces c.requires.from c.requires.below).1
