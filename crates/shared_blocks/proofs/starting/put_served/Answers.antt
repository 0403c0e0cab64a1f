use Rattle.std.proofs.Common.{refl, arith}
use Rattle.sip_setting.specs.Given.{given}
use Rattle.sip_setting.specs.Seen.{setting_of}
use Rattle.sial_syntax.specs.declared.array.ArrayKind.TheVariants.{Served}
use Rattle.index_spaces.specs.Starting.{given_of}
use Rattle.exec_blocks.proofs.StartLemmas.{given-below}
use Rattle.shared_blocks.proofs.SetLemmas.{within}
use Rattle.shared_blocks.proofs.starting.put_served.Goals as goal

pub words_mut-words-requires : goal.words_mut-words-requires
words_mut-words-requires c =
    let g = setting_of c.args.job.now in
    let b = c.args.block.now in
    let inside = within g Served c.args.served.now b.array b.number refl c.requires.kind (given-below g (given (given_of b)) c.requires.fits).0 c.requires.whole in
    omega (arith, inside, c.first_block-first.ensures.value)
