use Rattle.std.proofs.Common.{sym, subst}
use Rattle.sial_meaning.specs.State.{Shared, accessed_words, shared_block, with_block}
use Rattle.shared_blocks.specs.Standing.{SharedStand}
use Rattle.shared_blocks.proofs.StandLemmas.{put-stands}
use Rattle.shared_blocks.proofs.blocks.SharedBlocks.put.Goals as goal

pub returns-clause-stands : goal.returns-clause-stands
returns-clause-stands c = λ g own shared was.
    subst (λ (held : Shared). SharedStand g held own (with_block shared c.args.class c.args.block (accessed_words c.args.how (shared_block shared c.args.class c.args.block) c.args.from.now))) (sym c.meet_block.ensures)
    (put-stands g c.args.self.now shared own c.args.class c.args.block c.args.how c.args.from.now c.requires.within c.requires.len was)
