use Rattle.std.proofs.Common.{true, sym, subst}
use Rattle.sip_setting.specs.Seen.{setting_of}
use Rattle.sial_syntax.specs.declared.access.Class.TheVariants as class
use Rattle.sial_meaning.specs.Own.{with_created}
use Rattle.sial_meaning.specs.State.{Shared, with_zeros}
use Rattle.shared_blocks.specs.Standing.{SharedStand}
use Rattle.shared_blocks.proofs.StandLemmas.{create-stands}
use Rattle.shared_blocks.proofs.blocks.SharedBlocks.create.Goals as goal

pub returns-clause-stands : goal.returns-clause-stands
returns-clause-stands c = λ own shared was.
    let g = setting_of c.args.job.now in
    subst (λ (held : Shared). SharedStand g held (with_created c.args.array true own) (with_zeros g c.args.array class.Distributed shared)) (sym c.zero_array.ensures)
    (create-stands g c.args.self.now shared own c.args.array c.requires.kind was)
