use Rattle.std.proofs.Common.{ℕ, List, refl, sym, subst}
use Rattle.sip_setting.specs.Seen.{setting_of}
use Rattle.sial_syntax.specs.declared.array.ArrayKind.TheVariants.{Served}
use Rattle.sial_meaning.specs.Own.{start_own}
use Rattle.sial_meaning.specs.State.{start_state}
use Rattle.shared_blocks.specs.Standing.{AreWhole, SharedStand}
use Rattle.shared_blocks.specs.Starting.{AreStartBut}
use Rattle.shared_blocks.proofs.BeginLemmas.{begins, zeros-start, zeros-whole}
use Rattle.shared_blocks.proofs.blocks.SharedBlocks.open.Goals as goal

pub put_given-requires : goal.put_given-requires
put_given-requires c =
    let g = setting_of c.args.job.now in
    subst (λ (blocks : List (List ℕ)). AreWhole g Served blocks) (sym c.in_ok-served.ensures) (zeros-whole g Served refl)

pub returns : goal.returns
returns c =
    let g = setting_of c.args.job.now in
    let start = c.put_given.ensures.start (subst (λ (blocks : List (List ℕ)). AreStartBut g blocks g.blocks) (sym c.in_ok-served.ensures) (zeros-start g)) in
    subst (λ (blocks : List (List ℕ)). SharedStand g (record { distributed = blocks; served = c.put_given.new.served }) (start_own g) (start_state g).shared) (sym c.in_ok-distributed.ensures)
    (begins g c.put_given.new.served c.put_given.ensures.sound c.put_given.ensures.whole start)
