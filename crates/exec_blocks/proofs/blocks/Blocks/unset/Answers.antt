use Rattle.std.proofs.Common.{◌≡◌, ℕ, length, sym, ap, ◌∙◌, subst}
use Rattle.sip_setting.specs.Seen.{setting_of}
use Rattle.sial_meaning.specs.Own.{unset}
use Rattle.block_seats.specs.Leaving.{Leaves}
use Rattle.block_seats.specs.Seated.{Seated}
use Rattle.block_seats.proofs.LeavingLemmas.{leaves-then}
use Rattle.exec_blocks.specs.Clearing.{Clears, Forgets}
use Rattle.exec_blocks.specs.Kept.{Kept}
use Rattle.exec_blocks.specs.Standing.{BlocksStand}
use Rattle.exec_blocks.proofs.ClearLemmas.{clears-at}
use Rattle.exec_blocks.proofs.UnsetLemmas.{unset-stands}
use Rattle.exec_blocks.proofs.blocks.Blocks.unset.Goals as goal

pub returns-clause-leaves : goal.returns-clause-leaves
returns-clause-leaves c =
    leaves-then c.unset_locals.ensures.forgets.leaves
    (subst (λ (s : Seated). Leaves c.unset_locals.new.pool c.clear_run.new.pool s.slots c.clear_run.new.seats.slots) (ap (λ (k : Kept). k.seats) c.self-2.view_is) c.clear_run.ensures.leaves)

pub returns-clause-does : goal.returns-clause-does
returns-clause-does c = λ own stands.
    let g = setting_of c.args.job.now in
    let b = c.args.self.now in
    let mid = c.unset_locals.new.self.seats in
    let after = c.clear_run.new.seats in
    let count : c.arrays_len-arrays.result ≡ length g.program.arrays = c.arrays_len-arrays.ensures.count in
    let forgets : Forgets g b c.args.pool.now c.unset_locals.new.pool b.seats mid (length g.program.arrays) =
    subst (λ (n : ℕ). Forgets g b c.args.pool.now c.unset_locals.new.pool b.seats mid n) count c.unset_locals.ensures.forgets in
    let clears : Clears c.unset_locals.new.pool c.clear_run.new.pool mid after b.temps_at (length g.program.arrays) =
    clears-at (ap (λ (k : Kept). k.seats) c.self-2.view_is) (ap (λ (k : Kept). k.temps_at) c.self-2.view_is ∙ ap (λ (k : Kept). k.temps_at) c.unset_locals.ensures.same) count c.clear_run.ensures in
    subst (λ (k : Kept). BlocksStand g c.clear_run.new.pool k (unset g own)) (sym (ap (λ (k : Kept). record k { seats = after }) (c.self-2.view_is ∙ c.unset_locals.ensures.same)))
    (unset-stands g b mid after own c.requires.stands.laid forgets clears stands)
