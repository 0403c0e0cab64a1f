use Rattle.std.proofs.Common.{◌≡◌, ◌<◌, ◌+◌, ◌%◌, ◌^◌, arith, refl, get_or, length, subst, sym}
use Rattle.kernel_contract.proofs.PartLemmas.{Replaced-next}
use Rattle.kernel_contract.proofs.storing.store_row.Goals as goal

pub loop-j-preserved : goal.loop-j-preserved
loop-j-preserved c =
    rw c.meet.ensures (Replaced-next c.args.how _ _ c.loop-j.j c.args.columns.now.len (length c.args.to.now) c.args.to.now c.loop-j.to _ _ c.loop-j-test.true c.requires.targets
    (subst (λ n. (c.args.row + get_or c.args.columns.now.to c.loop-j.j 0) % 2 ^ 64 < n) (sym c.loop-j.invariant.len)
    (c.requires.targets.within 0 c.loop-j.j (omega arith) c.loop-j-test.true))
    c.loop-j.invariant refl refl)

pub returns : goal.returns
returns c =
    let all : c.args.columns.now.len ≡ c.loop-j.j = omega arith in
    rw all c.loop-j.invariant
