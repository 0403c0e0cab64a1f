use Rattle.std.proofs.Common.{◌≡◌, ◌<◌, ◌+◌, ◌%◌, ◌^◌, ◌∙◌, arith, refl, length, subst, sym, ℕ}
use Rattle.kernel_contract.specs.Parts.{Reaches, Replaced, sum_from}
use Rattle.kernel_contract.specs.Positions.{offset_b, offset_to}
use Rattle.kernel_contract.specs.Walks.{count, gone, position_at}
use Rattle.kernel_contract.proofs.PartLemmas.{Replaced-next}
use Rattle.kernel_contract.proofs.SourceLemmas.{add-known, known-add, sum_from-known}
use Rattle.kernel_contract.proofs.laws.plain_row.Goals as goal

pub sum_along-value-requires : goal.sum_along-value-requires
sum_along-value-requires g c =
    let at = gone c.args.free_b.now c.loop-column.column in
    let in_b : Reaches offset_b c.args.shared.now c.step-here.result.b (length c.args.b.now) =
    λ s p. rw (known-add c.step-here.result.b (offset_b c.args.free_b.now (position_at c.args.free_b.now at)) (offset_b c.args.shared.now s) c.step-here.ensures.offsets.b)
    (c.requires.in_b at (omega (arith, c.step-here.ensures.gone, c.step-here.ensures.within)) s p) in
    record { in_a = c.requires.in_a at (omega (arith, c.step-here.ensures.gone, c.step-here.ensures.within)); in_b = in_b }

pub meet-requires : goal.meet-requires
meet-requires g c =
    let at = gone c.args.free_b.now c.loop-column.column in
    rw (add-known c.args.row.to _ _ c.step-here.ensures.offsets.to, c.loop-column.invariant.done.len)
    (c.requires.targets.within 0 at (omega arith) (omega (arith, c.step-here.ensures.gone, c.step-here.ensures.within)))

pub loop-column-preserved : goal.loop-column-preserved
loop-column-preserved g c =
    let at = gone c.args.free_b.now c.loop-column.column in
    let T : ℕ → ℕ → ℕ = λ i j. (c.args.row.to + offset_to c.args.free_b.now (position_at c.args.free_b.now j)) % 2 ^ 64 in
    let V : ℕ → ℕ → ℕ = λ i j. sum_from c.args.a.now c.args.b.now c.args.shared.now c.args.row.a (offset_b c.args.free_b.now (position_at c.args.free_b.now j)) in
    let low : at < count c.args.free_b.now = omega (arith, c.step-here.ensures.gone, c.step-here.ensures.within) in
    let there : (c.args.row.to + c.step-here.result.to) % 2 ^ 64 ≡ T 0 at = add-known c.args.row.to _ _ c.step-here.ensures.offsets.to in
    let value : c.sum_along-value.result ≡ V 0 at =
    c.sum_along-value.ensures ∙ sum_from-known c.args.a.now c.args.b.now c.args.shared.now c.args.row.a _ _ c.step-here.ensures.offsets.b in
    record {
      stands = c.step-here.ensures.stands;
      done = rw (c.step-here.ensures.gone, c.meet.ensures)
          (Replaced-next c.args.how T V at (count c.args.free_b.now) (length c.args.to.now) c.args.to.now c.loop-column.to
          ((c.args.row.to + c.step-here.result.to) % 2 ^ 64) _ low c.requires.targets
          (rw (there, c.loop-column.invariant.done.len) (c.requires.targets.within 0 at (omega arith) low))
          c.loop-column.invariant.done (sym there) (rw value));
    }

pub returns : goal.returns
returns g c =
    let all : gone c.args.free_b.now c.loop-column.column ≡ count c.args.free_b.now = rw c.loop-column-test.false refl in
    subst (λ n. Replaced c.args.how (λ i j. (c.args.row.to + offset_to c.args.free_b.now (position_at c.args.free_b.now j)) % 2 ^ 64)
    (λ i j. sum_from c.args.a.now c.args.b.now c.args.shared.now c.args.row.a (offset_b c.args.free_b.now (position_at c.args.free_b.now j)))
    1 n c.args.to.now c.loop-column.to) all c.loop-column.invariant.done
