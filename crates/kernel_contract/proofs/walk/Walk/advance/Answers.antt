use Rattle.std.proofs.Common.{◌≡◌, ◌+◌, ◌<◌, ◌-◌, suc, arith, length, rules, get_or}
use Rattle.kernel_contract.proofs.PositionLemmas.{IsPosition-at, IsPosition-set}
use Rattle.kernel_contract.proofs.WalkLemmas.{AreOffsets-forth, AreOffsets-back, number_forth, number_back, number_end}
use Rattle.kernel_contract.proofs.walk.Walk.advance.Goals as goal

pub overflow_add-at : goal.overflow_add-at
overflow_add-at g c =
    let low : c.loop-i.i - 1 < length c.args.axes.now = omega arith in
    let position = c.loop-i.invariant.stands.position c.loop-i.invariant.left in
    let below = IsPosition-at c.args.axes.now c.loop-i.self.at (c.loop-i.i - 1) low position in
    search rules

pub returns-then-at-len-clause-stands : goal.returns-then-at-len-clause-stands
returns-then-at-len-clause-stands g c =
    let low : c.loop-i.i - 1 < length c.args.axes.now = omega arith in
    let position = c.loop-i.invariant.stands.position c.loop-i.invariant.left in
    let offsets = c.loop-i.invariant.stands.offsets c.loop-i.invariant.left in
    record {
      position = λ _. IsPosition-set c.args.axes.now c.loop-i.self.at (c.loop-i.i - 1) (get_or c.loop-i.self.at (c.loop-i.i - 1) 0 + 1) c.if-at-len.true position;
      offsets = λ _. AreOffsets-forth c.args.axes.now c.loop-i.self.at (c.loop-i.i - 1) c.loop-i.self.offsets c.forth-self.result low position offsets
          c.forth-self.ensures.a c.forth-self.ensures.b c.forth-self.ensures.to;
    }

pub returns-then-at-len-clause-gone : goal.returns-then-at-len-clause-gone
returns-then-at-len-clause-gone g c =
    let low : c.loop-i.i - 1 < length c.args.axes.now = omega arith in
    let next : c.loop-i.i ≡ suc (c.loop-i.i - 1) = omega arith in
    let position = c.loop-i.invariant.stands.position c.loop-i.invariant.left in
    rw (c.loop-i.invariant.left, c.requires.left)
    (number_forth c.args.axes.now c.loop-i.self.at c.loop-i.i (c.loop-i.i - 1) _ next low position c.loop-i.invariant.owed)

pub loop-i-preserved : goal.loop-i-preserved
loop-i-preserved g c =
    let low : c.loop-i.i - 1 < length c.args.axes.now = omega arith in
    let next : c.loop-i.i ≡ suc (c.loop-i.i - 1) = omega arith in
    let position = c.loop-i.invariant.stands.position c.loop-i.invariant.left in
    let offsets = c.loop-i.invariant.stands.offsets c.loop-i.invariant.left in
    let below = IsPosition-at c.args.axes.now c.loop-i.self.at (c.loop-i.i - 1) low position in
    record {
      within = omega arith;
      left = c.loop-i.invariant.left;
      stands = record {
        position = λ _. IsPosition-set c.args.axes.now c.loop-i.self.at (c.loop-i.i - 1) 0 (omega (arith, below)) position;
        offsets = λ _. AreOffsets-back c.args.axes.now c.loop-i.self.at (c.loop-i.i - 1) c.loop-i.self.offsets c.back-self.result low position offsets
            c.back-self.ensures.a (search rules) c.back-self.ensures.b (search rules) c.back-self.ensures.to (search rules);
      };
      owed = number_back c.args.axes.now c.loop-i.self.at c.loop-i.i (c.loop-i.i - 1) _ next low position c.if-at-len.false c.loop-i.invariant.owed;
    }

pub returns-clause-gone : goal.returns-clause-gone
returns-clause-gone g c =
    rw c.requires.left
    (number_end c.args.axes.now c.loop-i.self.at c.args.self.now.at c.loop-i.i c.loop-i-test.false
    (c.requires.stands.position c.requires.left) c.loop-i.invariant.owed)
