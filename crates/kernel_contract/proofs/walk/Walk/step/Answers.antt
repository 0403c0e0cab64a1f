use Rattle.kernel_contract.proofs.PositionLemmas.{position_at-number}
use Rattle.kernel_contract.proofs.WalkLemmas.{gone-le}
use Rattle.kernel_contract.proofs.walk.Walk.step.Goals as goal

pub returns-clause-offsets : goal.returns-clause-offsets
returns-clause-offsets g c =
    rw c.requires.left
    (rw (position_at-number c.args.axes.now c.args.self.now.at (c.requires.stands.position c.requires.left)) (c.requires.stands.offsets c.requires.left))

pub returns-clause-within : goal.returns-clause-within
returns-clause-within g c = gone-le c.args.axes.now c.advance.new.self.left c.advance.new.self.at c.advance.ensures.stands.position
