use Rattle.std.proofs.Common.{ap, replicate, false, ℕ, ◌∙◌}
use Rattle.exec_core.proofs.local.Local.open.Goals as goal

pub returns-clause-begins : goal.returns-clause-begins
returns-clause-begins c = record {
  control = c.in_ok-control.ensures.starts c.spaces-spaces.ensures.sound;
  scalars = c.in_ok-scalars.ensures;
  seated = c.in_ok-blocks.ensures.stands;
  blocks = c.in_ok-blocks.ensures.begins;
  created = c.in_ok-created.ensures.items_if_clones_equal (λ y same. same) ∙ ap (λ (n : ℕ). replicate n false) c.arrays_len.ensures.count;
}
