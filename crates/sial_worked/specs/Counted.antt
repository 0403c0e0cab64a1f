-- How many steps and words a checker of the rule needs for worked programs, counted by hand.
use Rattle.std.specs.Prelude.{◌≡◌, ◌+◌, ◌*◌, ◌^◌}
use Rattle.sial_meaning.specs.Costs.{sequential_steps, sequential_words}
use Rattle.sial_worked.specs.Deep.{deep, deep_five}
use Rattle.sial_worked.specs.Disk.{disk}
use Rattle.sial_worked.specs.First.{first}
use Rattle.sial_worked.specs.Nested.{nested}
use Rattle.sial_worked.specs.Parts.{parts}
use Rattle.sial_worked.specs.Small.{small}

-- steps: statements outside of loops, with all that their bodies take
pub record StepsAreCounted : Type 0 where
  -- a loop of two turns over four statements
  pub first : sequential_steps first ≡ 1 + 2 * (1 + 4)
  -- lines 15, 16; the pardo in line 17; 21; the pardo in line 22 with the loop in line 24; 33, 34; the loops in lines 35 and 36; 42
  pub small : sequential_steps small
      ≡ 3 + 3 + (2 + 4 * (1 + 4)) + 3 + (2 + 4 * (1 + (1 + (1 + 2 * (1 + 9)) + 3 + 1))) + 3 + 3 + (1 + 2 * (1 + (1 + 2 * (1 + 6)))) + 1
  -- the loop in line 24, whose calls take 39 steps each, and line 32
  pub nested : sequential_steps nested ≡ (1 + 2 * (1 + (39 + 1 + (1 + 2 * (1 + 40))))) + 1
  -- the pardo in line 6, line 10 and the loop in line 11
  pub disk : sequential_steps disk ≡ (2 + 3 * (1 + (1 + 4))) + 3 + (1 + 3 * (1 + (3 + 1 + 4 + 1)))
  -- loops over at most two pieces within each other, in a loop of one turn, in one of two
  pub parts : sequential_steps parts ≡ 1 + 2 * (1 + (1 + 1 * (1 + (2 + (1 + 2 * (1 + (5 + (1 + 2 * (1 + 3))))) + 2))))
  -- five loops of 4,096 turns within each other, around one statement
  pub deep_five : sequential_steps deep_five ≡ 1 + 2 * (4096 + 4096 ^ 2 + 4096 ^ 3 + 4096 ^ 4 + 4096 ^ 5)
  -- six of them: above the limit
  pub deep : sequential_steps deep ≡ 2 ^ 62 + 1

-- words: the elements of shared arrays; and as many of the widest block as there are static and local blocks, temps and 3
pub record WordsAreCounted : Type 0 where
  -- blocks of at most 2; two static ones
  pub first : sequential_words first ≡ 0 + 2 * (2 + 0 + 3)
  -- eight shared elements; blocks of 1, four static ones, four temps
  pub small : sequential_words small ≡ 8 + 1 * (4 + 4 + 3)
  pub nested : sequential_words nested ≡ 0 + 1 * (4 + 0 + 3)
  pub disk : sequential_words disk ≡ 3 + 1 * (0 + 1 + 3)
  -- blocks of at most 3 times 3; two static ones, four temps
  pub parts : sequential_words parts ≡ 0 + 9 * (2 + 4 + 3)
  pub deep : sequential_words deep ≡ 0 + 1 * (0 + 0 + 3)
