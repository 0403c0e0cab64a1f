-- The large program is sound, and pardos have so many entries.
use Rattle.std.proofs.Common.{◌≡◌, ℕ, ◌≤◌, true, [], ◌∷◌, refl, arith}
use Rattle.std.specs.Prelude.{codes, length, nat_le}
use Rattle.std.proofs.lemmas.Bool.Decides.{nat_tests}
use Rattle.sial_syntax.specs.Limits.{most_statements, most_names}
use Rattle.sial_syntax.specs.Proper.{all_statements}
use Rattle.sial_meaning.specs.Closed as closed
use Rattle.sial_meaning.specs.Sound.{IsSound}
use Rattle.sip_model.specs.Acting.{action}
use Rattle.sip_model.specs.Enabled.{enabled}
use Rattle.sip_model.specs.Performing.{perform}
use Rattle.machine_worked.specs.Big.{big}
use Rattle.machine_worked.specs.ChunksRuns.{ChunksCounted}

-- a test of two numbers
at-most : (n m : ℕ) → nat_le n m ≡ true → n ≤ m
at-most n m e = grind (arith, nat_tests)

-- each part of soundness is a test that comes out so
pub big-is-sound : IsSound big
big-is-sound = record {
  setting = record {
    proper = record {
      name = refl;
      indices = refl;
      arrays = refl;
      scalars = refl;
      procedures = refl;
      body = refl;
      numbers = refl;
      few_indices = at-most (length big.program.indices) most_names refl;
      few_arrays = at-most (length big.program.arrays) most_names refl;
      few_scalars = at-most (length big.program.scalars) most_names refl;
      few_procedures = at-most (length big.program.procedures) most_names refl;
      few_statements = at-most (all_statements big.program) most_statements refl;
    };
    granted = record { shapes = refl; sides = refl };
    scalars = refl;
    sides = refl;
  };
  spaces = (
    (codes "nao", 3) ∷ (codes "nmo", 2) ∷ [],
    record { given = refl; cuts = refl; spans = refl; segments = refl; narrow = refl; few = refl; together = refl; within = refl; boxes = refl },
  );
  count = refl;
  numbers = refl;
  blocks = refl;
  once = refl;
}

pub chunks-counted : ChunksCounted
unfolding action enabled perform closed.local_step
chunks-counted = record { sixteen = refl; sixteen_mixed = refl; three = refl; none = refl }
