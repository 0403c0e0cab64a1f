-- Numbers and lines at their bounds.
use Rattle.std.proofs.Common.{refl}
use Rattle.sial_meaning.proofs.AcceptedInOtherWords.Pairs.{never}
use Rattle.sial_worked.specs.Bounds.{edge, NumbersAreBounded, ConstantsAreAnInputs}
use Rattle.sial_worked.proofs.SoundLemmas.{proper-by}

pub numbers-are-bounded : NumbersAreBounded
numbers-are-bounded = record {
  greatest = proper-by (edge _) refl;
  index_line = λ proper. never proper.indices;
  array_line = λ proper. never proper.arrays;
  line = λ proper. never proper.numbers;
  bound = λ proper. never proper.indices;
  literal = λ proper. never proper.numbers;
}

pub constants-are-an-inputs : ConstantsAreAnInputs
constants-are-an-inputs = record { most = refl; too_many = refl; twice = refl; too_wide = refl; greatest = refl; no_name = refl }
