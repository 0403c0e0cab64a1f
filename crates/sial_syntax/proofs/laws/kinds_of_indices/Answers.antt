use Rattle.sial_syntax.proofs.KindLemmas.{kind-of-segments, kind-of-subindex}
use Rattle.sial_syntax.proofs.laws.kinds_of_indices.Goals as goal

pub returns : goal.returns
returns c = record { segments = kind-of-segments; subindex = kind-of-subindex }
