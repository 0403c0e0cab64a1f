-- What a statement does is what it does by what it asks for.
use Rattle.std.proofs.Common.{◌≡◌, ℕ, List, [], ◌∷◌, refl}
use Rattle.sial_syntax.specs.declared.operand.BlockRef.{BlockRef}
use Rattle.sial_syntax.specs.Tree.{Plain, Assign}
use Rattle.sial_meaning.specs.LocalStep.{local_step, shared_in}
use Rattle.sial_meaning.specs.Next.{local_or}
use Rattle.sial_meaning.specs.NextLaws.{effect_by, EffectsByWhatIsAsked}
use Rattle.sial_meaning.specs.Setting.{Setting}
use Rattle.sial_meaning.specs.State.{State}
use Rattle.sial_meaning.specs.Statement.{Reading, reads_logged, values_of, local_done}

-- a local statement that reads these shared blocks
by_blocks : (reading : Reading) (g : Setting) (line : ℕ) (form : Plain) (s : State) (blocks : List BlockRef)
    → local_done line (reads_logged g line blocks s) (local_step g form (values_of g reading s blocks) s.own s.partials) ≡ effect_by reading g line form (local_or blocks) s
by_blocks reading g line form s [] = refl
by_blocks reading g line form s (b ∷ bs) = refl

-- each statement
pub effects-by-what-is-asked : EffectsByWhatIsAsked
effects-by-what-is-asked reading g line (Assign target op right) s = by_blocks reading g line (Assign target op right) s (shared_in g right)
effects-by-what-is-asked reading g line form s = refl
