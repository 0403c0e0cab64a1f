-- What a statement does, by what it asks for.
use Rattle.std.specs.Prelude.{◌≡◌, ℕ, [], ◌∷◌, true, false}
use Rattle.sial_syntax.specs.declared.access.Class.TheVariants.{Distributed}
use Rattle.sial_syntax.specs.Tree.{Plain, Create, Delete}
use Rattle.sial_meaning.specs.LocalStep.{words_of, local_step}
use Rattle.sial_meaning.specs.Next.{Asks, Local, Operands, Get, Put, Sync, Collect, asked}
use Rattle.sial_meaning.specs.Own.{with_created}
use Rattle.sial_meaning.specs.Setting.{Setting}
use Rattle.sial_meaning.specs.State.{State, epoch_ended, with_zeros, without}
use Rattle.sial_meaning.specs.Statement.{Outcome, Went, Reading, reads_logged, values_of, named, local_done, put_done, collected, effect}

-- what a sync point changes beside the epoch: `create` and `delete` their array
abbrev pub before_epoch : Setting → Plain → State → State
before_epoch g (Create array) s = record s { own = with_created array true s.own; shared = with_zeros g array Distributed s.shared }
before_epoch g (Delete array) s = record s { own = with_created array false s.own; shared = without g array Distributed s.shared }
before_epoch g form s = s

-- the effect of a statement that asks for this
abbrev pub effect_by : Reading → Setting → (line : ℕ) → Plain → Asks → State → Outcome
effect_by reading g line form Local s = local_done line s (local_step g form [] s.own s.partials)
effect_by reading g line form (Operands blocks) s =
    local_done line (reads_logged g line blocks s) (local_step g form (values_of g reading s blocks) s.own s.partials)
effect_by reading g line form (Get block) s = Went (reads_logged g line (block ∷ []) s)
effect_by reading g line form (Put block how from) s = put_done line (named g s.own block) how s (words_of g s.own from [])
effect_by reading g line form (Sync class) s = Went (epoch_ended class (before_epoch g form s))
effect_by reading g line form (Collect into from) s = Went (collected into from s)

-- the effect of a statement is the one by what it asks for
abbrev pub EffectsByWhatIsAsked : Type 0
EffectsByWhatIsAsked =
    (reading : Reading) (g : Setting) (line : ℕ) (form : Plain) (s : State) → effect reading g line form s ≡ effect_by reading g line form (asked g form) s
