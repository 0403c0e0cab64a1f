use Rattle.std.proofs.Common.{◌≡◌, ℕ, ◌+◌}
use Rattle.sial_meaning.specs.Own.{Own}
use Rattle.sial_meaning.specs.Rest.{PardoAt, Rest, Within}
use Rattle.sial_syntax.specs.Proper.{IsProper}
use Rattle.sip_setting.specs.Seen.{setting_of}
use Rattle.code_places.specs.Follows.{Follows}
use Rattle.exec_control.proofs.WhereLemmas.{Looked}
use Rattle.exec_control.proofs.wheres.body_if_met.Given as goal

abbrev pub invariant-loop-at : goal.invariant-loop-at
invariant-loop-at l =
    (pardo : PardoAt) (number : ℕ) (more : Rest) (own : Own) → IsProper (setting_of l.job).program → Follows (setting_of l.job).program (Within pardo number more)
    → l.first ≡ pardo.head + 1 → l.end ≡ pardo.at → own.scalars ≡ l.scalars.scalars → own.values ≡ l.values → Looked l.first pardo.wheres own l.at
