use Rattle.std.proofs.Common.{◌≡◌, drop, nat_le}
use Rattle.std.specs.List.{list_all, count_by}
use Rattle.sip_words.specs.Seen.{settings_seen}
use Rattle.sip_words.specs.Settings.{sets, are_once}
use Rattle.sip_words.proofs.setting.are_once.Given as goal

-- what is left decides
abbrev pub invariant-loop-setting : goal.invariant-loop-setting
invariant-loop-setting l =
    list_all (λ s. nat_le (count_by (sets s.option) (settings_seen l.settings)) 1) (settings_seen (drop l.setting-index l.settings))
    ≡ are_once (settings_seen l.settings)
