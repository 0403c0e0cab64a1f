use Rattle.std.proofs.Common.{◌≡◌, drop}
use Rattle.std.specs.List.{list_all}
use Rattle.sip_words.specs.Commands.{is_setting_of}
use Rattle.sip_words.specs.Seen.{settings_seen}
use Rattle.sip_words.proofs.limits.are_settings_of.Given as goal

-- what is left decides
abbrev pub invariant-loop-setting : goal.invariant-loop-setting
invariant-loop-setting l =
    list_all (is_setting_of l.command) (settings_seen (drop l.setting-index l.settings)) ≡ list_all (is_setting_of l.command) (settings_seen l.settings)
