use Rattle.std.proofs.Common.{◌≡◌, drop}
use Rattle.sip_words.specs.Settings.{given}
use Rattle.sip_words.specs.Seen.{settings_seen}
use Rattle.sip_words.proofs.setting.given.Given as goal

-- the value is given by what is left
abbrev pub invariant-loop-setting : goal.invariant-loop-setting
invariant-loop-setting l = given (settings_seen (drop l.setting-index l.settings)) l.option ≡ given (settings_seen l.settings) l.option
