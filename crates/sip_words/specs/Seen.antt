-- How the code's words, settings and requests are seen.
use Rattle.std.specs.Prelude.{ℕ, List, map, String, string_bytes, option_map}
use Rattle.std.specs.declared.alloc.Global.{Global}
use Rattle.sip_words.specs.Requests as spec
use Rattle.sip_words.specs.Settings as settings
use Rattle.sip_words.specs.declared.request.Choices.{Choices}
use Rattle.sip_words.specs.declared.request.Choices.TheVariants as choices
use Rattle.sip_words.specs.declared.request.Request.{Request}
use Rattle.sip_words.specs.declared.request.Request.TheVariants as request
use Rattle.sip_words.specs.declared.request.Running.{Running}
use Rattle.sip_words.specs.declared.request.Setup.{Setup}
use Rattle.sip_words.specs.declared.setting.Setting.{Setting}

-- the characters of words
abbrev pub texts : List (String Global) → List (List ℕ)
texts words = map string_bytes words

-- a setting
abbrev pub setting_seen : Setting → settings.Setting
setting_seen s = record { option = s.option.now; value = s.value.now }

-- settings
abbrev pub settings_seen : List Setting → List settings.Setting
settings_seen found = map setting_seen found

-- a setup
abbrev pub setup_seen : Setup → spec.Setup
setup_seen s = record {
  workers = s.workers;
  servers = s.servers;
  cache = s.cache;
  puts = s.puts;
  server_cache = s.server_cache;
  place = option_map (λ name. name.now) s.place;
}

-- choices
abbrev pub choices_seen : Choices → spec.Choices
choices_seen choices.Unchosen = spec.unchosen
choices_seen (choices.File name) = spec.from_file name.now
choices_seen (choices.Seed seed) = spec.from_seed seed

-- the rest of what a run takes
abbrev pub running_seen : Running → spec.Running
running_seen r = record {
  choices = choices_seen r.choices;
  record_name = r.record_name.now;
  store = option_map (λ name. name.now) r.store;
  steps = r.steps;
  dump = r.dump;
}

-- a request
abbrev pub seen : Request → spec.Request
seen (request.Run program input setup running) = spec.run program.now input.now (setup_seen setup) (running_seen running)
seen (request.Check program input) = spec.check program.now input.now
seen (request.Compile program table) = spec.compile program.now table.now
seen (request.DryRun program input setup) = spec.dry_run program.now input.now (setup_seen setup)
seen (request.Replay program input record_name setup) = spec.replay program.now input.now record_name.now (setup_seen setup)
seen (request.Demo number) = spec.demo number
