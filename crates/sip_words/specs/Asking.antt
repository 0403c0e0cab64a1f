-- What a command asks for, with the words behind it and its settings.
use Rattle.std.specs.Prelude.{◌≡◌, ℕ, List, [], ◌∷◌, Bool, true, ◌&&◌, ◌||◌, not, Option, Some, None, codes, unwrap_or, is_some, is_none, option_map, option_and_then, IsTrue}
use Rattle.std.specs.List.{list_all}
use Rattle.std.specs.Str.{bytes_eq}
use Rattle.sip_words.specs.Commands.{workers, servers, cache, puts, server_cache, demo_number, is_name, is_setting_of}
use Rattle.sip_words.specs.Numbers.{number_in, count_in, count_or}
use Rattle.sip_words.specs.Requests.{Setup, Choices, unchosen, from_file, from_seed, Running, Request, run, check, compile, dry_run, replay, demo}
use Rattle.sip_words.specs.Settings.{Setting, given, are_once}
use Rattle.sip_words.specs.declared.command.Command.{Command}
use Rattle.sip_words.specs.declared.command.Command.TheVariants.{Run, Check, Compile, DryRun, Replay, Demo}

-- the setup that values of options make
abbrev pub setup_of : (value : List ℕ → Option (List ℕ)) → Setup
setup_of value = record {
  workers = count_or workers (value (codes "--workers"));
  servers = count_or servers (value (codes "--servers"));
  cache = count_or cache (value (codes "--cache"));
  puts = count_or puts (value (codes "--puts"));
  server_cache = count_or server_cache (value (codes "--servercache"));
  place = value (codes "--place");
}

-- the choices of a schedule's file, else those of a seed
abbrev pub choices_of : (schedule : Option (List ℕ)) → (seed : Option ℕ) → Choices
choices_of (Some name) seed = from_file name
choices_of None (Some seed) = from_seed seed
choices_of None None = unchosen

-- the name of the record
abbrev pub record_of : (value : List ℕ → Option (List ℕ)) → List ℕ
record_of value = unwrap_or (value (codes "--record")) (codes "run.rec")

-- what values of options say of a run besides its setup
abbrev pub running_of : (value : List ℕ → Option (List ℕ)) → Running
running_of value = record {
  choices = choices_of (value (codes "--schedule")) (option_and_then number_in (value (codes "--seed")));
  record_name = record_of value;
  store = value (codes "--store");
  steps = option_and_then number_in (value (codes "--steps"));
  dump = is_some (value (codes "--dump"));
}

-- the request of a command with the words behind it, by the values of its options; there is none where these words are too few or too many,
-- or where that of `demo` is no number within its limit
abbrev pub request_of : Command → (operands : List (List ℕ)) → (value : List ℕ → Option (List ℕ)) → Option Request
request_of Run (program ∷ input ∷ []) value = Some (run program input (setup_of value) (running_of value))
request_of Check (program ∷ input ∷ []) value = Some (check program input)
request_of Compile (program ∷ table ∷ []) value = Some (compile program table)
request_of DryRun (program ∷ input ∷ []) value = Some (dry_run program input (setup_of value))
request_of Replay (program ∷ input ∷ name ∷ []) value = Some (replay program input name (setup_of value))
request_of Demo (number ∷ []) value = option_map demo (count_in demo_number number)
request_of _ _ value = None

-- whether a name differs from another one, if there is one
abbrev pub differs : (name : List ℕ) → (other : Option (List ℕ)) → Bool
differs name None = true
differs name (Some other) = not (bytes_eq name other)

-- whether values go together: not both a schedule and a seed, and the record isn't written where the store is
abbrev pub go_together : (value : List ℕ → Option (List ℕ)) → Bool
go_together value =
    (is_none (value (codes "--schedule")) || is_none (value (codes "--seed"))) && differs (record_of value) (value (codes "--store"))

-- a command, the words behind it and its settings ask for a request: names and values are within their limits, and no option is set twice
pub record Asks (command : Command) (operands : List (List ℕ)) (settings : List Setting) (request : Request) : Type 0 where
  pub names : IsTrue (list_all is_name operands)
  pub options : IsTrue (list_all (is_setting_of command) settings)
  pub once : IsTrue (are_once settings)
  pub together : IsTrue (go_together (given settings))
  pub asks : request_of command operands (given settings) ≡ Some request

-- a request that some command asks for
pub record IsRequest (request : Request) : Type 0 where
  pub command : Command
  pub operands : List (List ℕ)
  pub settings : List Setting
  pub asks : Asks command operands settings request
