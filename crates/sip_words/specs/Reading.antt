-- How plain words are read, step by step.
use Rattle.std.specs.Prelude.{ℕ, List, [], ◌∷◌, ◌++◌, length, take, drop, Bool, ◌&&◌, nat_le, Option, Some, None, codes, option_and_then, if◌then◌else◌}
use Rattle.std.specs.List.{fold, list_all}
use Rattle.std.specs.Str.{bytes_eq}
use Rattle.sip_words.specs.Asking.{request_of, go_together}
use Rattle.sip_words.specs.Commands.{operands_of, is_name, is_setting_of}
use Rattle.sip_words.specs.Requests.{Request}
use Rattle.sip_words.specs.Settings.{Setting, setting, is_bare, given, are_once}
use Rattle.sip_words.specs.declared.command.Command.{Command}
use Rattle.sip_words.specs.declared.command.Command.TheVariants.{Run, Check, Compile, DryRun, Replay, Demo}

-- the command that a word is
abbrev pub command_named : (word : List ℕ) → Option Command
command_named word =
    if bytes_eq word (codes "run") then Some Run else
    if bytes_eq word (codes "check") then Some Check else
    if bytes_eq word (codes "compile") then Some Compile else
    if bytes_eq word (codes "dryrun") then Some DryRun else
    if bytes_eq word (codes "replay") then Some Replay else
    if bytes_eq word (codes "demo") then Some Demo else None

-- settings before a word, and that word: the value of the option that waits for one, `--dump`, or an option that waits for its value
abbrev pub joined : (before : List Setting) → (waiting : Option (List ℕ)) → (word : List ℕ) → List Setting × Option (List ℕ)
joined before (Some option) word = (before ++ setting option word ∷ [], None)
joined before None word = if is_bare word then (before ++ setting word [] ∷ [], None) else (before, Some word)

-- settings, and the option that waits for its value, with one more word
abbrev pub with_word : List Setting × Option (List ℕ) → (word : List ℕ) → List Setting × Option (List ℕ)
with_word front word = joined front.0 front.1 word

-- settings, where no option waits for its value
abbrev pub settled : List Setting → (waiting : Option (List ℕ)) → Option (List Setting)
settled settings None = Some settings
settled settings (Some option) = None

-- settings and the option that waits, read from words
abbrev pub read_from : (words : List (List ℕ)) → List Setting × Option (List ℕ)
read_from words = fold with_word ([], None) words

-- the settings that words are
abbrev pub settings_in : (words : List (List ℕ)) → Option (List Setting)
settings_in words = settled (read_from words).0 (read_from words).1

-- whether a command, the words behind it and its settings are within all limits
abbrev pub are_fine : Command → (operands : List (List ℕ)) → List Setting → Bool
are_fine command operands settings =
    list_all is_name operands && (list_all (is_setting_of command) settings && (are_once settings && go_together (given settings)))

-- the request that they ask for, if they are
abbrev pub granted : Command → (operands : List (List ℕ)) → List Setting → Option Request
granted command operands settings =
    if are_fine command operands settings then request_of command operands (given settings) else None

-- the request of a command and the words behind it
abbrev pub of_command : (rest : List (List ℕ)) → Command → Option Request
of_command rest command =
    if nat_le (operands_of command) (length rest)
    then option_and_then (granted command (take (operands_of command) rest)) (settings_in (drop (operands_of command) rest))
    else None

-- the request that words spell
abbrev pub request_in : (words : List (List ℕ)) → Option Request
request_in [] = None
request_in (name ∷ []) = None
request_in (name ∷ command ∷ rest) = option_and_then (of_command rest) (command_named command)
