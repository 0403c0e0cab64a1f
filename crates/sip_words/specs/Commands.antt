-- The commands: how each is called, what stands behind it, and which values its options may have.
use Rattle.std.specs.Prelude.{ℕ, ◌-◌, ◌^◌, List, [], ◌∷◌, Bool, true, false, ◌==◌, ◌&&◌, not, is_some, codes, if◌then◌else◌}
use Rattle.std.specs.List.{list_any}
use Rattle.std.specs.Str.{bytes_eq}
use Rattle.sip_words.specs.Numbers.{number_in, count_in}
use Rattle.sip_words.specs.Settings.{Setting}
use Rattle.sip_words.specs.declared.command.Command.{Command}
use Rattle.sip_words.specs.declared.command.Command.TheVariants.{Run, Check, Compile, DryRun, Replay, Demo}
use Rattle.sip_words.specs.declared.count.Count.{Count}

-- the word of a command
abbrev pub word_of : Command → List ℕ
word_of Run = codes "run"
word_of Check = codes "check"
word_of Compile = codes "compile"
word_of DryRun = codes "dryrun"
word_of Replay = codes "replay"
word_of Demo = codes "demo"

-- how many words stand behind it, before the options: its files, or the number of `demo`
abbrev pub operands_of : Command → ℕ
operands_of Run = 2
operands_of Check = 2
operands_of Compile = 2
operands_of DryRun = 2
operands_of Replay = 3
operands_of Demo = 1

-- the options that set up the machine
abbrev pub setup_options : List (List ℕ)
setup_options =
    codes "--workers" ∷ codes "--servers" ∷ codes "--cache" ∷ codes "--puts" ∷ codes "--servercache" ∷ codes "--place" ∷ []

-- the options of a command
abbrev pub options_of : Command → List (List ℕ)
options_of Run =
    codes "--workers" ∷ codes "--servers" ∷ codes "--cache" ∷ codes "--puts" ∷ codes "--servercache" ∷ codes "--place"
    ∷ codes "--schedule" ∷ codes "--seed" ∷ codes "--record" ∷ codes "--store" ∷ codes "--steps" ∷ codes "--dump" ∷ []
options_of Check = []
options_of Compile = []
options_of DryRun = setup_options
options_of Replay = setup_options
options_of Demo = []

-- numbers from one to another, with the one that stands where none is given
abbrev pub from_to : (least most fallback : ℕ) → Count
from_to least most fallback = record { least = least; most = most; fallback = fallback }

-- workers, servers, blocks that a worker caches, its puts that aren't acknowledged, and blocks that a server caches
abbrev pub workers : Count
workers = from_to 1 32 1

abbrev pub servers : Count
servers = from_to 1 8 1

abbrev pub cache : Count
cache = from_to 2 64 16

abbrev pub puts : Count
puts = from_to 1 16 4

abbrev pub server_cache : Count
server_cache = from_to 1 64 16

-- the number of `demo`
abbrev pub demo_number : Count
demo_number = from_to 0 (2 ^ 32 - 1) 0

-- whether a word may name a file: it has a character, and doesn't begin with `-`
abbrev pub is_name : (word : List ℕ) → Bool
is_name [] = false
is_name (first ∷ rest) = not (first == 45)

-- whether a word is empty
abbrev pub is_empty : (word : List ℕ) → Bool
is_empty [] = true
is_empty (first ∷ rest) = false

-- whether a value is one that its option may have: a count within its limits, a number below 2^64, nothing, or the name of a file
abbrev pub fits : Setting → Bool
fits s =
    if bytes_eq s.option (codes "--workers") then is_some (count_in workers s.value) else
    if bytes_eq s.option (codes "--servers") then is_some (count_in servers s.value) else
    if bytes_eq s.option (codes "--cache") then is_some (count_in cache s.value) else
    if bytes_eq s.option (codes "--puts") then is_some (count_in puts s.value) else
    if bytes_eq s.option (codes "--servercache") then is_some (count_in server_cache s.value) else
    if bytes_eq s.option (codes "--seed") then is_some (number_in s.value) else
    if bytes_eq s.option (codes "--steps") then is_some (number_in s.value) else
    if bytes_eq s.option (codes "--dump") then is_empty s.value else
    is_name s.value

-- whether a setting is one of a command: the command has its option, and the value fits
abbrev pub is_setting_of : Command → Setting → Bool
is_setting_of command s = list_any (bytes_eq s.option) (options_of command) && fits s
