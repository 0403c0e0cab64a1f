-- What the words of a call ask for, of what the program does today.
use Rattle.std.specs.Prelude.{◌≡◌, ◌⊎◌, ℕ, ◌≤◌, List, length, None, String}
use Rattle.std.specs.declared.alloc.Global.{Global}
use Rattle.sip_grant.specs.Names.{Names}
use Rattle.sip_words.specs.Asking.{IsRequest, setup_of, running_of}
use Rattle.sip_words.specs.Plain.{Spells, most_words}
use Rattle.sip_words.specs.Requests.{Request, Running, Setup, compile, run}
use Rattle.sip_words.specs.Seen.{texts}

-- the machine and the course of a run where no option says anything of them
abbrev pub usual_setup : Setup
usual_setup = setup_of (λ name. None)

abbrev pub usual_running : Running
usual_running = running_of (λ name. None)

-- a run without options
abbrev pub run_of : Names → Request
run_of names = run names.program names.input usual_setup usual_running

-- words ask for a request: a plain spelling for its own, and other words, not too many, for one that some command asks for
pub record AskFor (words : List (String Global)) (request : Request) : Type 0 where
  pub few : length words ≤ most_words
  pub plain : (other : Request) → Spells (texts words) other → other ≡ request
  pub within : IsRequest request

-- the words ask for a run of files of which this holds
abbrev pub ForRun : List (String Global) → (Names → Type 0) → Type 0
ForRun words fact = (names : Names) × AskFor words (run_of names) × fact names

-- the words ask for a program's table, and this holds of the names of both
abbrev pub ForCompile : List (String Global) → ((program table : List ℕ) → Type 0) → Type 0
ForCompile words fact = (program : List ℕ) × (table : List ℕ) × AskFor words (compile program table) × fact program table

-- the words ask for one of them, and this holds of the program's name
abbrev pub ForEither : List (String Global) → ((program : List ℕ) → Type 0) → Type 0
ForEither words fact = ForRun words (λ names. fact names.program) ⊎ ForCompile words (λ program table. fact program)

-- the words spell nothing plainly that the program does today
pub record SpellNothing (words : List (String Global)) : Type 0 where
  pub no_run : (names : Names) → Spells (texts words) (run_of names) → ⊥
  pub no_compile : (program table : List ℕ) → Spells (texts words) (compile program table) → ⊥
