-- The order of options doesn't matter.
use Rattle.std.specs.Prelude.{ℕ, ◌≤◌, List, length}
use Rattle.std.specs.List.Sorted.{IsPermutation}
use Rattle.sip_words.specs.Asking.{Asks}
use Rattle.sip_words.specs.Plain.{most_words, call, Spells}
use Rattle.sip_words.specs.Requests.{Request}
use Rattle.sip_words.specs.Settings.{Setting}
use Rattle.sip_words.specs.declared.command.Command.{Command}

-- where settings ask for a request, they spell it in whatever order they stand
abbrev pub OrderDoesNotMatter : Type 0
OrderDoesNotMatter =
    (name : List ℕ) (command : Command) (operands : List (List ℕ)) (settings others : List Setting) (request : Request)
    → Asks command operands settings request → length (call name command operands settings) ≤ most_words
    → IsPermutation settings others → Spells (call name command operands others) request
