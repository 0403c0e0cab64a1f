-- Plain spellings: which words spell which request.
use Rattle.std.specs.Prelude.{◌≡◌, ℕ, ◌≤◌, List, ◌∷◌, ◌++◌, flat_map, length}
use Rattle.sip_words.specs.Asking.{Asks}
use Rattle.sip_words.specs.Commands.{word_of}
use Rattle.sip_words.specs.Requests.{Request}
use Rattle.sip_words.specs.Settings.{Setting, words_of}
use Rattle.sip_words.specs.declared.command.Command.{Command}

-- words of a call at most
abbrev pub most_words : ℕ
most_words = 64

-- the words of a call: the program's name, a command, the words behind it in order, and then its settings
abbrev pub call : (name : List ℕ) → Command → (operands : List (List ℕ)) → List Setting → List (List ℕ)
call name command operands settings = name ∷ word_of command ∷ (operands ++ flat_map words_of settings)

-- words are such a call, and this is what it asks for
pub record Spells (words : List (List ℕ)) (request : Request) : Type 0 where
  pub few : length words ≤ most_words
  pub name : List ℕ
  pub command : Command
  pub operands : List (List ℕ)
  pub settings : List Setting
  pub are : words ≡ call name command operands settings
  pub asks : Asks command operands settings request
