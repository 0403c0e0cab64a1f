-- What is granted is asked for, and the other way round.
use Rattle.std.proofs.Common.{◌≡◌, ℕ, List, Bool, true, false, ◌&&◌, Option, Some, None, refl, if◌then◌else◌}
use Rattle.std.specs.List.{list_all}
use Rattle.std.proofs.lemmas.Bool.{and_parts}
use Rattle.sip_words.specs.Asking.{Asks, IsRequest, request_of, go_together}
use Rattle.sip_words.specs.Commands.{is_name, is_setting_of}
use Rattle.sip_words.specs.Reading.{are_fine, granted}
use Rattle.sip_words.specs.Requests.{Request}
use Rattle.sip_words.specs.Settings.{Setting, given, are_once}
use Rattle.sip_words.specs.declared.command.Command.{Command}

-- four tests that hold
four : (a b c d : Bool) → (a && (b && (c && d))) ≡ true → (a ≡ true) × (b ≡ true) × (c ≡ true) × (d ≡ true)
four a b c d e =
    let first = and_parts a (b && (c && d)) e in
    let second = and_parts b (c && d) first.1 in
    let third = and_parts c d second.1 in
    (first.0, second.0, third.0, third.1)

-- what a test lets through
let_through : {X : Type 0} (b : Bool) (found : Option X) (x : X) → (if b then found else None) ≡ Some x → (b ≡ true) × (found ≡ Some x)
let_through true found x e = (refl, e)
let_through false found x e = absurd cc

pub granted_asks : (command : Command) (operands : List (List ℕ)) (settings : List Setting) (request : Request)
    → granted command operands settings ≡ Some request → Asks command operands settings request
granted_asks command operands settings request e =
    let through = let_through (are_fine command operands settings) (request_of command operands (given settings)) request e in
    let tests = four (list_all is_name operands) (list_all (is_setting_of command) settings) (are_once settings) (go_together (given settings)) through.0 in
    record { names = tests.0; options = tests.1; once = tests.2; together = tests.3; asks = through.1 }

-- what is granted is a request
pub granted_is_request : (command : Command) (operands : List (List ℕ)) (settings : List Setting) (request : Request)
    → granted command operands settings ≡ Some request → IsRequest request
granted_is_request command operands settings request e =
    record { command = command; operands = operands; settings = settings; asks = granted_asks command operands settings request e }

pub asks_granted : (command : Command) (operands : List (List ℕ)) (settings : List Setting) (request : Request)
    → Asks command operands settings request → granted command operands settings ≡ Some request
asks_granted command operands settings request asks = rw (asks.names, asks.options, asks.once, asks.together) asks.asks
