-- A plain spelling is read.
use Rattle.std.proofs.Common.{◌≡◌, ℕ, List, [], ◌∷◌, ◌++◌, length, take, drop, Bool, true, false, nat_le, Option, Some, None, refl, ◌∙◌, arith, if◌then◌else◌}
use Rattle.std.specs.Option.{option_and_then}
use Rattle.std.specs.List.{flat_map}
use Rattle.std.proofs.lemmas.Bool.{le-leb}
use Rattle.std.proofs.lemmas.List.{length-append}
use Rattle.std.proofs.Math.Seq.{take-append_seam, drop-append_seam}
use Rattle.sip_words.specs.Asking.{Asks, IsRequest, request_of}
use Rattle.sip_words.specs.Commands.{word_of, operands_of}
use Rattle.sip_words.specs.Plain.{Spells, call}
use Rattle.sip_words.specs.Reading.{command_named, settings_in, granted, of_command, request_in}
use Rattle.sip_words.specs.Requests.{Request}
use Rattle.sip_words.specs.Settings.{Setting, given, words_of}
use Rattle.sip_words.specs.declared.command.Command.{Command}
use Rattle.sip_words.specs.declared.command.Command.TheVariants.{Run, Check, Compile, DryRun, Replay, Demo}
use Rattle.sip_words.proofs.GrantedLemmas.{asks_granted, granted_is_request}
use Rattle.sip_words.proofs.SettingLemmas.{words_are_settings, fitting}

-- the word of a command names it
named : (command : Command) → command_named (word_of command) ≡ Some command
named Run = refl
named Check = refl
named Compile = refl
named DryRun = refl
named Replay = refl
named Demo = refl

-- a request has as many words behind its command as the command takes
counted : (command : Command) (operands : List (List ℕ)) (value : List ℕ → Option (List ℕ)) (request : Request)
    → request_of command operands value ≡ Some request → operands_of command ≡ length operands
counted Run (a ∷ b ∷ []) value request e = refl
counted Check (a ∷ b ∷ []) value request e = refl
counted Compile (a ∷ b ∷ []) value request e = refl
counted DryRun (a ∷ b ∷ []) value request e = refl
counted Replay (a ∷ b ∷ c ∷ []) value request e = refl
counted Demo (a ∷ []) value request e = refl
counted _ _ value request e = absurd cc

-- so many words, and the words behind them
split : (n : ℕ) (command : Command) (operands behind : List (List ℕ)) (settings : List Setting) (request : Request)
    → n ≡ length operands → settings_in behind ≡ Some settings → granted command operands settings ≡ Some request
    → (if nat_le n (length (operands ++ behind)) then option_and_then (granted command (take n (operands ++ behind))) (settings_in (drop n (operands ++ behind))) else None)
    ≡ Some request
split n command operands behind settings request e read grant =
    rw (e, le-leb (length operands) (length (operands ++ behind)) (omega (arith, length-append operands behind)), take-append_seam operands behind, drop-append_seam operands behind, read) grant

pub call_is_read : (name : List ℕ) (command : Command) (operands : List (List ℕ)) (settings : List Setting) (request : Request)
    → Asks command operands settings request → request_in (call name command operands settings) ≡ Some request
call_is_read name command operands settings request asks =
    rw (named command)
    (split (operands_of command) command operands (flat_map words_of settings) settings request (counted command operands (given settings) request asks.asks)
    (words_are_settings settings (fitting command settings asks.options)) (asks_granted command operands settings request asks))

pub plain_is_read : (words : List (List ℕ)) (request : Request) → Spells words request → request_in words ≡ Some request
plain_is_read words request spells =
    rw spells.are (call_is_read spells.name spells.command spells.operands spells.settings request spells.asks)

-- what is read of a plain spelling
pub plain_same : (words : List (List ℕ)) (found request : Request) → Some found ≡ request_in words → Spells words request → found ≡ request
plain_same words found request read spells = let is : Some found ≡ Some request = read ∙ plain_is_read words request spells in cc

-- a plain spelling is never left unread
pub plain_not_left : (words : List (List ℕ)) (request : Request) → None ≡ request_in words → Spells words request → ⊥
plain_not_left words request read spells = let is : None ≡ Some request = read ∙ plain_is_read words request spells in absurd cc

-- an answer that goes through another one
through : {X Y : Type 0} (f : X → Option Y) (found : Option X) (y : Y) → option_and_then f found ≡ Some y → (x : X) × (f x ≡ Some y)
through f None y e = absurd cc
through f (Some x) y e = (x, e)

-- an answer that a test lets through
tested : {X : Type 0} (b : Bool) (found : Option X) (x : X) → (if b then found else None) ≡ Some x → found ≡ Some x
tested true found x e = e
tested false found x e = absurd cc

-- what is read is a request
pub read_is_request : (words : List (List ℕ)) (request : Request) → request_in words ≡ Some request → IsRequest request
read_is_request [] request e = absurd cc
read_is_request (name ∷ []) request e = absurd cc
read_is_request (name ∷ word ∷ rest) request e =
    let command = through (of_command rest) (command_named word) request e in
    let n = operands_of command.0 in
    let fits = tested (nat_le n (length rest)) (option_and_then (granted command.0 (take n rest)) (settings_in (drop n rest))) request command.1 in
    let settings = through (granted command.0 (take n rest)) (settings_in (drop n rest)) request fits in
    granted_is_request command.0 (take n rest) settings.0 request settings.1
