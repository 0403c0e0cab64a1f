-- The fault of a program's text.
use Rattle.std.proofs.Common.{◌≡◌, ◌≢◌, ◌∙◌, ℕ, List, Result, Ok, Err, ap, inl, inr, refl, sym}
use Rattle.sial_faults.specs.Faults.{fault_in}
use Rattle.sial_faults.proofs.Order.{fault_is_told}
use Rattle.sial_lexer.proofs.WholeLemmas.{tokens_found, fault_found}
use Rattle.sial_lexer.specs.Reading.{lex_of}
use Rattle.sial_lexer.specs.declared.fault.LexFault.{LexFault}
use Rattle.sial_lexer.specs.declared.token.Token.{Token}
use Rattle.sial_parser.specs.Answers.{Fails}
use Rattle.sial_parser.specs.Whole.{HasNoTree, IsRefused, parse_of, parse_tokens}
use Rattle.sial_parser.specs.declared.fault.ParseFault.{ParseFault}
use Rattle.sial_parser.specs.declared.fault.ParseFault.TheVariants.{Lex, Expected, Undeclared, Twice, EndName, TooMany, TooDeep, OutOfMemory}
use Rattle.sip_grant.specs.Syntax.{IsFirst, IsFaultOfText}

by_tokens : (text : List ℕ) (fault : ParseFault) (answer : Result (List Token) LexFault) → lex_of text ≡ answer → parse_tokens text answer ≡ Err fault → parse_of text ≡ Err fault → IsFirst text fault
by_tokens text fault (Ok tokens) lexed read e =
    inr (tokens, tokens_found text tokens lexed, sym (fault_is_told text tokens (tokens_found text tokens lexed)) ∙ ap fault_in e)
by_tokens text fault (Err lex) lexed read e = let same : fault ≡ Lex lex = cc in inl (lex, fault_found text lex lexed, same)

-- what a reading meets is the first fault
first_is : (text : List ℕ) (fault : ParseFault) → parse_of text ≡ Err fault → IsFirst text fault
first_is text fault e = by_tokens text fault (lex_of text) refl e e

fault_by : (text : List ℕ) (fault : ParseFault) → HasNoTree text → parse_of text ≡ Err fault → fault ≢ OutOfMemory → IsFaultOfText text fault
fault_by text fault none found not = record { no_tree = none; first = first_is text fault found; no_want = not }

-- What `parse` refuses with, unless memory ran out, is the text's fault.
pub fault_is : (text : List ℕ) (fault : ParseFault) → IsRefused text fault → Fails fault (parse_of text) → fault ≢ OutOfMemory → IsFaultOfText text fault
fault_is text OutOfMemory none found not = absurd (not refl)
fault_is text (Lex fault) none found not = fault_by text (Lex fault) none found not
fault_is text (Expected line) none found not = fault_by text (Expected line) none found not
fault_is text (Undeclared line) none found not = fault_by text (Undeclared line) none found not
fault_is text (Twice line) none found not = fault_by text (Twice line) none found not
fault_is text (EndName line) none found not = fault_by text (EndName line) none found not
fault_is text (TooMany line which) none found not = fault_by text (TooMany line which) none found not
fault_is text (TooDeep line) none found not = fault_by text (TooDeep line) none found not
