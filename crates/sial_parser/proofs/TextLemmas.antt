-- A text is read as a tree exactly where both stand together.
use Rattle.std.proofs.Common.{◌≡◌, ℕ, List, true, false, Result, Ok, Err, refl, sym, ap, ◌∙◌, subst}
use Rattle.sial_lexer.proofs.WholeLemmas.{tokens_found, tokens_read}
use Rattle.sial_lexer.specs.Reading.{lex_of}
use Rattle.sial_lexer.specs.declared.fault.LexFault.{LexFault}
use Rattle.sial_lexer.specs.declared.token.Token.{Token}
use Rattle.sial_syntax.specs.Proper.{IsProper}
use Rattle.sial_syntax.specs.Tree.{Tree}
use Rattle.sial_parser.specs.Grammar.{IsProgram}
use Rattle.sial_parser.specs.Parsing.{read_program, last_fault, after_strict, program_of}
use Rattle.sial_parser.specs.Whole.{parse_tokens, parse_of}
use Rattle.sial_parser.specs.Words.{words_of, IsTextOf}
use Rattle.sial_parser.specs.declared.fault.ParseFault.{ParseFault}
use Rattle.sial_parser.specs.declared.word.Word.{Word}
use Rattle.sial_parser.proofs.ProgramAgain.{program_again}
use Rattle.sial_parser.proofs.ProgramSound.{program_right}
use Rattle.sial_parser.proofs.ProperPrograms.{program_proper}
use Rattle.sial_parser.proofs.Rights.{Good}
use Rattle.sial_parser.proofs.WordsSound.{words_sound}

no_tree : (fault : ParseFault) (r : Result Tree ParseFault) (p : Tree) → last_fault fault r ≡ Ok p → ⊥
no_tree fault (Ok q) p e = absurd cc
no_tree fault (Err other) p e = absurd cc

strict_gave : (ws : List Word) (r : Result Tree ParseFault) (p : Tree) → after_strict ws r ≡ Ok p → r ≡ Ok p
strict_gave ws (Ok q) p e = e
strict_gave ws (Err fault) p e = absurd (no_tree fault (read_program false ws) p e)

-- words that are read stand with their tree
pub words_found : (ws : List Word) (p : Tree) → program_of ws ≡ Ok p → IsProgram p ws
words_found ws p e = subst (Good (λ q. IsProgram q ws)) (strict_gave ws (read_program true ws) p e) (program_right ws)

-- words that stand with a tree are read
pub words_read : (ws : List Word) (p : Tree) → IsProgram p ws → program_of ws ≡ Ok p
words_read ws p h = ap (after_strict ws) (program_again p ws h)

by_tokens : (text : List ℕ) (p : Tree) (r : Result (List Token) LexFault) → lex_of text ≡ r → parse_tokens text r ≡ Ok p → IsTextOf text p
by_tokens text p (Ok tokens) lexed e = record { tokens = tokens; are_tokens = tokens_found text tokens lexed; program = words_found (words_of text tokens) p e }
by_tokens text p (Err fault) lexed e = absurd cc

-- a text that is read stands with its tree
pub text_found : (text : List ℕ) (p : Tree) → parse_of text ≡ Ok p → IsTextOf text p
text_found text p e = by_tokens text p (lex_of text) refl e

-- a text that stands with a tree is read
pub text_read : (text : List ℕ) (p : Tree) → IsTextOf text p → parse_of text ≡ Ok p
text_read text p h = ap (parse_tokens text) (tokens_read text h.tokens h.are_tokens) ∙ words_read (words_of text h.tokens) p h.program

-- a text is that of one tree
pub one_tree : (text : List ℕ) (p q : Tree) → IsTextOf text p → IsTextOf text q → p ≡ q
one_tree text p q h g = let e : ◌≡◌ {A = Result Tree ParseFault} (Ok p) (Ok q) = sym (text_read text p h) ∙ text_read text q g in cc

-- the tree of a text is proper
pub proper_tree : (text : List ℕ) (p : Tree) → IsTextOf text p → IsProper p
proper_tree text p h = program_proper p (words_of text h.tokens) (words_sound text h.tokens h.are_tokens) h.program
