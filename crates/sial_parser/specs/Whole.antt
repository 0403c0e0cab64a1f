-- A whole text read: its tokens, then the program of their words.
use Rattle.std.specs.Prelude.{ℕ, List, Result, Ok, Err}
use Rattle.sial_lexer.specs.Reading.{lex_of}
use Rattle.sial_lexer.specs.declared.fault.LexFault.{LexFault}
use Rattle.sial_lexer.specs.declared.fault.LexKind.{LexKind}
use Rattle.sial_lexer.specs.declared.fault.LexKind.TheVariants.{BadByte, Fraction, TooWide, OpenText, TooLong, OutOfMemory}
use Rattle.sial_lexer.specs.declared.token.Token.{Token}
use Rattle.sial_syntax.specs.Tree.{Tree}
use Rattle.sial_parser.specs.Parsing.{program_of}
use Rattle.sial_parser.specs.Words.{words_of, IsTextOf}
use Rattle.sial_parser.specs.declared.fault.ParseFault.{ParseFault}
use Rattle.sial_parser.specs.declared.fault.ParseFault.TheVariants as parse
use Rattle.sial_parser.specs.declared.fault.ParseFault.TheVariants.{Lex}

-- the program of a text's tokens
abbrev pub parse_tokens : (text : List ℕ) → Result (List Token) LexFault → Result Tree ParseFault
parse_tokens text (Ok tokens) = program_of (words_of text tokens)
parse_tokens text (Err fault) = Err (Lex fault)

-- the program of a text
abbrev pub parse_of : (text : List ℕ) → Result Tree ParseFault
parse_of text = parse_tokens text (lex_of text)

-- the lexer's fault as one of a program's text
abbrev pub refused : LexKind → LexFault → ParseFault
refused OutOfMemory fault = parse.OutOfMemory
refused BadByte fault = Lex fault
refused Fraction fault = Lex fault
refused TooWide fault = Lex fault
refused OpenText fault = Lex fault
refused TooLong fault = Lex fault

-- no tree stands with a text that is refused, unless memory ran out
abbrev pub HasNoTree : (text : List ℕ) → Type 0
HasNoTree text = (p : Tree) → IsTextOf text p → ⊥

abbrev pub IsRefused : (text : List ℕ) → ParseFault → Type 0
IsRefused text parse.OutOfMemory = Unit {0}
IsRefused text (Lex fault) = HasNoTree text
IsRefused text (parse.Expected line) = HasNoTree text
IsRefused text (parse.Undeclared line) = HasNoTree text
IsRefused text (parse.Twice line) = HasNoTree text
IsRefused text (parse.EndName line) = HasNoTree text
IsRefused text (parse.TooMany line which) = HasNoTree text
IsRefused text (parse.TooDeep line) = HasNoTree text
