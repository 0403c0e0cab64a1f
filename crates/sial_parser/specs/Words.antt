-- What the grammar sees of a text: a word for each token, and the end of the text.
use Rattle.std.specs.Prelude.{ℕ, ◌+◌, ◌-◌, List, [], ◌∷◌, ◌++◌, if◌then◌else◌, ◌==◌, map, length, Option, Some, None, codes}
use Rattle.std.specs.List.{slice_range, count_by}
use Rattle.std.specs.Str.{bytes_eq}
use Rattle.sial_lexer.specs.Characters.{folded}
use Rattle.sial_lexer.specs.Cut.{HasTokens}
use Rattle.sial_lexer.specs.declared.token.Token.{Token}
use Rattle.sial_lexer.specs.declared.token.TokenKind.{TokenKind}
use Rattle.sial_lexer.specs.declared.token.TokenKind.TheVariants as token
use Rattle.sial_syntax.specs.Tree.{Tree}
use Rattle.sial_parser.specs.Grammar.{IsProgram}
use Rattle.sial_parser.specs.declared.keyword.Keyword.{Keyword}
use Rattle.sial_parser.specs.declared.keyword.Keyword.TheVariants as key
use Rattle.sial_parser.specs.declared.sign.Sign.{Sign}
use Rattle.sial_parser.specs.declared.sign.Sign.TheVariants as sign
use Rattle.sial_parser.specs.declared.word.Symbol.{Symbol}
use Rattle.sial_parser.specs.declared.word.Symbol.TheVariants.{Key, Name, Number, Quoted, LineEnd, End}
use Rattle.sial_parser.specs.declared.word.Symbol.TheVariants as symbol
use Rattle.sial_parser.specs.declared.word.Word.{Word}

-- the reserved words
abbrev pub keywords : List (List ℕ × Keyword)
keywords =
    (codes "sial", key.Sial) ∷ (codes "endsial", key.EndSial)
    ∷ (codes "aoindex", key.AoIndex) ∷ (codes "moindex", key.MoIndex) ∷ (codes "moaindex", key.MoaIndex) ∷ (codes "mobindex", key.MobIndex) ∷ (codes "index", key.Index) ∷ (codes "subindex", key.SubIndex) ∷ (codes "of", key.Of)
    ∷ (codes "scalar", key.Scalar) ∷ (codes "static", key.Static) ∷ (codes "temp", key.Temp) ∷ (codes "local", key.Local) ∷ (codes "distributed", key.Distributed) ∷ (codes "served", key.Served)
    ∷ (codes "proc", key.Proc) ∷ (codes "endproc", key.EndProc)
    ∷ (codes "do", key.Do) ∷ (codes "in", key.In) ∷ (codes "enddo", key.EndDo) ∷ (codes "pardo", key.Pardo) ∷ (codes "where", key.Where) ∷ (codes "endpardo", key.EndPardo)
    ∷ (codes "if", key.If) ∷ (codes "else", key.Else) ∷ (codes "endif", key.EndIf) ∷ (codes "call", key.Call)
    ∷ (codes "get", key.Get) ∷ (codes "put", key.Put) ∷ (codes "request", key.Request) ∷ (codes "prepare", key.Prepare)
    ∷ (codes "create", key.Create) ∷ (codes "delete", key.Delete) ∷ (codes "allocate", key.Allocate) ∷ (codes "deallocate", key.Deallocate)
    ∷ (codes "collective", key.Collective) ∷ (codes "sip_barrier", key.SipBarrier) ∷ (codes "server_barrier", key.ServerBarrier)
    ∷ (codes "print", key.Print) ∷ (codes "execute", key.Execute) ∷ (codes "print_scalar", key.PrintScalar) ∷ (codes "compute_integrals", key.ComputeIntegrals) ∷ []

-- the signs
abbrev pub signs : List (List ℕ × Sign)
signs =
    (codes "=", sign.Equals) ∷ (codes "+=", sign.PlusEquals) ∷ (codes "-=", sign.MinusEquals) ∷ (codes "*=", sign.TimesEquals)
    ∷ (codes "<", sign.Less) ∷ (codes "<=", sign.LessEqual) ∷ (codes ">", sign.Greater) ∷ (codes ">=", sign.GreaterEqual) ∷ (codes "==", sign.EqualEqual) ∷ (codes "!=", sign.NotEqual)
    ∷ (codes "+", sign.Plus) ∷ (codes "-", sign.Minus) ∷ (codes "*", sign.Times) ∷ (codes "^", sign.Caret) ∷ (codes "(", sign.Open) ∷ (codes ")", sign.Close) ∷ (codes ",", sign.Comma) ∷ []

-- what a table says of a spelling
abbrev pub entry_of : {X : Type 0} → List (List ℕ × X) → (bytes : List ℕ) → Option X
entry_of [] bytes = None
entry_of (e ∷ es) bytes = if bytes_eq bytes e.0 then Some e.1 else entry_of es bytes

-- a name or a reserved word, in small letters
abbrev pub name_or_key : (name : List ℕ) → Option Keyword → Symbol
name_or_key name (Some k) = Key k
name_or_key name None = Name name

-- a sign; every spelling of a sign token is in the table
abbrev pub sign_or_end : Option Sign → Symbol
sign_or_end (Some what) = symbol.Sign what
sign_or_end None = LineEnd

-- what a token of some bytes says
abbrev pub symbol_of : TokenKind → (bytes : List ℕ) → Symbol
symbol_of token.Name bytes = name_or_key (folded bytes) (entry_of keywords (folded bytes))
symbol_of (token.Number value) bytes = Number value
symbol_of token.Quoted bytes = Quoted (slice_range bytes 1 (length bytes - 1))
symbol_of token.Sign bytes = sign_or_end (entry_of signs bytes)
symbol_of token.LineEnd bytes = LineEnd

-- the word of a token of a text
abbrev pub word_of : (text : List ℕ) → Token → Word
word_of text t = record { line = t.line; symbol = symbol_of t.kind (slice_range text t.start t.end) }

-- the line of the end of a text: one more than it has line feeds
abbrev pub last_line : (text : List ℕ) → ℕ
last_line text = 1 + count_by (λ b. b == 10) text

-- the words of a text with these tokens
abbrev pub words_of : (text : List ℕ) → List Token → List Word
words_of text tokens = map (word_of text) tokens ++ record { line = last_line text; symbol = End } ∷ []

-- a text and a tree stand together: the words of the text's tokens are the tree's
pub record IsTextOf (text : List ℕ) (p : Tree) : Type 0 where
  pub tokens : List Token
  pub are_tokens : HasTokens text tokens
  pub program : IsProgram p (words_of text tokens)
