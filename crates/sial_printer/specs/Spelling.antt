-- How symbols are spelled, and how lines of them are written.
use Rattle.std.specs.Prelude.{ℕ, List, [], ◌∷◌, ◌++◌, Bool, true, false, codes, decimal}
use Rattle.sial_parser.specs.Grammar.{opens}
use Rattle.sial_parser.specs.declared.keyword.Keyword.{Keyword}
use Rattle.sial_parser.specs.declared.keyword.Keyword.TheVariants as key
use Rattle.sial_parser.specs.declared.sign.Sign.{Sign}
use Rattle.sial_parser.specs.declared.sign.Sign.TheVariants as sign
use Rattle.sial_parser.specs.declared.word.Symbol.{Symbol}
use Rattle.sial_parser.specs.declared.word.Symbol.TheVariants.{Key, Name, Number, Quoted, LineEnd, End}
use Rattle.sial_parser.specs.declared.word.Symbol.TheVariants as symbol

-- the spelling of a reserved word
abbrev pub key_spelling : Keyword → List ℕ
key_spelling key.Sial = codes "sial"
key_spelling key.EndSial = codes "endsial"
key_spelling key.AoIndex = codes "aoindex"
key_spelling key.MoIndex = codes "moindex"
key_spelling key.MoaIndex = codes "moaindex"
key_spelling key.MobIndex = codes "mobindex"
key_spelling key.Index = codes "index"
key_spelling key.SubIndex = codes "subindex"
key_spelling key.Of = codes "of"
key_spelling key.Scalar = codes "scalar"
key_spelling key.Static = codes "static"
key_spelling key.Temp = codes "temp"
key_spelling key.Local = codes "local"
key_spelling key.Distributed = codes "distributed"
key_spelling key.Served = codes "served"
key_spelling key.Proc = codes "proc"
key_spelling key.EndProc = codes "endproc"
key_spelling key.Do = codes "do"
key_spelling key.In = codes "in"
key_spelling key.EndDo = codes "enddo"
key_spelling key.Pardo = codes "pardo"
key_spelling key.Where = codes "where"
key_spelling key.EndPardo = codes "endpardo"
key_spelling key.If = codes "if"
key_spelling key.Else = codes "else"
key_spelling key.EndIf = codes "endif"
key_spelling key.Call = codes "call"
key_spelling key.Get = codes "get"
key_spelling key.Put = codes "put"
key_spelling key.Request = codes "request"
key_spelling key.Prepare = codes "prepare"
key_spelling key.Create = codes "create"
key_spelling key.Delete = codes "delete"
key_spelling key.Allocate = codes "allocate"
key_spelling key.Deallocate = codes "deallocate"
key_spelling key.Collective = codes "collective"
key_spelling key.SipBarrier = codes "sip_barrier"
key_spelling key.ServerBarrier = codes "server_barrier"
key_spelling key.Print = codes "print"
key_spelling key.Execute = codes "execute"
key_spelling key.PrintScalar = codes "print_scalar"
key_spelling key.ComputeIntegrals = codes "compute_integrals"

-- the spelling of a sign
abbrev pub sign_spelling : Sign → List ℕ
sign_spelling sign.Equals = codes "="
sign_spelling sign.PlusEquals = codes "+="
sign_spelling sign.MinusEquals = codes "-="
sign_spelling sign.TimesEquals = codes "*="
sign_spelling sign.Less = codes "<"
sign_spelling sign.LessEqual = codes "<="
sign_spelling sign.Greater = codes ">"
sign_spelling sign.GreaterEqual = codes ">="
sign_spelling sign.EqualEqual = codes "=="
sign_spelling sign.NotEqual = codes "!="
sign_spelling sign.Plus = codes "+"
sign_spelling sign.Minus = codes "-"
sign_spelling sign.Times = codes "*"
sign_spelling sign.Caret = codes "^"
sign_spelling sign.Open = codes "("
sign_spelling sign.Close = codes ")"
sign_spelling sign.Comma = codes ","

-- the spelling of a symbol; a line end has none of its own, nor has the end of the text
abbrev pub spelling : Symbol → List ℕ
spelling (Key word) = key_spelling word
spelling (symbol.Sign what) = sign_spelling what
spelling (Name name) = name
spelling (Number n) = decimal n
spelling (Quoted text) = 34 ∷ text ++ 34 ∷ []
spelling LineEnd = []
spelling End = []

-- the blank before a symbol: none before `(`, `)` and `,`, nor where nothing or `(` stands before it
abbrev pub blank_before : (first : Bool) → Symbol → List ℕ
blank_before true what = []
blank_before false (symbol.Sign sign.Open) = []
blank_before false (symbol.Sign sign.Close) = []
blank_before false (symbol.Sign sign.Comma) = []
blank_before false _ = 32 ∷ []

-- symbols with their blanks, at the beginning of a line or behind `(`, or not
abbrev pub spaced : (first : Bool) → List Symbol → List ℕ
spaced first [] = []
spaced first (s ∷ ss) = blank_before first s ++ (spelling s ++ spaced (opens s) ss)

-- a line of symbols
abbrev pub line_text : List Symbol → List ℕ
line_text line = spaced true line ++ 10 ∷ []

-- lines of symbols
abbrev pub text_of : List (List Symbol) → List ℕ
text_of [] = []
text_of (line ∷ lines) = line_text line ++ text_of lines
