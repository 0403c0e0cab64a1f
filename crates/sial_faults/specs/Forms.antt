-- The grammar of programs without trees, and whatever is declared: which words may stand next, and what has to stand behind each of them.
use Rattle.std.specs.Prelude.{◌≡◌, ℕ, zero, suc, List, [], ◌∷◌, ◌++◌, Bool, true, false, if◌then◌else◌, Option, Some, None, codes}
use Rattle.std.specs.Str.{bytes_eq}
use Rattle.sial_syntax.specs.Limits.{most_nesting, most_rank, most_pardo}
use Rattle.sial_parser.specs.Grammar.{opens, ends_body, is_where, begins_proc, begins_declaration}
use Rattle.sial_parser.specs.Parsing.{is_line_end, is_end, is_comma, is_equals, is_plus_equals, is_sial, is_of, is_some, bin_of, op_of, test_of}
use Rattle.sial_parser.specs.declared.keyword.Keyword.TheVariants as key
use Rattle.sial_parser.specs.declared.sign.Sign.TheVariants as sign
use Rattle.sial_parser.specs.declared.word.Symbol.{Symbol}
use Rattle.sial_parser.specs.declared.word.Symbol.TheVariants.{Key, Name, Number, Quoted, LineEnd, End}
use Rattle.sial_parser.specs.declared.word.Symbol.TheVariants as symbol
use Rattle.sial_parser.specs.declared.word.Word.{Word}
use Rattle.sial_faults.specs.Parts.{Fixed, Named, Ending, Part, sial, of, line_end, opening, equals, plus_equals, comma, an_index, an_array, a_scalar, a_range, a_subindex, a_new_scalar, a_new_array, a_procedure, of_program, of_procedure, of_do, of_pardo, of_if, of_else, fixed, text_end, title, new, enters, asked, called, bound, number, quoted, value, test, access, executed, dim, dim_end, slot, slot_end, along, along_end, right, bin_or_end, operand, dims_or_bin, dims_or_end, assign, dims_or_assign, index_or_end, loop, in_or_end, named_end, list_end, list_name, list_more, body, wheres, procedures, declarations}

-- the word that has to be just so
abbrev pub says : Fixed → Symbol → Bool
says sial what = is_sial what
says of what = is_of what
says line_end what = is_line_end what
says opening what = opens what
says equals what = is_equals what
says plus_equals what = is_plus_equals what
says comma what = is_comma what

-- parts, where a test holds
abbrev pub where_so : Bool → List Part → Option (List Part)
where_so true parts = Some parts
where_so false parts = None

-- one fewer
abbrev pub less : ℕ → ℕ
less zero = zero
less (suc n) = n

-- the opener's names behind the first
abbrev pub others : List (List ℕ) → List (List ℕ)
others [] = []
others (x ∷ xs) = xs

-- block = name "(" names ")"
abbrev pub block : List Part → List Part
block parts = asked an_array ∷ fixed opening ∷ dim most_rank ∷ parts

-- cond NL, with cond = value ("<"|"<="|">"|">="|"=="|"!=") value
abbrev pub condition : List Part → List Part
condition parts = value ∷ test ∷ value ∷ fixed line_end ∷ parts

-- stmt, behind its first word; the bodies in it have room for so many
abbrev pub statement : (inner : ℕ) → Symbol → Option (List Part)
-- "do" name ["in" name] NL {stmt} "enddo" [name] NL
statement inner (Key key.Do) = Some (loop inner ∷ [])
-- "pardo" names NL {"where" cond NL} {stmt} "endpardo" [names] NL
statement inner (Key key.Pardo) = Some (along inner most_pardo [] ∷ [])
-- "if" cond NL {stmt} ["else" NL {stmt}] "endif" NL
statement inner (Key key.If) = Some (condition (body of_if inner ∷ []))
-- "call" name NL
statement inner (Key key.Call) = Some (called ∷ fixed line_end ∷ [])
-- (name | block) ("="|"+="|"-="|"*=") right NL
statement inner (Name x) = Some (dims_or_assign ∷ [])
-- "get" block NL
statement inner (Key key.Get) = Some (block (fixed line_end ∷ []))
-- "request" block [name] NL
statement inner (Key key.Request) = Some (block (index_or_end ∷ []))
-- ("put"|"prepare") block ("="|"+="|"max" "=") block NL
statement inner (Key key.Put) = Some (block (access ∷ block (fixed line_end ∷ [])))
statement inner (Key key.Prepare) = Some (block (access ∷ block (fixed line_end ∷ [])))
-- ("create"|"delete") name NL
statement inner (Key key.Create) = Some (asked an_array ∷ fixed line_end ∷ [])
statement inner (Key key.Delete) = Some (asked an_array ∷ fixed line_end ∷ [])
-- ("allocate"|"deallocate") name "(" slot {"," slot} ")" NL
statement inner (Key key.Allocate) = Some (asked an_array ∷ fixed opening ∷ slot most_rank ∷ fixed line_end ∷ [])
statement inner (Key key.Deallocate) = Some (asked an_array ∷ fixed opening ∷ slot most_rank ∷ fixed line_end ∷ [])
-- "collective" name "+=" name NL
statement inner (Key key.Collective) = Some (asked a_scalar ∷ fixed plus_equals ∷ asked a_scalar ∷ fixed line_end ∷ [])
-- "sip_barrier" NL | "server_barrier" NL
statement inner (Key key.SipBarrier) = Some (fixed line_end ∷ [])
statement inner (Key key.ServerBarrier) = Some (fixed line_end ∷ [])
-- "print" text NL
statement inner (Key key.Print) = Some (quoted ∷ fixed line_end ∷ [])
-- "execute" "print_scalar" name NL | "execute" "compute_integrals" block NL
statement inner (Key key.Execute) = Some (executed ∷ [])
statement inner _ = None

-- behind the end word of a body
abbrev pub ended : Ending → (inner : ℕ) → Symbol → Option (List Part)
ended of_program inner (Key key.EndSial) = Some []
ended of_procedure inner (Key key.EndProc) = Some []
ended of_do inner (Key key.EndDo) = Some []
ended of_pardo inner (Key key.EndPardo) = Some []
ended of_if inner (Key key.Else) = Some (fixed line_end ∷ body of_else inner ∷ [])
ended of_if inner (Key key.EndIf) = Some (fixed line_end ∷ [])
ended of_else inner (Key key.EndIf) = Some (fixed line_end ∷ [])
ended _ inner _ = None

-- a body goes on behind a statement
abbrev pub stays : Ending → (inner : ℕ) → Option (List Part) → Option (List Part)
stays e inner None = None
stays e inner (Some parts) = Some (parts ++ body e inner ∷ [])

-- {stmt} and the end word
abbrev pub after_body : Ending → (inner : ℕ) → Symbol → Option (List Part)
after_body e inner what = if ends_body what then ended e inner what else stays e inner (statement (less inner) what)

-- {proc} and the program's body
abbrev pub after_procedures : Symbol → Option (List Part)
after_procedures what = if begins_proc what then Some (new a_procedure ∷ procedures ∷ []) else after_body of_program most_nesting what

-- decl NL, behind its first word
abbrev pub declaration : Symbol → List Part
declaration (Key key.SubIndex) = new a_subindex ∷ []
declaration (Key key.Scalar) = new a_new_scalar ∷ []
declaration (Key key.Static) = new a_new_array ∷ []
declaration (Key key.Temp) = new a_new_array ∷ []
declaration (Key key.Local) = new a_new_array ∷ []
declaration (Key key.Distributed) = new a_new_array ∷ []
declaration (Key key.Served) = new a_new_array ∷ []
declaration _ = new a_range ∷ []

-- behind a new name
abbrev pub after_new : Named → (name : List ℕ) → List Part
-- name "=" bound "," bound NL
after_new a_range x = fixed equals ∷ bound ∷ fixed comma ∷ bound ∷ enters a_range x ∷ []
-- name "of" name NL
after_new a_subindex x = fixed of ∷ asked an_index ∷ enters a_subindex x ∷ []
-- name NL
after_new a_new_scalar x = enters a_new_scalar x ∷ []
-- name "(" names ")" NL
after_new a_new_array x = fixed opening ∷ dim most_rank ∷ enters a_new_array x ∷ []
-- proc = "proc" name NL {stmt} "endproc" [name] NL
after_new a_procedure x = fixed line_end ∷ body of_procedure most_nesting ∷ named_end x ∷ []

-- ("="|"+="|"-="|"*=") right NL
abbrev pub after_assign : Symbol → Option (List Part)
after_assign what = where_so (is_some (op_of what)) (right ∷ [])

-- [("+"|"-"|"*"|"^") operand] NL
abbrev pub after_bin_or_end : Symbol → Option (List Part)
after_bin_or_end what = if is_some (bin_of what) then Some (operand ∷ []) else where_so (is_line_end what) []

-- what has to stand behind a word at its part; none where the word may not stand there
abbrev pub after : Part → Symbol → Option (List Part)
after (fixed one) what = where_so (says one what) []
after text_end what = where_so (is_end what) []
-- program = "sial" name NL {decl NL} {proc} {stmt} "endsial" [name] NL
after title (Name x) = Some (fixed line_end ∷ declarations ∷ named_end x ∷ text_end ∷ [])
after (new named) (Name x) = Some (after_new named x)
after (enters named x) what = where_so (is_line_end what) []
after (asked a) (Name x) = Some []
after called (Name x) = Some []
-- bound = number | name
after bound (Number n) = Some []
after bound (Name x) = Some []
after number (Number n) = Some []
after quoted (Quoted t) = Some []
-- value = ["-"] number | name
after value (Number n) = Some []
after value (symbol.Sign sign.Minus) = Some (number ∷ [])
after value (Name x) = Some []
after test what = where_so (is_some (test_of what)) []
-- "="|"+="|"max" "="
after access (symbol.Sign sign.Equals) = Some []
after access (symbol.Sign sign.PlusEquals) = Some []
after access (Name x) = where_so (bytes_eq x (codes "max")) (fixed equals ∷ [])
after executed (Key key.PrintScalar) = Some (asked a_scalar ∷ fixed line_end ∷ [])
after executed (Key key.ComputeIntegrals) = Some (block (fixed line_end ∷ []))
-- names = name {"," name}
after (dim room) (Name x) = Some (dim_end (less room) ∷ [])
after (dim_end room) (symbol.Sign sign.Comma) = Some (dim room ∷ [])
after (dim_end room) (symbol.Sign sign.Close) = Some []
-- slot = name | "*"
after (slot room) (Name x) = Some (slot_end (less room) ∷ [])
after (slot room) (symbol.Sign sign.Times) = Some (slot_end (less room) ∷ [])
after (slot_end room) (symbol.Sign sign.Comma) = Some (slot room ∷ [])
after (slot_end room) (symbol.Sign sign.Close) = Some []
after (along inner room names) (Name x) = Some (along_end inner (less room) (names ++ x ∷ []) ∷ [])
after (along_end inner room names) (symbol.Sign sign.Comma) = Some (along inner room names ∷ [])
after (along_end inner room names) LineEnd = Some (wheres inner ∷ list_end names ∷ [])
-- right = operand [("+"|"-"|"*"|"^") operand], with operand = ["-"] number | name | block
after right (Number n) = Some (bin_or_end ∷ [])
after right (symbol.Sign sign.Minus) = Some (number ∷ bin_or_end ∷ [])
after right (Name x) = Some (dims_or_bin ∷ [])
after bin_or_end what = after_bin_or_end what
after operand (Number n) = Some (fixed line_end ∷ [])
after operand (symbol.Sign sign.Minus) = Some (number ∷ fixed line_end ∷ [])
after operand (Name x) = Some (dims_or_end ∷ [])
after dims_or_bin what = if opens what then Some (dim most_rank ∷ bin_or_end ∷ []) else after_bin_or_end what
after dims_or_end what = if opens what then Some (dim most_rank ∷ fixed line_end ∷ []) else where_so (is_line_end what) []
after assign what = after_assign what
after dims_or_assign what = if opens what then Some (dim most_rank ∷ assign ∷ []) else after_assign what
-- [name] NL
after index_or_end (Name x) = Some (fixed line_end ∷ [])
after index_or_end LineEnd = Some []
after (loop inner) (Name x) = Some (in_or_end ∷ body of_do inner ∷ named_end x ∷ [])
after in_or_end (Key key.In) = Some (asked an_index ∷ fixed line_end ∷ [])
after in_or_end LineEnd = Some []
after (named_end x) (Name y) = Some (fixed line_end ∷ [])
after (named_end x) LineEnd = Some []
-- [names] NL
after (list_end xs) (Name y) = Some (list_more (others xs) ∷ [])
after (list_end xs) LineEnd = Some []
after (list_name xs) (Name y) = Some (list_more (others xs) ∷ [])
after (list_more xs) (symbol.Sign sign.Comma) = Some (list_name xs ∷ [])
after (list_more xs) LineEnd = Some []
after (body e inner) what = after_body e inner what
-- {"where" cond NL} {stmt} "endpardo"
after (wheres inner) what = if is_where what then Some (condition (wheres inner ∷ [])) else after_body of_pardo inner what
after procedures what = after_procedures what
-- {decl NL} {proc} {stmt} "endsial"
after declarations what = if begins_declaration what then Some (declaration what ++ declarations ∷ []) else after_procedures what
after _ _ = None

-- a program
abbrev pub program : List Part
program = fixed sial ∷ title ∷ []

-- words stand for parts: each word at the first part that is left, and what has to stand behind it before the other parts
pub data AreParts : List Part → List Word → Type 0 where
  none : AreParts [] []
  next : {part : Part} {more parts : List Part} {w : Word} {ws : List Word} → after part w.symbol ≡ Some more → AreParts (more ++ parts) ws → AreParts (part ∷ parts) (w ∷ ws)

-- words that stand for the first parts, and the parts that are left behind them
pub data Leads : List Part → List Word → List Part → Type 0 where
  here : {parts : List Part} → Leads parts [] parts
  next : {p : Part} {more parts left : List Part} {w : Word} {ws : List Word} →
      after p w.symbol ≡ Some more → Leads (more ++ parts) ws left → Leads (p ∷ parts) (w ∷ ws) left

-- words with which words begin that stand for parts
abbrev pub BeginParts : List Part → List Word → Type 0
BeginParts parts ws = (behind : List Word) × AreParts parts (ws ++ behind)

-- words have the form of a program, whatever their names are declared as
abbrev pub HaveForm : List Word → Type 0
HaveForm ws = AreParts program ws

-- words begin the form of a program
abbrev pub BeginForm : List Word → Type 0
BeginForm ws = BeginParts program ws
