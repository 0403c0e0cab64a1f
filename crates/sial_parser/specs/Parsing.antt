-- A program's words read from the first on: its tree, or the first fault.
use Rattle.std.specs.Prelude.{ℕ, zero, suc, ◌+◌, ◌*◌, List, [], ◌∷◌, ◌++◌, Bool, true, false, if◌then◌else◌, ◌==◌, ◌&&◌, not, nat_lt, length, Option, Some, None, Result, Ok, Err, codes}
use Rattle.std.specs.Str.{bytes_eq}
use Rattle.sial_syntax.specs.Limits.{most_statements, most_names, most_nesting, most_rank, most_pardo}
use Rattle.sial_syntax.specs.Tree.{Tree, Procedure, Plain, block_of, Do, DoIn, Pardo, If, IfElse, Call, Assign, Get, Request, Put, Prepare, Create, Delete, Allocate, Deallocate, Collective, SipBarrier, ServerBarrier, Print, PrintScalar, Integrals}
use Rattle.sial_syntax.specs.declared.access.Access.{Access}
use Rattle.sial_syntax.specs.declared.access.Access.TheVariants.{Add, Max, Store}
use Rattle.sial_syntax.specs.declared.array.ArrayKind.{ArrayKind}
use Rattle.sial_syntax.specs.declared.array.ArrayKind.TheVariants as arrays
use Rattle.sial_syntax.specs.declared.condition.Cond.{Cond}
use Rattle.sial_syntax.specs.declared.condition.Test.{Test}
use Rattle.sial_syntax.specs.declared.condition.Test.TheVariants as test
use Rattle.sial_syntax.specs.declared.condition.Value.{Value}
use Rattle.sial_syntax.specs.declared.condition.Value.TheVariants as value
use Rattle.sial_syntax.specs.declared.index.Bound.{Bound}
use Rattle.sial_syntax.specs.declared.index.Bound.TheVariants as bound
use Rattle.sial_syntax.specs.declared.index.Kind.{Kind}
use Rattle.sial_syntax.specs.declared.index.Kind.TheVariants as kind
use Rattle.sial_syntax.specs.declared.index.Range.TheVariants as range
use Rattle.sial_syntax.specs.declared.operand.Bin.{Bin}
use Rattle.sial_syntax.specs.declared.operand.Bin.TheVariants as bin
use Rattle.sial_syntax.specs.declared.operand.BlockRef.{BlockRef}
use Rattle.sial_syntax.specs.declared.operand.Op.{Op}
use Rattle.sial_syntax.specs.declared.operand.Op.TheVariants as op
use Rattle.sial_syntax.specs.declared.operand.Operand.{Operand}
use Rattle.sial_syntax.specs.declared.operand.Operand.TheVariants as operand
use Rattle.sial_syntax.specs.declared.operand.Right.{Right}
use Rattle.sial_syntax.specs.declared.operand.Right.TheVariants.{One, Two}
use Rattle.sial_syntax.specs.declared.operand.Slot.{Slot}
use Rattle.sial_syntax.specs.declared.operand.Slot.TheVariants.{At, All}
use Rattle.sial_syntax.specs.declared.operand.Target.{Target}
use Rattle.sial_syntax.specs.declared.operand.Target.TheVariants as target
use Rattle.sial_parser.specs.Grammar.{opens, go_on_with_open, negative, ends_body, is_where, begins_proc, begins_declaration, tree_of}
use Rattle.sial_parser.specs.Scope.{Scope, thing_of, Declared, nothing, with_index, with_array, with_scalar}
use Rattle.sial_parser.specs.declared.fault.Counted.{Counted}
use Rattle.sial_parser.specs.declared.fault.Counted.TheVariants as counts
use Rattle.sial_parser.specs.declared.fault.ParseFault.{ParseFault}
use Rattle.sial_parser.specs.declared.fault.ParseFault.TheVariants.{Expected, Undeclared, Twice, EndName, TooMany, TooDeep}
use Rattle.sial_parser.specs.declared.keyword.Keyword.TheVariants as key
use Rattle.sial_parser.specs.declared.sign.Sign.TheVariants as sign
use Rattle.sial_parser.specs.declared.thing.Thing.{Thing}
use Rattle.sial_parser.specs.declared.thing.Thing.TheVariants.{Index, Array, Scalar, Proc}
use Rattle.sial_parser.specs.declared.word.Symbol.{Symbol}
use Rattle.sial_parser.specs.declared.word.Symbol.TheVariants.{Key, Name, Number, Quoted, LineEnd, End}
use Rattle.sial_parser.specs.declared.word.Symbol.TheVariants as symbol
use Rattle.sial_parser.specs.declared.word.Word.{Word}

infixl 10 ◌>>=◌
-- what follows a reading
abbrev pub ◌>>=◌ : {A B : Type 0} → Result A ParseFault → (A → Result B ParseFault) → Result B ParseFault
(Ok x) >>= f = f x
(Err e) >>= f = Err e

-- something read, and the words behind it
abbrev pub Read : Type 0 → Type 0
Read A = Result (A × List Word) ParseFault

-- the line of the first word; there always is one, since the end of the text is a word
abbrev pub line_of : List Word → ℕ
line_of [] = 0
line_of (w ∷ ws) = w.line

-- no program goes on so
abbrev pub unexpected : {A : Type 0} → List Word → Result A ParseFault
unexpected ws = Err (Expected (line_of ws))

-- tests of a symbol
abbrev pub is_line_end : Symbol → Bool
is_line_end LineEnd = true
is_line_end _ = false

abbrev pub is_end : Symbol → Bool
is_end End = true
is_end _ = false

abbrev pub closes : Symbol → Bool
closes (symbol.Sign sign.Close) = true
closes _ = false

abbrev pub is_comma : Symbol → Bool
is_comma (symbol.Sign sign.Comma) = true
is_comma _ = false

abbrev pub is_equals : Symbol → Bool
is_equals (symbol.Sign sign.Equals) = true
is_equals _ = false

abbrev pub is_plus_equals : Symbol → Bool
is_plus_equals (symbol.Sign sign.PlusEquals) = true
is_plus_equals _ = false

abbrev pub is_sial : Symbol → Bool
is_sial (Key key.Sial) = true
is_sial _ = false

abbrev pub is_end_sial : Symbol → Bool
is_end_sial (Key key.EndSial) = true
is_end_sial _ = false

abbrev pub is_end_proc : Symbol → Bool
is_end_proc (Key key.EndProc) = true
is_end_proc _ = false

abbrev pub is_end_do : Symbol → Bool
is_end_do (Key key.EndDo) = true
is_end_do _ = false

abbrev pub is_end_pardo : Symbol → Bool
is_end_pardo (Key key.EndPardo) = true
is_end_pardo _ = false

abbrev pub is_end_if : Symbol → Bool
is_end_if (Key key.EndIf) = true
is_end_if _ = false

abbrev pub is_of : Symbol → Bool
is_of (Key key.Of) = true
is_of _ = false

-- a word that passes a test is taken
abbrev pub skip : (Symbol → Bool) → List Word → Result (List Word) ParseFault
skip test [] = unexpected []
skip test (w ∷ ws) = if test w.symbol then Ok ws else unexpected (w ∷ ws)

-- a name
abbrev pub name_by : Symbol → Word → List Word → Read (List ℕ)
name_by (Name name) w ws = Ok (name, ws)
name_by _ w ws = unexpected (w ∷ ws)

abbrev pub name : List Word → Read (List ℕ)
name [] = unexpected []
name (w ∷ ws) = name_by w.symbol w ws

-- the number of an index, of an array, of a scalar
abbrev pub index_by : (line : ℕ) → Option Thing → Result ℕ ParseFault
index_by line (Some (Index i)) = Ok i
index_by line _ = Err (Undeclared line)

abbrev pub array_by : (line : ℕ) → Option Thing → Result ℕ ParseFault
array_by line (Some (Array a)) = Ok a
array_by line _ = Err (Undeclared line)

abbrev pub scalar_by : (line : ℕ) → Option Thing → Result ℕ ParseFault
scalar_by line (Some (Scalar x)) = Ok x
scalar_by line _ = Err (Undeclared line)

-- an index
unfoldable pub index : Scope → List Word → Read ℕ
index s ws = name ws >>= λ x. index_by (line_of ws) (thing_of s x.0) >>= λ i. Ok (i, x.1)

-- an array
unfoldable pub array : Scope → List Word → Read ℕ
array s ws = name ws >>= λ x. array_by (line_of ws) (thing_of s x.0) >>= λ a. Ok (a, x.1)

-- a scalar
unfoldable pub scalar : Scope → List Word → Read ℕ
scalar s ws = name ws >>= λ x. scalar_by (line_of ws) (thing_of s x.0) >>= λ a. Ok (a, x.1)

-- whether a list goes on: by a comma, or not, by what closes it
unfoldable pub goes_on : (Symbol → Bool) → List Word → Read Bool
goes_on closing [] = unexpected []
goes_on closing (w ∷ ws) = if is_comma w.symbol then Ok (true, ws) else (if closing w.symbol then Ok (false, ws) else unexpected (w ∷ ws))

-- an index, and whether the list goes on
unfoldable pub index_and : Scope → (Symbol → Bool) → List Word → Read (ℕ × Bool)
index_and s closing ws = index s ws >>= λ x. goes_on closing x.1 >>= λ y. Ok ((x.0, y.0), y.1)

-- no further index may stand here
abbrev pub no_index : Scope → List Word → Read (List ℕ)
no_index s ws = index s ws >>= λ x. Err (TooMany (line_of ws) counts.Names)

-- indices up to what closes them, at most so many more, behind those in front
unfoldable pub indices : Scope → (Symbol → Bool) → (room : ℕ) → (front : List ℕ) → List Word → Read (List ℕ)
indices s closing zero front ws = no_index s ws
indices s closing (suc room) front ws = index_and s closing ws >>= λ x. if x.0.1 then indices s closing room (front ++ x.0.0 ∷ []) x.1 else Ok (front ++ x.0.0 ∷ [], x.1)

-- "(" names ")"
unfoldable pub dims : Scope → List Word → Read (List ℕ)
dims s ws = skip opens ws >>= λ ws. indices s closes most_rank [] ws

-- block
unfoldable pub block : Scope → List Word → Read BlockRef
block s ws = array s ws >>= λ a. dims s a.1 >>= λ is. Ok (record { array = a.0; at = is.0 }, is.1)

-- slot
abbrev pub slot_by : Scope → Symbol → Word → List Word → Read Slot
slot_by s (symbol.Sign sign.Times) w ws = Ok (All, ws)
slot_by s (Name name) w ws = index_by w.line (thing_of s name) >>= λ i. Ok (At i, ws)
slot_by s _ w ws = unexpected (w ∷ ws)

unfoldable pub slot : Scope → List Word → Read Slot
slot s [] = unexpected []
slot s (w ∷ ws) = slot_by s w.symbol w ws

-- a slot, and whether the list goes on
unfoldable pub slot_and : Scope → List Word → Read (Slot × Bool)
slot_and s ws = slot s ws >>= λ x. goes_on closes x.1 >>= λ y. Ok ((x.0, y.0), y.1)

-- no further slot may stand here
abbrev pub no_slot : Scope → List Word → Read (List Slot)
no_slot s ws = slot s ws >>= λ x. Err (TooMany (line_of ws) counts.Names)

-- slots up to ")", at most so many more, behind those in front
unfoldable pub slots : Scope → (room : ℕ) → (front : List Slot) → List Word → Read (List Slot)
slots s zero front ws = no_slot s ws
slots s (suc room) front ws = slot_and s ws >>= λ x. if x.0.1 then slots s room (front ++ x.0.0 ∷ []) x.1 else Ok (front ++ x.0.0 ∷ [], x.1)

-- number
abbrev pub number_by : Symbol → Word → List Word → Read ℕ
number_by (Number n) w ws = Ok (n, ws)
number_by _ w ws = unexpected (w ∷ ws)

abbrev pub number : List Word → Read ℕ
number [] = unexpected []
number (w ∷ ws) = number_by w.symbol w ws

-- "+"|"-"|"*"|"^"
abbrev pub bin_of : Symbol → Option Bin
bin_of (symbol.Sign sign.Plus) = Some bin.Plus
bin_of (symbol.Sign sign.Minus) = Some bin.Minus
bin_of (symbol.Sign sign.Times) = Some bin.Times
bin_of (symbol.Sign sign.Caret) = Some bin.Outer
bin_of _ = None

-- "="|"+="|"-="|"*="
abbrev pub op_of : Symbol → Option Op
op_of (symbol.Sign sign.Equals) = Some op.Set
op_of (symbol.Sign sign.PlusEquals) = Some op.Add
op_of (symbol.Sign sign.MinusEquals) = Some op.Subtract
op_of (symbol.Sign sign.TimesEquals) = Some op.Scale
op_of _ = None

-- "<"|"<="|">"|">="|"=="|"!="
abbrev pub test_of : Symbol → Option Test
test_of (symbol.Sign sign.Less) = Some test.Less
test_of (symbol.Sign sign.LessEqual) = Some test.LessEqual
test_of (symbol.Sign sign.Greater) = Some test.Greater
test_of (symbol.Sign sign.GreaterEqual) = Some test.GreaterEqual
test_of (symbol.Sign sign.EqualEqual) = Some test.Equal
test_of (symbol.Sign sign.NotEqual) = Some test.NotEqual
test_of _ = None

abbrev pub is_some : {A : Type 0} → Option A → Bool
is_some (Some x) = true
is_some None = false

-- whether a symbol may stand behind an operand, or behind a target
abbrev pub ends_operand : Symbol → Bool
ends_operand what = if is_line_end what then true else is_some (bin_of what)

abbrev pub ends_target : Symbol → Bool
ends_target what = is_some (op_of what)

-- whether the first word passes a test
abbrev pub is_next : (Symbol → Bool) → List Word → Bool
is_next test [] = false
is_next test (w ∷ ws) = test w.symbol

-- a name before what fits nothing is a scalar or an array
abbrev pub known : (line : ℕ) → Option Thing → Result ℕ ParseFault
known line (Some (Scalar x)) = Ok x
known line (Some (Array a)) = Ok a
known line _ = Err (Undeclared line)

-- a name alone, by whether what follows it fits
abbrev pub alone : (line : ℕ) → (fits : Bool) → Option Thing → List Word → Read ℕ
alone line true thing ws = scalar_by line thing >>= λ x. Ok (x, ws)
alone line false thing ws = known line thing >>= λ x. unexpected ws

-- an operand that begins with a name, by what it is declared as
abbrev pub thing_operand : Scope → Option Thing → List Word → Read Operand
thing_operand s thing [] = unexpected []
thing_operand s thing (w ∷ ws) =
    if go_on_with_open ws then (block s (w ∷ ws) >>= λ b. Ok (operand.Block b.0, b.1))
    else (alone w.line (is_next ends_operand ws) thing ws >>= λ x. Ok (operand.Scalar x.0, x.1))

abbrev pub operand_by : Scope → Symbol → Word → List Word → Read Operand
operand_by s (Number n) w ws = Ok (operand.Number n, ws)
operand_by s (symbol.Sign sign.Minus) w ws = number ws >>= λ n. Ok (operand.Number (negative n.0), n.1)
operand_by s (Name name) w ws = thing_operand s (thing_of s name) (w ∷ ws)
operand_by s _ w ws = unexpected (w ∷ ws)

unfoldable pub operand_at : Scope → List Word → Read Operand
operand_at s [] = unexpected []
operand_at s (w ∷ ws) = operand_by s w.symbol w ws

-- right NL
abbrev pub right_by : Scope → Operand → Option Bin → Word → List Word → Read Right
right_by s a (Some how) w ws = operand_at s ws >>= λ b. skip is_line_end b.1 >>= λ rest. Ok (Two a how b.0, rest)
right_by s a None w ws = skip is_line_end (w ∷ ws) >>= λ rest. Ok (One a, rest)

abbrev pub right_after : Scope → Operand → List Word → Read Right
right_after s a [] = unexpected []
right_after s a (w ∷ ws) = right_by s a (bin_of w.symbol) w ws

unfoldable pub right : Scope → List Word → Read Right
right s ws = operand_at s ws >>= λ a. right_after s a.0 a.1

-- value
abbrev pub value_of : (line : ℕ) → Option Thing → Result Value ParseFault
value_of line (Some (Scalar x)) = Ok (value.Scalar x)
value_of line (Some (Index i)) = Ok (value.Index i)
value_of line _ = Err (Undeclared line)

abbrev pub value_by : Scope → Symbol → Word → List Word → Read Value
value_by s (Number n) w ws = Ok (value.Number n, ws)
value_by s (symbol.Sign sign.Minus) w ws = number ws >>= λ n. Ok (value.Number (negative n.0), n.1)
value_by s (Name name) w ws = value_of w.line (thing_of s name) >>= λ v. Ok (v, ws)
value_by s _ w ws = unexpected (w ∷ ws)

unfoldable pub value_at : Scope → List Word → Read Value
value_at s [] = unexpected []
value_at s (w ∷ ws) = value_by s w.symbol w ws

-- cond NL
abbrev pub cond_by : Scope → Value → Option Test → Word → List Word → Read Cond
cond_by s a (Some how) w ws = value_at s ws >>= λ b. skip is_line_end b.1 >>= λ rest. Ok (record { left = a; test = how; right = b.0 }, rest)
cond_by s a None w ws = unexpected (w ∷ ws)

abbrev pub cond_after : Scope → Value → List Word → Read Cond
cond_after s a [] = unexpected []
cond_after s a (w ∷ ws) = cond_by s a (test_of w.symbol) w ws

unfoldable pub condition : Scope → List Word → Read Cond
condition s ws = value_at s ws >>= λ a. cond_after s a.0 a.1

-- "="|"+="|"max" "="
abbrev pub access_by : Symbol → Word → List Word → Read Access
access_by (symbol.Sign sign.Equals) w ws = Ok (Store, ws)
access_by (symbol.Sign sign.PlusEquals) w ws = Ok (Add, ws)
access_by (Name name) w ws = if bytes_eq name (codes "max") then (skip is_equals ws >>= λ rest. Ok (Max, rest)) else unexpected (w ∷ ws)
access_by _ w ws = unexpected (w ∷ ws)

unfoldable pub access : List Word → Read Access
access [] = unexpected []
access (w ∷ ws) = access_by w.symbol w ws

-- [name] NL, the name that of the opener
abbrev pub named_end_by : (opener : List ℕ) → Symbol → Word → List Word → Result (List Word) ParseFault
named_end_by opener LineEnd w ws = Ok ws
named_end_by opener (Name name) w ws = if bytes_eq name opener then skip is_line_end ws else Err (EndName w.line)
named_end_by opener _ w ws = unexpected (w ∷ ws)

unfoldable pub named_end : (opener : List ℕ) → List Word → Result (List Word) ParseFault
named_end opener [] = unexpected []
named_end opener (w ∷ ws) = named_end_by opener w.symbol w ws

-- whether a name is an index
abbrev pub is_index : ℕ → Option Thing → Bool
is_index i (Some (Index j)) = i == j
is_index i _ = false

-- the opener's names that are left, and then the line end
abbrev pub listed_more : (others : List ℕ) → (more : Bool) → (rest : List Word) → (List Word → Result (List Word) ParseFault) → List Word → Result (List Word) ParseFault
listed_more others true rest go ws = go rest
listed_more [] false rest go ws = Ok rest
listed_more (i ∷ is) false rest go ws = Err (EndName (line_of ws))

unfoldable pub listed : Scope → (opener : List ℕ) → List Word → Result (List Word) ParseFault
listed s [] ws = name ws >>= λ x. Err (EndName (line_of ws))
listed s (i ∷ is) ws =
    name ws >>= λ x. if is_index i (thing_of s x.0) then (goes_on is_line_end x.1 >>= λ y. listed_more is y.0 y.1 (listed s is) x.1) else Err (EndName (line_of ws))

-- [names] NL, the names those of the opener
unfoldable pub listed_end : Scope → (opener : List ℕ) → List Word → Result (List Word) ParseFault
listed_end s opener [] = unexpected []
listed_end s opener (w ∷ ws) = if is_line_end w.symbol then Ok ws else listed s opener (w ∷ ws)

-- a line of `where`, if one stands there
unfoldable pub where_one : Scope → List Word → Read (Option Cond)
where_one s [] = unexpected []
where_one s (w ∷ ws) = if is_where w.symbol then (condition s ws >>= λ c. Ok (Some c.0, c.1)) else Ok (None, w ∷ ws)

-- with one more condition, if there is one
abbrev pub with_where : (List Cond → List Word → Read (List Cond)) → (front : List Cond) → Option Cond → List Word → Read (List Cond)
with_where go front None ws = Ok (front, ws)
with_where go front (Some c) ws = go (front ++ c ∷ []) ws

-- {"where" cond NL}, in so many turns, behind those in front; each turn takes a word, so there are enough
unfoldable pub wheres : Scope → (turns : ℕ) → (front : List Cond) → List Word → Read (List Cond)
wheres s zero front ws = unexpected ws
wheres s (suc n) front ws = where_one s ws >>= λ x. with_where (wheres s n) front x.0 x.1

-- more tests of a symbol
abbrev pub is_in : Symbol → Bool
is_in (Key key.In) = true
is_in _ = false

abbrev pub is_else : Symbol → Bool
is_else (Key key.Else) = true
is_else _ = false

-- a block and its line end
abbrev pub block_line : Scope → List Word → Read BlockRef
block_line s ws = block s ws >>= λ b. skip is_line_end b.1 >>= λ rest. Ok (b.0, rest)

-- a called procedure; where only faults that stand before an undeclared one are looked for, any name is taken
abbrev pub called : (strict : Bool) → (line : ℕ) → Option Thing → Result ℕ ParseFault
called false line thing = Ok 0
called true line (Some (Proc p)) = Ok p
called true line _ = Err (Undeclared line)

-- the statements that have no body, behind their first word
unfoldable pub call_at : (strict : Bool) → Scope → List Word → Read Plain
call_at strict s ws = name ws >>= λ x. called strict (line_of ws) (thing_of s x.0) >>= λ p. skip is_line_end x.1 >>= λ rest. Ok (Call p, rest)

unfoldable pub get_at : Scope → List Word → Read Plain
get_at s ws = block_line s ws >>= λ b. Ok (Get b.0, b.1)

unfoldable pub request_at : Scope → List Word → Read Plain
request_at s ws = block s ws >>= λ b.
    if is_next is_line_end b.1 then (skip is_line_end b.1 >>= λ rest. Ok (Request b.0, rest))
    else (index s b.1 >>= λ i. skip is_line_end i.1 >>= λ rest. Ok (Request b.0, rest))

unfoldable pub put_at : Scope → List Word → Read Plain
put_at s ws = block s ws >>= λ b. access b.1 >>= λ how. block_line s how.1 >>= λ from. Ok (Put b.0 how.0 from.0, from.1)

unfoldable pub prepare_at : Scope → List Word → Read Plain
prepare_at s ws = block s ws >>= λ b. access b.1 >>= λ how. block_line s how.1 >>= λ from. Ok (Prepare b.0 how.0 from.0, from.1)

unfoldable pub create_at : Scope → List Word → Read Plain
create_at s ws = array s ws >>= λ a. skip is_line_end a.1 >>= λ rest. Ok (Create a.0, rest)

unfoldable pub delete_at : Scope → List Word → Read Plain
delete_at s ws = array s ws >>= λ a. skip is_line_end a.1 >>= λ rest. Ok (Delete a.0, rest)

-- "(" slot {"," slot} ")" NL
unfoldable pub slots_line : Scope → List Word → Read (List Slot)
slots_line s ws = skip opens ws >>= λ ws. slots s most_rank [] ws >>= λ x. skip is_line_end x.1 >>= λ rest. Ok (x.0, rest)

unfoldable pub allocate_at : Scope → List Word → Read Plain
allocate_at s ws = array s ws >>= λ a. slots_line s a.1 >>= λ x. Ok (Allocate a.0 x.0, x.1)

unfoldable pub deallocate_at : Scope → List Word → Read Plain
deallocate_at s ws = array s ws >>= λ a. slots_line s a.1 >>= λ x. Ok (Deallocate a.0 x.0, x.1)

unfoldable pub collective_at : Scope → List Word → Read Plain
collective_at s ws = scalar s ws >>= λ x. skip is_plus_equals x.1 >>= λ ws. scalar s ws >>= λ y. skip is_line_end y.1 >>= λ rest. Ok (Collective x.0 y.0, rest)

unfoldable pub barrier_at : Plain → List Word → Read Plain
barrier_at form ws = skip is_line_end ws >>= λ rest. Ok (form, rest)

abbrev pub quoted_by : Symbol → Word → List Word → Read (List ℕ)
quoted_by (Quoted text) w ws = Ok (text, ws)
quoted_by _ w ws = unexpected (w ∷ ws)

abbrev pub quoted : List Word → Read (List ℕ)
quoted [] = unexpected []
quoted (w ∷ ws) = quoted_by w.symbol w ws

unfoldable pub print_at : List Word → Read Plain
print_at ws = quoted ws >>= λ t. skip is_line_end t.1 >>= λ rest. Ok (Print t.0, rest)

abbrev pub execute_by : Scope → Symbol → Word → List Word → Read Plain
execute_by s (Key key.PrintScalar) w ws = scalar s ws >>= λ x. skip is_line_end x.1 >>= λ rest. Ok (PrintScalar x.0, rest)
execute_by s (Key key.ComputeIntegrals) w ws = block_line s ws >>= λ b. Ok (Integrals b.0, b.1)
execute_by s _ w ws = unexpected (w ∷ ws)

unfoldable pub execute_at : Scope → List Word → Read Plain
execute_at s [] = unexpected []
execute_at s (w ∷ ws) = execute_by s w.symbol w ws

-- target
abbrev pub target_by : Scope → Symbol → Word → List Word → Read Target
target_by s (Name name) w ws =
    if go_on_with_open ws then (block s (w ∷ ws) >>= λ b. Ok (target.Block b.0, b.1))
    else (alone w.line (is_next ends_target ws) (thing_of s name) ws >>= λ x. Ok (target.Scalar x.0, x.1))
target_by s _ w ws = unexpected (w ∷ ws)

unfoldable pub target_at : Scope → List Word → Read Target
target_at s [] = unexpected []
target_at s (w ∷ ws) = target_by s w.symbol w ws

-- an assignment, from its target on
abbrev pub assign_by : Scope → Target → Option Op → Word → List Word → Read Plain
assign_by s t (Some how) w ws = right s ws >>= λ r. Ok (Assign t how r.0, r.1)
assign_by s t None w ws = unexpected (w ∷ ws)

abbrev pub assign_after : Scope → Target → List Word → Read Plain
assign_after s t [] = unexpected []
assign_after s t (w ∷ ws) = assign_by s t (op_of w.symbol) w ws

unfoldable pub assign_at : Scope → List Word → Read Plain
assign_at s ws = target_at s ws >>= λ t. assign_after s t.0 t.1

-- statements with their lines, and how many more there may be
abbrev pub Statements : Type 0
Statements = List (ℕ × Plain) × ℕ

-- how the body of a statement is read, given how many statements there may be
abbrev pub Inner : Type 0
Inner = (left : ℕ) → List Word → Read Statements

-- a statement, where there may be one more
abbrev pub counted : {A : Type 0} → (left line : ℕ) → (ℕ → Result A ParseFault) → Result A ParseFault
counted zero line go = Err (TooMany line counts.Statements)
counted (suc n) line go = go n

-- a body, where one more may nest
abbrev pub deeper : {A : Type 0} → Option Inner → (line : ℕ) → (Inner → Result A ParseFault) → Result A ParseFault
deeper None line go = Err (TooDeep line)
deeper (Some body) line go = go body

-- {stmt} "enddo" [name] NL
unfoldable pub loop_body : Inner → (left : ℕ) → (opener : List ℕ) → List Word → Read Statements
loop_body body left opener ws = body left ws >>= λ b. skip is_end_do b.1 >>= λ ends. named_end opener ends >>= λ rest. Ok (b.0, rest)

-- a loop, behind its index
abbrev pub do_by : Scope → Inner → (left : ℕ) → (opener : List ℕ) → (index : ℕ) → (within : Bool) → List Word → Read (Plain × ℕ)
do_by s body left opener i true ws =
    skip is_in ws >>= λ ws. index s ws >>= λ j. skip is_line_end j.1 >>= λ ws. loop_body body left opener ws >>= λ b. Ok ((DoIn i j.0 (block_of b.0.0), b.0.1), b.1)
do_by s body left opener i false ws = skip is_line_end ws >>= λ ws. loop_body body left opener ws >>= λ b. Ok ((Do i (block_of b.0.0), b.0.1), b.1)

unfoldable pub do_at : Scope → Inner → (left : ℕ) → List Word → Read (Plain × ℕ)
do_at s body left ws = name ws >>= λ x. index_by (line_of ws) (thing_of s x.0) >>= λ i. do_by s body left x.0 i (is_next is_in x.1) x.1

unfoldable pub pardo_at : Scope → Inner → (left : ℕ) → List Word → Read (Plain × ℕ)
pardo_at s body left ws =
    indices s is_line_end most_pardo [] ws >>= λ is. wheres s (length is.1 + 1) [] is.1 >>= λ cs. body left cs.1 >>= λ b. skip is_end_pardo b.1 >>= λ ends.
    listed_end s is.0 ends >>= λ rest. Ok ((Pardo is.0 cs.0 (block_of b.0.0), b.0.1), rest)

-- "endif" NL
abbrev pub end_if : List Word → Result (List Word) ParseFault
end_if ws = skip is_end_if ws >>= λ ws. skip is_line_end ws

-- behind the first branch
abbrev pub if_by : Inner → Cond → Statements → (otherwise : Bool) → List Word → Read (Plain × ℕ)
if_by body c first true ws =
    skip is_else ws >>= λ ws. skip is_line_end ws >>= λ ws. body first.1 ws >>= λ b. end_if b.1 >>= λ rest. Ok ((IfElse c (block_of first.0) (block_of b.0.0), b.0.1), rest)
if_by body c first false ws = end_if ws >>= λ rest. Ok ((If c (block_of first.0), first.1), rest)

unfoldable pub if_at : Scope → Inner → (left : ℕ) → List Word → Read (Plain × ℕ)
if_at s body left ws = condition s ws >>= λ c. body left c.1 >>= λ b. if_by body c.0 b.0 (is_next is_else b.1) b.1

-- a statement without a body leaves as many as there are after it
abbrev pub with_left : ℕ → Read Plain → Read (Plain × ℕ)
with_left n read = read >>= λ x. Ok ((x.0, n), x.1)

-- what a name that begins a statement has to be
abbrev pub first_by : Scope → (name : List ℕ) → (line : ℕ) → List Word → Result ℕ ParseFault
first_by s name line ws =
    if go_on_with_open ws then array_by line (thing_of s name)
    else (if is_next ends_target ws then scalar_by line (thing_of s name) else known line (thing_of s name))

abbrev pub target_first : Scope → (name : List ℕ) → Word → List Word → Result ℕ ParseFault
target_first s name w ws = first_by s name w.line ws

-- whether a symbol begins a statement without a body that is no assignment
abbrev pub begins_simple : Symbol → Bool
begins_simple (Key key.Call) = true
begins_simple (Key key.Get) = true
begins_simple (Key key.Request) = true
begins_simple (Key key.Put) = true
begins_simple (Key key.Prepare) = true
begins_simple (Key key.Create) = true
begins_simple (Key key.Delete) = true
begins_simple (Key key.Allocate) = true
begins_simple (Key key.Deallocate) = true
begins_simple (Key key.Collective) = true
begins_simple (Key key.SipBarrier) = true
begins_simple (Key key.ServerBarrier) = true
begins_simple (Key key.Print) = true
begins_simple (Key key.Execute) = true
begins_simple _ = false

-- such a statement, by its first symbol
abbrev pub simple_by : (strict : Bool) → Scope → Symbol → List Word → Read Plain
simple_by strict s (Key key.Call) ws = call_at strict s ws
simple_by strict s (Key key.Get) ws = get_at s ws
simple_by strict s (Key key.Request) ws = request_at s ws
simple_by strict s (Key key.Put) ws = put_at s ws
simple_by strict s (Key key.Prepare) ws = prepare_at s ws
simple_by strict s (Key key.Create) ws = create_at s ws
simple_by strict s (Key key.Delete) ws = delete_at s ws
simple_by strict s (Key key.Allocate) ws = allocate_at s ws
simple_by strict s (Key key.Deallocate) ws = deallocate_at s ws
simple_by strict s (Key key.Collective) ws = collective_at s ws
simple_by strict s (Key key.SipBarrier) ws = barrier_at SipBarrier ws
simple_by strict s (Key key.ServerBarrier) ws = barrier_at ServerBarrier ws
simple_by strict s (Key key.Print) ws = print_at ws
simple_by strict s (Key key.Execute) ws = execute_at s ws
simple_by strict s _ ws = unexpected ws

-- whether a symbol begins a statement with a body
abbrev pub begins_compound : Symbol → Bool
begins_compound (Key key.Do) = true
begins_compound (Key key.Pardo) = true
begins_compound (Key key.If) = true
begins_compound _ = false

-- such a statement, by its first symbol
abbrev pub compound_by : Scope → Inner → (left : ℕ) → Symbol → List Word → Read (Plain × ℕ)
compound_by s body left (Key key.Do) ws = do_at s body left ws
compound_by s body left (Key key.Pardo) ws = pardo_at s body left ws
compound_by s body left (Key key.If) ws = if_at s body left ws
compound_by s body left _ ws = unexpected ws

-- what isn't an assignment, by its first symbol
abbrev pub other_statement : (strict : Bool) → Scope → Option Inner → (left : ℕ) → Symbol → Word → List Word → Read (Plain × ℕ)
other_statement strict s inner left what w ws =
    if begins_compound what then counted left w.line (λ n. deeper inner w.line (λ body. compound_by s body n what ws))
    else (if begins_simple what then counted left w.line (λ n. with_left n (simple_by strict s what ws)) else unexpected (w ∷ ws))

-- a statement, by its first symbol
abbrev pub statement_by : (strict : Bool) → Scope → Option Inner → (left : ℕ) → Symbol → Word → List Word → Read (Plain × ℕ)
statement_by strict s inner left (Name name) w ws = target_first s name w ws >>= λ x. counted left w.line (λ n. with_left n (assign_at s (w ∷ ws)))
statement_by strict s inner left what w ws = other_statement strict s inner left what w ws

unfoldable pub statement : (strict : Bool) → Scope → Option Inner → (left : ℕ) → List Word → Read (Plain × ℕ)
statement strict s inner left [] = unexpected []
statement strict s inner left (w ∷ ws) = statement_by strict s inner left w.symbol w ws

-- a statement with its line, and how many are left behind it, if no end word stands there
abbrev pub Turn : Type 0
Turn = Option ((ℕ × Plain) × ℕ)

unfoldable pub turn_of : ((left : ℕ) → List Word → Read (Plain × ℕ)) → (left : ℕ) → List Word → Read Turn
turn_of one left [] = unexpected []
turn_of one left (w ∷ ws) = if ends_body w.symbol then Ok (None, w ∷ ws) else (one left (w ∷ ws) >>= λ x. Ok (Some ((w.line, x.0.0), x.0.1), x.1))

-- with one more statement, if there is one
abbrev pub with_turn : (List (ℕ × Plain) → ℕ → List Word → Read Statements) → (front : List (ℕ × Plain)) → (left : ℕ) → Turn → List Word → Read Statements
with_turn go front left None ws = Ok ((front, left), ws)
with_turn go front left (Some t) ws = go (front ++ t.0 ∷ []) t.1 ws

-- {stmt} up to an end word, in so many turns, behind those in front; each turn takes a statement, so there are enough
unfoldable pub turns : ((left : ℕ) → List Word → Read (Plain × ℕ)) → (turns : ℕ) → (front : List (ℕ × Plain)) → (left : ℕ) → List Word → Read Statements
turns one zero front left ws = unexpected ws
turns one (suc n) front left ws = turn_of one left ws >>= λ x. with_turn (turns one n) front left x.0 x.1

-- {stmt}, in which so many bodies may nest
unfoldable pub body : (depth : ℕ) → (strict : Bool) → Scope → Inner
body zero strict s left ws = turns (statement strict s None) (left + 1) [] left ws
body (suc d) strict s left ws = turns (statement strict s (Some (body d strict s))) (left + 1) [] left ws

-- a new name, of which there are so many
abbrev pub new_by : (line count : ℕ) → Counted → (taken : Bool) → List ℕ → List Word → Read (List ℕ)
new_by line count which true x rest = Err (Twice line)
new_by line count which false x rest = if nat_lt count most_names then Ok (x, rest) else Err (TooMany line which)

unfoldable pub new_name : Scope → (count : ℕ) → Counted → List Word → Read (List ℕ)
new_name s count which ws = name ws >>= λ x. new_by (line_of ws) count which (is_some (thing_of s x.0)) x.0 x.1

-- bound
abbrev pub bound_by : Symbol → Word → List Word → Read Bound
bound_by (Number n) w ws = Ok (bound.Number n, ws)
bound_by (Name name) w ws = Ok (bound.Named name, ws)
bound_by _ w ws = unexpected (w ∷ ws)

unfoldable pub bound_at : List Word → Read Bound
bound_at [] = unexpected []
bound_at (w ∷ ws) = bound_by w.symbol w ws

-- name "=" bound "," bound NL
unfoldable pub segments_at : Declared → Kind → (line : ℕ) → List Word → Read Declared
segments_at d of line ws =
    new_name d.scope (length d.indices) counts.Indices ws >>= λ x. skip is_equals x.1 >>= λ ws. bound_at ws >>= λ lo. skip is_comma lo.1 >>= λ ws. bound_at ws >>= λ hi. skip is_line_end hi.1 >>= λ rest.
    Ok (with_index d (record { name = x.0; line = line; range = range.Segments of lo.0 hi.0 }), rest)

-- name "of" name NL
unfoldable pub subindex_at : Declared → (line : ℕ) → List Word → Read Declared
subindex_at d line ws =
    new_name d.scope (length d.indices) counts.Indices ws >>= λ x. skip is_of x.1 >>= λ ws. index d.scope ws >>= λ i. skip is_line_end i.1 >>= λ rest.
    Ok (with_index d (record { name = x.0; line = line; range = range.Sub i.0 }), rest)

-- name NL
unfoldable pub scalar_decl_at : Declared → List Word → Read Declared
scalar_decl_at d ws = new_name d.scope (length d.scalars) counts.Scalars ws >>= λ x. skip is_line_end x.1 >>= λ rest. Ok (with_scalar d x.0, rest)

-- name "(" names ")" NL
unfoldable pub array_decl_at : Declared → ArrayKind → (line : ℕ) → List Word → Read Declared
array_decl_at d of line ws =
    new_name d.scope (length d.arrays) counts.Arrays ws >>= λ x. dims d.scope x.1 >>= λ is. skip is_line_end is.1 >>= λ rest.
    Ok (with_array d (record { name = x.0; line = line; kind = of; dims = is.0 }), rest)

-- decl NL, by its first word
abbrev pub declaration_by : Declared → Symbol → Word → List Word → Read Declared
declaration_by d (Key key.AoIndex) w ws = segments_at d kind.Ao w.line ws
declaration_by d (Key key.MoIndex) w ws = segments_at d kind.Mo w.line ws
declaration_by d (Key key.MoaIndex) w ws = segments_at d kind.Moa w.line ws
declaration_by d (Key key.MobIndex) w ws = segments_at d kind.Mob w.line ws
declaration_by d (Key key.Index) w ws = segments_at d kind.Index w.line ws
declaration_by d (Key key.SubIndex) w ws = subindex_at d w.line ws
declaration_by d (Key key.Scalar) w ws = scalar_decl_at d ws
declaration_by d (Key key.Static) w ws = array_decl_at d arrays.Static w.line ws
declaration_by d (Key key.Temp) w ws = array_decl_at d arrays.Temp w.line ws
declaration_by d (Key key.Local) w ws = array_decl_at d arrays.Local w.line ws
declaration_by d (Key key.Distributed) w ws = array_decl_at d arrays.Distributed w.line ws
declaration_by d (Key key.Served) w ws = array_decl_at d arrays.Served w.line ws
declaration_by d _ w ws = unexpected (w ∷ ws)

unfoldable pub declaration : Declared → List Word → Read Declared
declaration d [] = unexpected []
declaration d (w ∷ ws) = declaration_by d w.symbol w ws

-- a declaration, if one stands there
unfoldable pub declared_one : Declared → List Word → Read (Declared × Bool)
declared_one d [] = unexpected []
declared_one d (w ∷ ws) = if begins_declaration w.symbol then (declaration d (w ∷ ws) >>= λ e. Ok ((e.0, true), e.1)) else Ok ((d, false), w ∷ ws)

-- {decl NL}, in so many turns
unfoldable pub declarations : (turns : ℕ) → Declared → List Word → Read Declared
declarations zero d ws = unexpected ws
declarations (suc n) d ws = declared_one d ws >>= λ x. if x.0.1 then declarations n x.0.0 x.1 else Ok (x.0.0, x.1)

-- the name of a symbol, if it is one
abbrev pub name_in : Symbol → List (List ℕ)
name_in (Name name) = name ∷ []
name_in _ = []

-- the name of the first word
abbrev pub first_name : List Word → List (List ℕ)
first_name [] = []
first_name (w ∷ ws) = name_in w.symbol

-- the names behind each `proc`
abbrev pub proc_names : List Word → List (List ℕ)
proc_names [] = []
proc_names (w ∷ ws) = if begins_proc w.symbol then first_name ws ++ proc_names ws else proc_names ws

-- whether a procedure of this name may still be declared
abbrev pub is_new : Scope → (number : ℕ) → (name : List ℕ) → Bool
is_new s number name = nat_lt number most_names && not (is_some (thing_of s name))

-- with the procedures of these names, each if it is new
abbrev pub with_procs : Scope → (number : ℕ) → List (List ℕ) → Scope
with_procs s number [] = s
with_procs s number (x ∷ xs) = if is_new s number x then with_procs (s ++ record { name = x; thing = Proc number } ∷ []) (number + 1) xs else with_procs s number xs

-- procedures with how many statements there may be behind them
abbrev pub Procedures : Type 0
Procedures = List Procedure × ℕ

-- a procedure behind `proc`, of which there are so many, and how many statements there may be behind it
unfoldable pub proc_at : (strict : Bool) → Scope → (before : Scope) → (number left : ℕ) → List Word → Read (Procedure × ℕ)
proc_at strict s before number left ws =
    new_name before number counts.Procs ws >>= λ x. skip is_line_end x.1 >>= λ ws. body most_nesting strict s left ws >>= λ b. skip is_end_proc b.1 >>= λ ends. named_end x.0 ends >>= λ rest.
    Ok ((record { name = x.0; body = block_of b.0.0 }, b.0.1), rest)

-- a procedure, if one stands there
unfoldable pub proc_one : (strict : Bool) → Scope → (before : Scope) → (number left : ℕ) → List Word → Read (Option (Procedure × ℕ))
proc_one strict s before number left [] = unexpected []
proc_one strict s before number left (w ∷ ws) = if begins_proc w.symbol then (proc_at strict s before number left ws >>= λ p. Ok (Some p.0, p.1)) else Ok (None, w ∷ ws)

-- with one more procedure, if there is one
abbrev pub with_proc : ((before : Scope) → List Procedure → ℕ → List Word → Read Procedures) → (before : Scope) → (front : List Procedure) → (left : ℕ) → Option (Procedure × ℕ) → List Word → Read Procedures
with_proc go before front left None ws = Ok ((front, left), ws)
with_proc go before front left (Some p) ws = go (before ++ record { name = p.0.name; thing = Proc (length front) } ∷ []) (front ++ p.0 ∷ []) p.1 ws

-- {proc}, in so many turns, behind those in front
unfoldable pub procs : (strict : Bool) → Scope → (turns : ℕ) → (before : Scope) → (front : List Procedure) → (left : ℕ) → List Word → Read Procedures
procs strict s zero before front left ws = unexpected ws
procs strict s (suc n) before front left ws = proc_one strict s before (length front) left ws >>= λ x. with_proc (procs strict s n) before front left x.0 x.1

-- the end of the text
abbrev pub ended : List Word → Result (List Word) ParseFault
ended [] = unexpected []
ended (w ∷ []) = if is_end w.symbol then Ok [] else unexpected (w ∷ [])
ended (w ∷ v ∷ ws) = unexpected (w ∷ v ∷ ws)

-- what stands behind the declarations
unfoldable pub program_from : (strict : Bool) → Scope → (title : List ℕ) → Declared → List Word → Result Tree ParseFault
program_from strict s x d ws =
    procs strict s (most_names + 1) d.scope [] most_statements ws >>= λ ps. body most_nesting strict s ps.0.1 ps.1 >>= λ b. skip is_end_sial b.1 >>= λ ends. named_end x ends >>= λ rest. ended rest >>= λ u.
    Ok (tree_of x d ps.0.0 (block_of b.0.0))

unfoldable pub read_program : (strict : Bool) → List Word → Result Tree ParseFault
read_program strict ws =
    skip is_sial ws >>= λ ws. name ws >>= λ x. skip is_line_end x.1 >>= λ ws. declarations (3 * most_names + 1) nothing ws >>= λ d.
    program_from strict (with_procs d.0.scope 0 (proc_names d.1)) x.0 d.0 d.1

-- an undeclared procedure comes after all other faults
abbrev pub last_fault : ParseFault → Result Tree ParseFault → Result Tree ParseFault
last_fault fault (Ok p) = Err fault
last_fault fault (Err other) = Err other

abbrev pub after_strict : List Word → Result Tree ParseFault → Result Tree ParseFault
after_strict ws (Ok p) = Ok p
after_strict ws (Err fault) = last_fault fault (read_program false ws)

-- a whole program
abbrev pub program_of : List Word → Result Tree ParseFault
program_of ws = after_strict ws (read_program true ws)
