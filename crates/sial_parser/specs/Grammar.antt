-- The grammar of programs: which words stand with which tree, production by production.
-- Each relation says of a tree that the first words are its text and the last ones are left over.
use Rattle.std.specs.Prelude.{◌≡◌, ℕ, ◌+◌, ◌-◌, ◌^◌, ◌%◌, ◌≤◌, List, [], ◌∷◌, ◌++◌, Bool, true, false, length, map, codes}
use Rattle.std.specs.List.{AllByRecursion}
use Rattle.sial_syntax.specs.Limits.{most_statements, most_names, most_nesting, most_rank, most_pardo}
use Rattle.sial_syntax.specs.Proper.{body_nesting, all_statements}
use Rattle.sial_syntax.specs.Tree.{Tree, Procedure, Block, End as Ended, Then, Plain, Do, DoIn, Pardo, If, IfElse, Call, Assign, Get, Request, Put, Prepare, Create, Delete, Allocate, Deallocate, Collective, SipBarrier, ServerBarrier, Print, PrintScalar, Integrals}
use Rattle.sial_syntax.specs.declared.access.Access.{Access}
use Rattle.sial_syntax.specs.declared.access.Access.TheVariants.{Add, Max, Store}
use Rattle.sial_syntax.specs.declared.array.ArrayKind.{ArrayKind}
use Rattle.sial_syntax.specs.declared.array.ArrayKind.TheVariants as arrays
use Rattle.sial_syntax.specs.declared.condition.Cond.{Cond}
use Rattle.sial_syntax.specs.declared.condition.Test.{Test}
use Rattle.sial_syntax.specs.declared.condition.Test.TheVariants as test
use Rattle.sial_syntax.specs.declared.condition.Value.{Value}
use Rattle.sial_syntax.specs.declared.condition.Value.TheVariants as value
use Rattle.sial_syntax.specs.declared.index.Bound.{Bound}
use Rattle.sial_syntax.specs.declared.index.Bound.TheVariants as bound
use Rattle.sial_syntax.specs.declared.index.Kind.{Kind}
use Rattle.sial_syntax.specs.declared.index.Kind.TheVariants as kind
use Rattle.sial_syntax.specs.declared.index.Range.TheVariants as range
use Rattle.sial_syntax.specs.declared.operand.Bin.{Bin}
use Rattle.sial_syntax.specs.declared.operand.Bin.TheVariants as bin
use Rattle.sial_syntax.specs.declared.operand.BlockRef.{BlockRef}
use Rattle.sial_syntax.specs.declared.operand.Op.{Op}
use Rattle.sial_syntax.specs.declared.operand.Op.TheVariants as op
use Rattle.sial_syntax.specs.declared.operand.Operand.{Operand}
use Rattle.sial_syntax.specs.declared.operand.Operand.TheVariants as operand
use Rattle.sial_syntax.specs.declared.operand.Right.{Right}
use Rattle.sial_syntax.specs.declared.operand.Right.TheVariants.{One, Two}
use Rattle.sial_syntax.specs.declared.operand.Slot.{Slot}
use Rattle.sial_syntax.specs.declared.operand.Slot.TheVariants.{At, All}
use Rattle.sial_syntax.specs.declared.operand.Target.{Target}
use Rattle.sial_syntax.specs.declared.operand.Target.TheVariants as target
use Rattle.sial_parser.specs.Scope.{Scope, IsFree, IsIndex, IsArray, IsScalar, IsProc, Declared, nothing, with_index, with_array, with_scalar}
use Rattle.sial_parser.specs.declared.thing.Thing.TheVariants.{Proc}
use Rattle.sial_parser.specs.declared.keyword.Keyword.{Keyword}
use Rattle.sial_parser.specs.declared.keyword.Keyword.TheVariants as key
use Rattle.sial_parser.specs.declared.sign.Sign.{Sign}
use Rattle.sial_parser.specs.declared.sign.Sign.TheVariants as sign
use Rattle.sial_parser.specs.declared.word.Symbol.{Symbol}
use Rattle.sial_parser.specs.declared.word.Symbol.TheVariants.{Key, Name, Number, Quoted, LineEnd, End}
use Rattle.sial_parser.specs.declared.word.Symbol.TheVariants as symbol
use Rattle.sial_parser.specs.declared.word.Word.{Word}

-- a word on a line
abbrev pub at : (line : ℕ) → Symbol → Word
at line what = record { line = line; symbol = what }

-- a sign on a line
abbrev pub sign_at : (line : ℕ) → Sign → Word
sign_at line what = at line (symbol.Sign what)

-- whether the next word opens a list
abbrev pub opens : Symbol → Bool
opens (symbol.Sign sign.Open) = true
opens _ = false

-- whether the words go on with an opening sign
abbrev pub go_on_with_open : List Word → Bool
go_on_with_open [] = false
go_on_with_open (w ∷ ws) = opens w.symbol

-- the number that `-` makes of another
abbrev pub negative : ℕ → ℕ
negative n = (2 ^ 64 - n) % 2 ^ 64

-- bound = number | name
pub data IsBound : Bound → Symbol → Type 0 where
  number : {n : ℕ} → IsBound (bound.Number n) (Number n)
  named : {name : List ℕ} → IsBound (bound.Named name) (Name name)

-- the kind of a declared index: aoindex, moindex, moaindex, mobindex, index
pub data IsKind : Kind → Keyword → Type 0 where
  ao : IsKind kind.Ao key.AoIndex
  mo : IsKind kind.Mo key.MoIndex
  moa : IsKind kind.Moa key.MoaIndex
  mob : IsKind kind.Mob key.MobIndex
  index : IsKind kind.Index key.Index

-- the kind of a declared array: static, temp, local, distributed, served
pub data IsArrayKind : ArrayKind → Keyword → Type 0 where
  static : IsArrayKind arrays.Static key.Static
  temp : IsArrayKind arrays.Temp key.Temp
  local : IsArrayKind arrays.Local key.Local
  distributed : IsArrayKind arrays.Distributed key.Distributed
  served : IsArrayKind arrays.Served key.Served

-- names = name {"," name}, each an index, up to what closes them
pub data AreIndices (s : Scope) (closing : Symbol) : List ℕ → List Word → List Word → Type 0 where
  last : {name : List ℕ} {i l k : ℕ} {rest : List Word} → IsIndex s name i → AreIndices s closing (i ∷ []) (at l (Name name) ∷ at k closing ∷ rest) rest
  more : {name : List ℕ} {i l k : ℕ} {is : List ℕ} {ws rest : List Word} → IsIndex s name i → AreIndices s closing is ws rest → AreIndices s closing (i ∷ is) (at l (Name name) ∷ sign_at k sign.Comma ∷ ws) rest

-- "(" names ")", at most six
pub data AreDims (s : Scope) : List ℕ → List Word → List Word → Type 0 where
  dims : {l : ℕ} {is : List ℕ} {ws rest : List Word} → AreIndices s (symbol.Sign sign.Close) is ws rest → length is ≤ most_rank → AreDims s is (sign_at l sign.Open ∷ ws) rest

-- block = name "(" names ")"
pub data IsBlock (s : Scope) : BlockRef → List Word → List Word → Type 0 where
  block : {name : List ℕ} {a l : ℕ} {is : List ℕ} {ws rest : List Word} → IsArray s name a → AreDims s is ws rest → IsBlock s (record { array = a; at = is }) (at l (Name name) ∷ ws) rest

-- slot = name | "*"
pub data IsSlot (s : Scope) : Slot → Symbol → Type 0 where
  one : {name : List ℕ} {i : ℕ} → IsIndex s name i → IsSlot s (At i) (Name name)
  all : IsSlot s All (symbol.Sign sign.Times)

-- slot {"," slot} ")"
pub data AreSlots (s : Scope) : List Slot → List Word → List Word → Type 0 where
  last : {slot : Slot} {what : Symbol} {l k : ℕ} {rest : List Word} → IsSlot s slot what → AreSlots s (slot ∷ []) (at l what ∷ sign_at k sign.Close ∷ rest) rest
  more : {slot : Slot} {what : Symbol} {l k : ℕ} {slots : List Slot} {ws rest : List Word} → IsSlot s slot what → AreSlots s slots ws rest → AreSlots s (slot ∷ slots) (at l what ∷ sign_at k sign.Comma ∷ ws) rest

-- ["-"] number
pub data IsNumber : ℕ → List Word → List Word → Type 0 where
  plain : {n l : ℕ} {rest : List Word} → IsNumber n (at l (Number n) ∷ rest) rest
  minus : {n l k : ℕ} {rest : List Word} → IsNumber (negative n) (sign_at l sign.Minus ∷ at k (Number n) ∷ rest) rest

-- operand = ["-"] number | name | block; a name alone is a scalar
pub data IsOperand (s : Scope) : Operand → List Word → List Word → Type 0 where
  number : {n : ℕ} {ws rest : List Word} → IsNumber n ws rest → IsOperand s (operand.Number n) ws rest
  scalar : {name : List ℕ} {x l : ℕ} {rest : List Word} → IsScalar s name x → go_on_with_open rest ≡ false → IsOperand s (operand.Scalar x) (at l (Name name) ∷ rest) rest
  block : {b : BlockRef} {ws rest : List Word} → IsBlock s b ws rest → IsOperand s (operand.Block b) ws rest

-- "+"|"-"|"*"|"^"
pub data IsBin : Bin → Sign → Type 0 where
  plus : IsBin bin.Plus sign.Plus
  minus : IsBin bin.Minus sign.Minus
  times : IsBin bin.Times sign.Times
  outer : IsBin bin.Outer sign.Caret

-- right NL, with right = operand [("+"|"-"|"*"|"^") operand]
pub data IsRight (s : Scope) : Right → List Word → List Word → Type 0 where
  one : {a : Operand} {l : ℕ} {ws rest : List Word} → IsOperand s a ws (at l LineEnd ∷ rest) → IsRight s (One a) ws rest
  two : {a b : Operand} {how : Bin} {what : Sign} {l k : ℕ} {ws between rest : List Word}
      → IsOperand s a ws (sign_at l what ∷ between) → IsBin how what → IsOperand s b between (at k LineEnd ∷ rest) → IsRight s (Two a how b) ws rest

-- value = ["-"] number | name
pub data IsValue (s : Scope) : Value → List Word → List Word → Type 0 where
  number : {n : ℕ} {ws rest : List Word} → IsNumber n ws rest → IsValue s (value.Number n) ws rest
  scalar : {name : List ℕ} {x l : ℕ} {rest : List Word} → IsScalar s name x → IsValue s (value.Scalar x) (at l (Name name) ∷ rest) rest
  index : {name : List ℕ} {i l : ℕ} {rest : List Word} → IsIndex s name i → IsValue s (value.Index i) (at l (Name name) ∷ rest) rest

-- "<"|"<="|">"|">="|"=="|"!="
pub data IsTest : Test → Sign → Type 0 where
  less : IsTest test.Less sign.Less
  less_equal : IsTest test.LessEqual sign.LessEqual
  greater : IsTest test.Greater sign.Greater
  greater_equal : IsTest test.GreaterEqual sign.GreaterEqual
  equal : IsTest test.Equal sign.EqualEqual
  not_equal : IsTest test.NotEqual sign.NotEqual

-- cond NL, with cond = value ("<"|"<="|">"|">="|"=="|"!=") value
pub data IsCond (s : Scope) : Cond → List Word → List Word → Type 0 where
  cond : {a b : Value} {how : Test} {what : Sign} {l k : ℕ} {ws between rest : List Word}
      → IsValue s a ws (sign_at l what ∷ between) → IsTest how what → IsValue s b between (at k LineEnd ∷ rest) → IsCond s (record { left = a; test = how; right = b }) ws rest

-- name | block, as a target; a name alone is a scalar
pub data IsTarget (s : Scope) : Target → List Word → List Word → Type 0 where
  scalar : {name : List ℕ} {x l : ℕ} {rest : List Word} → IsScalar s name x → go_on_with_open rest ≡ false → IsTarget s (target.Scalar x) (at l (Name name) ∷ rest) rest
  block : {b : BlockRef} {ws rest : List Word} → IsBlock s b ws rest → IsTarget s (target.Block b) ws rest

-- "="|"+="|"-="|"*="
pub data IsOp : Op → Sign → Type 0 where
  set : IsOp op.Set sign.Equals
  add : IsOp op.Add sign.PlusEquals
  subtract : IsOp op.Subtract sign.MinusEquals
  scale : IsOp op.Scale sign.TimesEquals

-- "="|"+="|"max" "="
pub data IsAccess : Access → List Word → List Word → Type 0 where
  store : {l : ℕ} {rest : List Word} → IsAccess Store (sign_at l sign.Equals ∷ rest) rest
  add : {l : ℕ} {rest : List Word} → IsAccess Add (sign_at l sign.PlusEquals ∷ rest) rest
  greatest : {l k : ℕ} {rest : List Word} → IsAccess Max (at l (Name (codes "max")) ∷ sign_at k sign.Equals ∷ rest) rest

-- [name] NL, the name that of the opener
pub data IsNamedEnd (name : List ℕ) : List Word → List Word → Type 0 where
  bare : {l : ℕ} {rest : List Word} → IsNamedEnd name (at l LineEnd ∷ rest) rest
  named : {l k : ℕ} {rest : List Word} → IsNamedEnd name (at l (Name name) ∷ at k LineEnd ∷ rest) rest

-- [names] NL, the names those of the opener's indices
pub data IsListedEnd (s : Scope) (is : List ℕ) : List Word → List Word → Type 0 where
  bare : {l : ℕ} {rest : List Word} → IsListedEnd s is (at l LineEnd ∷ rest) rest
  listed : {ws rest : List Word} → AreIndices s LineEnd is ws rest → IsListedEnd s is ws rest

-- whether a symbol ends a body: an end word or `else`
abbrev pub ends_body : Symbol → Bool
ends_body (Key key.EndSial) = true
ends_body (Key key.EndProc) = true
ends_body (Key key.EndDo) = true
ends_body (Key key.EndPardo) = true
ends_body (Key key.EndIf) = true
ends_body (Key key.Else) = true
ends_body _ = false

-- whether a symbol is `where`
abbrev pub is_where : Symbol → Bool
is_where (Key key.Where) = true
is_where _ = false

-- {"where" cond NL}, as many as there are
pub data AreWheres (s : Scope) : List Cond → List Word → List Word → Type 0 where
  none : {w : Word} {ws : List Word} → is_where w.symbol ≡ false → AreWheres s [] (w ∷ ws) (w ∷ ws)
  more : {c : Cond} {cs : List Cond} {l : ℕ} {ws between rest : List Word} → IsCond s c ws between → AreWheres s cs between rest → AreWheres s (c ∷ cs) (at l (Key key.Where) ∷ ws) rest

mutual
  -- stmt, from its first word to the end of its last line
  pub data IsStatement (s : Scope) : Plain → List Word → List Word → Type 0 where
    -- "do" name NL {stmt} "enddo" [name] NL
    do_ : {name : List ℕ} {i l k m j : ℕ} {body : Block} {ws ends rest : List Word} → IsIndex s name i → IsBody s body ws (at j (Key key.EndDo) ∷ ends) → IsNamedEnd name ends rest
        → IsStatement s (Do i body) (at l (Key key.Do) ∷ at k (Name name) ∷ at m LineEnd ∷ ws) rest
    -- "do" name "in" name NL {stmt} "enddo" [name] NL
    do_in : {sub name : List ℕ} {ii i l k m h n j : ℕ} {body : Block} {ws ends rest : List Word} → IsIndex s sub ii → IsIndex s name i → IsBody s body ws (at j (Key key.EndDo) ∷ ends) → IsNamedEnd sub ends rest
        → IsStatement s (DoIn ii i body) (at l (Key key.Do) ∷ at k (Name sub) ∷ at m (Key key.In) ∷ at h (Name name) ∷ at n LineEnd ∷ ws) rest
    -- "pardo" names NL {"where" cond NL} {stmt} "endpardo" [names] NL
    pardo : {is : List ℕ} {conds : List Cond} {l j : ℕ} {body : Block} {ws wheres first ends rest : List Word}
        → AreIndices s LineEnd is ws wheres → length is ≤ most_pardo → AreWheres s conds wheres first → IsBody s body first (at j (Key key.EndPardo) ∷ ends) → IsListedEnd s is ends rest
        → IsStatement s (Pardo is conds body) (at l (Key key.Pardo) ∷ ws) rest
    -- "if" cond NL {stmt} "endif" NL
    if_ : {c : Cond} {l j h : ℕ} {body : Block} {ws first rest : List Word} → IsCond s c ws first → IsBody s body first (at j (Key key.EndIf) ∷ at h LineEnd ∷ rest)
        → IsStatement s (If c body) (at l (Key key.If) ∷ ws) rest
    -- "if" cond NL {stmt} "else" NL {stmt} "endif" NL
    if_else : {c : Cond} {l j h m n : ℕ} {body other : Block} {ws first second rest : List Word} → IsCond s c ws first → IsBody s body first (at j (Key key.Else) ∷ at h LineEnd ∷ second)
        → IsBody s other second (at m (Key key.EndIf) ∷ at n LineEnd ∷ rest) → IsStatement s (IfElse c body other) (at l (Key key.If) ∷ ws) rest
    -- "call" name NL
    call : {name : List ℕ} {p l k m : ℕ} {rest : List Word} → IsProc s name p → IsStatement s (Call p) (at l (Key key.Call) ∷ at k (Name name) ∷ at m LineEnd ∷ rest) rest
    -- (name | block) ("="|"+="|"-="|"*=") right NL
    assign : {t : Target} {how : Op} {what : Sign} {r : Right} {l : ℕ} {ws between rest : List Word} → IsTarget s t ws (sign_at l what ∷ between) → IsOp how what → IsRight s r between rest
        → IsStatement s (Assign t how r) ws rest
    -- "get" block NL
    get : {b : BlockRef} {l k : ℕ} {ws rest : List Word} → IsBlock s b ws (at k LineEnd ∷ rest) → IsStatement s (Get b) (at l (Key key.Get) ∷ ws) rest
    -- "request" block NL
    request : {b : BlockRef} {l k : ℕ} {ws rest : List Word} → IsBlock s b ws (at k LineEnd ∷ rest) → IsStatement s (Request b) (at l (Key key.Request) ∷ ws) rest
    -- "request" block name NL
    request_along : {b : BlockRef} {name : List ℕ} {i l k m : ℕ} {ws rest : List Word} → IsBlock s b ws (at k (Name name) ∷ at m LineEnd ∷ rest) → IsIndex s name i → IsStatement s (Request b) (at l (Key key.Request) ∷ ws) rest
    -- "put" block ("="|"+="|"max" "=") block NL
    put : {b from : BlockRef} {how : Access} {l k : ℕ} {ws between source rest : List Word} → IsBlock s b ws between → IsAccess how between source → IsBlock s from source (at k LineEnd ∷ rest)
        → IsStatement s (Put b how from) (at l (Key key.Put) ∷ ws) rest
    -- "prepare" block ("="|"+="|"max" "=") block NL
    prepare : {b from : BlockRef} {how : Access} {l k : ℕ} {ws between source rest : List Word} → IsBlock s b ws between → IsAccess how between source → IsBlock s from source (at k LineEnd ∷ rest)
        → IsStatement s (Prepare b how from) (at l (Key key.Prepare) ∷ ws) rest
    -- ("create"|"delete") name NL
    create : {name : List ℕ} {a l k m : ℕ} {rest : List Word} → IsArray s name a → IsStatement s (Create a) (at l (Key key.Create) ∷ at k (Name name) ∷ at m LineEnd ∷ rest) rest
    delete : {name : List ℕ} {a l k m : ℕ} {rest : List Word} → IsArray s name a → IsStatement s (Delete a) (at l (Key key.Delete) ∷ at k (Name name) ∷ at m LineEnd ∷ rest) rest
    -- ("allocate"|"deallocate") name "(" slot {"," slot} ")" NL
    allocate : {name : List ℕ} {slots : List Slot} {a l k m h : ℕ} {ws rest : List Word} → IsArray s name a → AreSlots s slots ws (at h LineEnd ∷ rest) → length slots ≤ most_rank
        → IsStatement s (Allocate a slots) (at l (Key key.Allocate) ∷ at k (Name name) ∷ sign_at m sign.Open ∷ ws) rest
    deallocate : {name : List ℕ} {slots : List Slot} {a l k m h : ℕ} {ws rest : List Word} → IsArray s name a → AreSlots s slots ws (at h LineEnd ∷ rest) → length slots ≤ most_rank
        → IsStatement s (Deallocate a slots) (at l (Key key.Deallocate) ∷ at k (Name name) ∷ sign_at m sign.Open ∷ ws) rest
    -- "collective" name "+=" name NL
    collective : {into from : List ℕ} {x y l k m h j : ℕ} {rest : List Word} → IsScalar s into x → IsScalar s from y
        → IsStatement s (Collective x y) (at l (Key key.Collective) ∷ at k (Name into) ∷ sign_at m sign.PlusEquals ∷ at h (Name from) ∷ at j LineEnd ∷ rest) rest
    -- "sip_barrier" NL | "server_barrier" NL
    sip_barrier : {l k : ℕ} {rest : List Word} → IsStatement s SipBarrier (at l (Key key.SipBarrier) ∷ at k LineEnd ∷ rest) rest
    server_barrier : {l k : ℕ} {rest : List Word} → IsStatement s ServerBarrier (at l (Key key.ServerBarrier) ∷ at k LineEnd ∷ rest) rest
    -- "print" text NL
    print : {text : List ℕ} {l k m : ℕ} {rest : List Word} → IsStatement s (Print text) (at l (Key key.Print) ∷ at k (Quoted text) ∷ at m LineEnd ∷ rest) rest
    -- "execute" "print_scalar" name NL
    print_scalar : {name : List ℕ} {x l k m h : ℕ} {rest : List Word} → IsScalar s name x → IsStatement s (PrintScalar x) (at l (Key key.Execute) ∷ at k (Key key.PrintScalar) ∷ at m (Name name) ∷ at h LineEnd ∷ rest) rest
    -- "execute" "compute_integrals" block NL
    integrals : {b : BlockRef} {l k h : ℕ} {ws rest : List Word} → IsBlock s b ws (at h LineEnd ∷ rest) → IsStatement s (Integrals b) (at l (Key key.Execute) ∷ at k (Key key.ComputeIntegrals) ∷ ws) rest

  -- {stmt}, up to an end word; a statement's line is that of its first word
  pub data IsBody (s : Scope) : Block → List Word → List Word → Type 0 where
    none : {w : Word} {ws : List Word} → ends_body w.symbol ≡ true → IsBody s Ended (w ∷ ws) (w ∷ ws)
    more : {form : Plain} {others : Block} {w : Word} {ws between rest : List Word} → IsStatement s form (w ∷ ws) between → IsBody s others between rest → IsBody s (Then w.line form others) (w ∷ ws) rest

-- decl NL, which adds to what is declared
pub data Declares (d : Declared) : Declared → List Word → List Word → Type 0 where
  -- ("aoindex"|"moindex"|"moaindex"|"mobindex"|"index") name "=" bound "," bound
  segments : {of : Kind} {what : Keyword} {name : List ℕ} {lo hi : Bound} {first last : Symbol} {l k m h j n i : ℕ} {rest : List Word} → IsKind of what → IsFree d.scope name → IsBound lo first → IsBound hi last
      → Declares d (with_index d (record { name = name; line = l; range = range.Segments of lo hi }))
      (at l (Key what) ∷ at k (Name name) ∷ sign_at m sign.Equals ∷ at h first ∷ sign_at j sign.Comma ∷ at n last ∷ at i LineEnd ∷ rest) rest
  -- "subindex" name "of" name
  subindex : {name super : List ℕ} {i l k m h j : ℕ} {rest : List Word} → IsFree d.scope name → IsIndex d.scope super i
      → Declares d (with_index d (record { name = name; line = l; range = range.Sub i })) (at l (Key key.SubIndex) ∷ at k (Name name) ∷ at m (Key key.Of) ∷ at h (Name super) ∷ at j LineEnd ∷ rest) rest
  -- "scalar" name
  scalar : {name : List ℕ} {l k m : ℕ} {rest : List Word} → IsFree d.scope name → Declares d (with_scalar d name) (at l (Key key.Scalar) ∷ at k (Name name) ∷ at m LineEnd ∷ rest) rest
  -- ("static"|"temp"|"local"|"distributed"|"served") name "(" names ")"
  array : {of : ArrayKind} {what : Keyword} {name : List ℕ} {is : List ℕ} {l k m : ℕ} {ws rest : List Word} → IsArrayKind of what → IsFree d.scope name → AreDims d.scope is ws (at m LineEnd ∷ rest)
      → Declares d (with_array d (record { name = name; line = l; kind = of; dims = is })) (at l (Key what) ∷ at k (Name name) ∷ ws) rest

-- whether a symbol begins a procedure
abbrev pub begins_proc : Symbol → Bool
begins_proc (Key key.Proc) = true
begins_proc _ = false

-- whether a symbol begins a declaration
abbrev pub begins_declaration : Symbol → Bool
begins_declaration (Key key.AoIndex) = true
begins_declaration (Key key.MoIndex) = true
begins_declaration (Key key.MoaIndex) = true
begins_declaration (Key key.MobIndex) = true
begins_declaration (Key key.Index) = true
begins_declaration (Key key.SubIndex) = true
begins_declaration (Key key.Scalar) = true
begins_declaration (Key key.Static) = true
begins_declaration (Key key.Temp) = true
begins_declaration (Key key.Local) = true
begins_declaration (Key key.Distributed) = true
begins_declaration (Key key.Served) = true
begins_declaration _ = false

-- {decl NL}, as many as there are
pub data AreDeclarations : Declared → Declared → List Word → List Word → Type 0 where
  none : {d : Declared} {w : Word} {ws : List Word} → begins_declaration w.symbol ≡ false → AreDeclarations d d (w ∷ ws) (w ∷ ws)
  more : {d e f : Declared} {ws between rest : List Word} → Declares d e ws between → AreDeclarations e f between rest → AreDeclarations d f ws rest

-- names of procedures, numbered from a number on
abbrev pub numbered : (number : ℕ) → List (List ℕ) → Scope
numbered n [] = []
numbered n (x ∷ xs) = record { name = x; thing = Proc n } ∷ numbered (n + 1) xs

-- the names of procedures
abbrev pub names_of : List Procedure → List (List ℕ)
names_of procs = map (λ (p : Procedure). p.name) procs

-- {proc}, as many as there are, with proc = "proc" name NL {stmt} "endproc" [name] NL; a name is none of the names before it
pub data AreProcs (s : Scope) : (before : Scope) → (number : ℕ) → List Procedure → List Word → List Word → Type 0 where
  none : {before : Scope} {n : ℕ} {w : Word} {ws : List Word} → begins_proc w.symbol ≡ false → AreProcs s before n [] (w ∷ ws) (w ∷ ws)
  more : {before : Scope} {n : ℕ} {name : List ℕ} {body : Block} {others : List Procedure} {l k m j : ℕ} {ws ends between rest : List Word}
      → IsFree before name → IsBody s body ws (at j (Key key.EndProc) ∷ ends) → IsNamedEnd name ends between
      → AreProcs s (before ++ record { name = name; thing = Proc n } ∷ []) (n + 1) others between rest
      → AreProcs s before n (record { name = name; body = body } ∷ others) (at l (Key key.Proc) ∷ at k (Name name) ∷ at m LineEnd ∷ ws) rest

-- the limits of a program
pub record IsWithin (p : Tree) : Type 0 where
  pub indices : length p.indices ≤ most_names
  pub arrays : length p.arrays ≤ most_names
  pub scalars : length p.scalars ≤ most_names
  pub procedures : length p.procedures ≤ most_names
  pub statements : all_statements p ≤ most_statements
  pub nesting : body_nesting p.body ≤ most_nesting
  pub nestings : AllByRecursion (λ (q : Procedure). body_nesting q.body ≤ most_nesting) p.procedures

-- the tree of declarations, procedures and a body
abbrev pub tree_of : (name : List ℕ) → Declared → List Procedure → Block → Tree
tree_of name d procs body = record { name = name; indices = d.indices; arrays = d.arrays; scalars = d.scalars; procedures = procs; body = body }

-- program = "sial" name NL {decl NL} {proc} {stmt} "endsial" [name] NL, and then the end of the text
pub data IsProgram : Tree → List Word → Type 0 where
  program : {name : List ℕ} {d : Declared} {procs : List Procedure} {body : Block} {l k m j h : ℕ} {ws first second ends : List Word}
      → AreDeclarations nothing d ws first
      → AreProcs (d.scope ++ numbered 0 (names_of procs)) d.scope 0 procs first second
      → IsBody (d.scope ++ numbered 0 (names_of procs)) body second (at j (Key key.EndSial) ∷ ends)
      → IsNamedEnd name ends (at h End ∷ [])
      → IsWithin (tree_of name d procs body)
      → IsProgram (tree_of name d procs body) (at l (Key key.Sial) ∷ at k (Name name) ∷ at m LineEnd ∷ ws)
