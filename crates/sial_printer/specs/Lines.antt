-- A tree as lines of symbols, one statement a line, each declaration, `where`, `else` and end word on a line of its own.
use Rattle.std.specs.Prelude.{ℕ, List, [], ◌∷◌, ◌++◌, map, flat_map}
use Rattle.sial_syntax.specs.Tree.{Tree, Procedure, Block, End as Ended, Then, Plain, Do, DoIn, Pardo, If, IfElse, Call, Assign, Get, Request, Put, Prepare, Create, Delete, Allocate, Deallocate, Collective, SipBarrier, ServerBarrier, Print, PrintScalar, Integrals}
use Rattle.sial_syntax.specs.declared.array.ArrayDecl.{ArrayDecl}
use Rattle.sial_syntax.specs.declared.condition.Cond.{Cond}
use Rattle.sial_syntax.specs.declared.index.IndexDecl.{IndexDecl}
use Rattle.sial_syntax.specs.declared.index.Range.{Range}
use Rattle.sial_syntax.specs.declared.index.Range.TheVariants as range
use Rattle.sial_parser.specs.declared.keyword.Keyword.TheVariants as key
use Rattle.sial_parser.specs.declared.sign.Sign.TheVariants as sign
use Rattle.sial_parser.specs.declared.word.Symbol.{Symbol}
use Rattle.sial_parser.specs.declared.word.Symbol.TheVariants.{Key, Name, Number, Quoted}
use Rattle.sial_parser.specs.declared.word.Symbol.TheVariants as symbol
use Rattle.sial_printer.specs.Spelling.{text_of}
use Rattle.sial_printer.specs.Symbols.{index_name, array_name, scalar_name, procedure_name, bound_symbol, kind_key, array_key, names, dims, block, slots, target_symbols, right_symbols, cond_symbols, op_sign, access_symbols}

-- "where" cond
abbrev pub where_line : Tree → Cond → List Symbol
where_line p c = Key key.Where ∷ cond_symbols p c

abbrev mutual
  -- stmt; an end word has its opener's names behind it
  pub statement : Tree → Plain → List (List Symbol)
  statement p (Do i body) = (Key key.Do ∷ Name (index_name p i) ∷ []) ∷ (statements p body ++ (Key key.EndDo ∷ Name (index_name p i) ∷ []) ∷ [])
  statement p (DoIn ii i body) = (Key key.Do ∷ Name (index_name p ii) ∷ Key key.In ∷ Name (index_name p i) ∷ []) ∷ (statements p body ++ (Key key.EndDo ∷ Name (index_name p ii) ∷ []) ∷ [])
  statement p (Pardo is conds body) = (Key key.Pardo ∷ names p is []) ∷ (map (where_line p) conds ++ (statements p body ++ (Key key.EndPardo ∷ names p is []) ∷ []))
  statement p (If c body) = (Key key.If ∷ cond_symbols p c) ∷ (statements p body ++ (Key key.EndIf ∷ []) ∷ [])
  statement p (IfElse c body other) = (Key key.If ∷ cond_symbols p c) ∷ (statements p body ++ (Key key.Else ∷ []) ∷ (statements p other ++ (Key key.EndIf ∷ []) ∷ []))
  statement p (Call q) = (Key key.Call ∷ Name (procedure_name p q) ∷ []) ∷ []
  statement p (Assign t how r) = target_symbols p t (symbol.Sign (op_sign how) ∷ right_symbols p r) ∷ []
  statement p (Get b) = (Key key.Get ∷ block p b []) ∷ []
  statement p (Request b) = (Key key.Request ∷ block p b []) ∷ []
  statement p (Put b how from) = (Key key.Put ∷ block p b (access_symbols how (block p from []))) ∷ []
  statement p (Prepare b how from) = (Key key.Prepare ∷ block p b (access_symbols how (block p from []))) ∷ []
  statement p (Create a) = (Key key.Create ∷ Name (array_name p a) ∷ []) ∷ []
  statement p (Delete a) = (Key key.Delete ∷ Name (array_name p a) ∷ []) ∷ []
  statement p (Allocate a xs) = (Key key.Allocate ∷ Name (array_name p a) ∷ slots p xs []) ∷ []
  statement p (Deallocate a xs) = (Key key.Deallocate ∷ Name (array_name p a) ∷ slots p xs []) ∷ []
  statement p (Collective x y) = (Key key.Collective ∷ Name (scalar_name p x) ∷ symbol.Sign sign.PlusEquals ∷ Name (scalar_name p y) ∷ []) ∷ []
  statement p SipBarrier = (Key key.SipBarrier ∷ []) ∷ []
  statement p ServerBarrier = (Key key.ServerBarrier ∷ []) ∷ []
  statement p (Print text) = (Key key.Print ∷ Quoted text ∷ []) ∷ []
  statement p (PrintScalar x) = (Key key.Execute ∷ Key key.PrintScalar ∷ Name (scalar_name p x) ∷ []) ∷ []
  statement p (Integrals b) = (Key key.Execute ∷ Key key.ComputeIntegrals ∷ block p b []) ∷ []

  -- {stmt}
  pub statements : Tree → Block → List (List Symbol)
  statements p Ended = []
  statements p (Then line form rest) = statement p form ++ statements p rest

-- what stands behind the first body of an `if`
abbrev pub last_branch : Tree → Plain → List (List Symbol)
last_branch p (IfElse c body other) = (Key key.Else ∷ []) ∷ (statements p other ++ (Key key.EndIf ∷ []) ∷ [])
last_branch p _ = (Key key.EndIf ∷ []) ∷ []

-- a statement of one line
abbrev pub IsSimple : Plain → Type 0
IsSimple (Do i body) = ⊥
IsSimple (DoIn ii i body) = ⊥
IsSimple (Pardo is conds body) = ⊥
IsSimple (If c body) = ⊥
IsSimple (IfElse c body other) = ⊥
IsSimple _ = Unit {0}

-- an index's declaration
abbrev pub ranged : Tree → (name : List ℕ) → Range → List Symbol
ranged p name (range.Segments of lo hi) = Key (kind_key of) ∷ Name name ∷ symbol.Sign sign.Equals ∷ bound_symbol lo ∷ symbol.Sign sign.Comma ∷ bound_symbol hi ∷ []
ranged p name (range.Sub i) = Key key.SubIndex ∷ Name name ∷ Key key.Of ∷ Name (index_name p i) ∷ []

abbrev pub index_line : Tree → IndexDecl → List Symbol
index_line p x = ranged p x.name x.range

-- an array's declaration
abbrev pub array_line : Tree → ArrayDecl → List Symbol
array_line p x = Key (array_key x.kind) ∷ Name x.name ∷ dims p x.dims []

-- a scalar's declaration
abbrev pub scalar_line : (name : List ℕ) → List Symbol
scalar_line name = Key key.Scalar ∷ Name name ∷ []

-- proc
abbrev pub procedure_lines : Tree → Procedure → List (List Symbol)
procedure_lines p q = (Key key.Proc ∷ Name q.name ∷ []) ∷ (statements p q.body ++ (Key key.EndProc ∷ Name q.name ∷ []) ∷ [])

-- all declarations: indices, then arrays, then scalars
abbrev pub declarations : Tree → List (List Symbol)
declarations p = map (index_line p) p.indices ++ (map (array_line p) p.arrays ++ map scalar_line p.scalars)

-- program
abbrev pub program_lines : Tree → List (List Symbol)
program_lines p = (Key key.Sial ∷ Name p.name ∷ []) ∷ (declarations p ++ (flat_map (procedure_lines p) p.procedures ++ (statements p p.body ++ (Key key.EndSial ∷ Name p.name ∷ []) ∷ [])))

-- the text that is printed
abbrev pub printed : Tree → List ℕ
printed p = text_of (program_lines p)
