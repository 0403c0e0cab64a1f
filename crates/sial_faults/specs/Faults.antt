-- The first fault of a text's words: word by word, what is wrong with it.
use Rattle.std.specs.Prelude.{ℕ, zero, suc, ◌+◌, List, [], ◌∷◌, ◌++◌, Bool, true, false, if◌then◌else◌, nat_lt, Option, Some, None, Result, Ok, Err}
use Rattle.std.specs.Str.{bytes_eq}
use Rattle.sial_syntax.specs.Limits.{most_names, most_nesting, most_statements}
use Rattle.sial_parser.specs.Grammar.{ends_body, is_where, begins_proc, begins_declaration, go_on_with_open}
use Rattle.sial_parser.specs.Parsing.{is_some, is_next, is_index, ends_operand, ends_target, begins_compound}
use Rattle.sial_parser.specs.Scope.{Scope, thing_of}
use Rattle.sial_parser.specs.declared.fault.Counted.{Counted}
use Rattle.sial_parser.specs.declared.fault.Counted.TheVariants as counts
use Rattle.sial_parser.specs.declared.fault.ParseFault.{ParseFault}
use Rattle.sial_parser.specs.declared.fault.ParseFault.TheVariants.{Expected, Undeclared, Twice, EndName, TooMany, TooDeep}
use Rattle.sial_parser.specs.declared.keyword.Keyword.TheVariants as key
use Rattle.sial_parser.specs.declared.thing.Thing.{Thing}
use Rattle.sial_parser.specs.declared.thing.Thing.TheVariants.{Index, Array, Scalar, Proc}
use Rattle.sial_parser.specs.declared.word.Symbol.{Symbol}
use Rattle.sial_parser.specs.declared.word.Symbol.TheVariants.{Key, Name, LineEnd}
use Rattle.sial_parser.specs.declared.word.Word.{Word}
use Rattle.sial_faults.specs.Forms.{less, after, program}
use Rattle.sial_faults.specs.Parts.{Asked, an_index, an_array, a_scalar, a_scalar_or_array, an_index_or_scalar, Named, a_range, a_subindex, a_new_scalar, a_new_array, a_procedure, Part}
use Rattle.sial_faults.specs.Parts as part

-- what the words so far declare: names, how many there are of each kind, and how many statements may still come
pub record Past : Type 0 where
  pub scope : Scope
  pub indices : ℕ
  pub arrays : ℕ
  pub scalars : ℕ
  pub procs : ℕ
  pub left : ℕ

-- before the first word
abbrev pub at_start : Past
at_start = record { scope = []; indices = 0; arrays = 0; scalars = 0; procs = 0; left = most_statements }

-- with a new name, which has the next number of its kind
abbrev pub entered : Named → (name : List ℕ) → Past → Past
entered a_range x past =
    record past { scope = past.scope ++ record { name = x; thing = Index past.indices } ∷ []; indices = past.indices + 1 }
entered a_subindex x past =
    record past { scope = past.scope ++ record { name = x; thing = Index past.indices } ∷ []; indices = past.indices + 1 }
entered a_new_scalar x past =
    record past { scope = past.scope ++ record { name = x; thing = Scalar past.scalars } ∷ []; scalars = past.scalars + 1 }
entered a_new_array x past =
    record past { scope = past.scope ++ record { name = x; thing = Array past.arrays } ∷ []; arrays = past.arrays + 1 }
entered a_procedure x past = record past { scope = past.scope ++ record { name = x; thing = Proc past.procs } ∷ []; procs = past.procs + 1 }

-- how many there are of what a name names, and how a fault calls them
abbrev pub count_of : Named → Past → ℕ
count_of a_range past = past.indices
count_of a_subindex past = past.indices
count_of a_new_scalar past = past.scalars
count_of a_new_array past = past.arrays
count_of a_procedure past = past.procs

abbrev pub counted_as : Named → Counted
counted_as a_range = counts.Indices
counted_as a_subindex = counts.Indices
counted_as a_new_scalar = counts.Scalars
counted_as a_new_array = counts.Arrays
counted_as a_procedure = counts.Procs

-- whether a name that is declared so fits what is asked
abbrev pub fits : Asked → Option Thing → Bool
fits an_index (Some (Index i)) = true
fits an_array (Some (Array a)) = true
fits a_scalar (Some (Scalar x)) = true
fits a_scalar_or_array (Some (Scalar x)) = true
fits a_scalar_or_array (Some (Array a)) = true
fits an_index_or_scalar (Some (Index i)) = true
fits an_index_or_scalar (Some (Scalar x)) = true
fits a thing = false

-- what a name that begins an operand or a target has to be, by what may stand behind a scalar there: before a list an array, before such a word a scalar, else one of them
abbrev pub asked_before : (Symbol → Bool) → (behind : List Word) → Asked
asked_before test behind = if go_on_with_open behind then an_array else (if is_next test behind then a_scalar else a_scalar_or_array)

-- whether two names are declared as one index
abbrev pub same_index : Option Thing → Option Thing → Bool
same_index (Some (Index i)) thing = is_index i thing
same_index other thing = false

-- whether a name is the opener's next one
abbrev pub is_listed : Scope → (opener : List (List ℕ)) → (name : List ℕ) → Bool
is_listed s [] y = false
is_listed s (x ∷ xs) y = same_index (thing_of s x) (thing_of s y)

abbrev pub are_over : List (List ℕ) → Bool
are_over [] = true
are_over (x ∷ xs) = false

-- a fault, where a test doesn't hold, else another
abbrev pub unless : Bool → ParseFault → Option ParseFault → Option ParseFault
unless true fault next = next
unless false fault next = Some fault

abbrev pub where_too_many : ℕ → ParseFault → Option ParseFault → Option ParseFault
where_too_many zero fault next = Some fault
where_too_many (suc n) fault next = next

-- faults other than Expected of a word that may stand at its part, the one of the lowest number: of the first word of a statement
abbrev pub statement_fault : Past → (inner line : ℕ) → Symbol → (behind : List Word) → Option ParseFault
statement_fault past inner line (Name x) behind =
    unless (fits (asked_before ends_target behind) (thing_of past.scope x)) (Undeclared line) (where_too_many past.left (TooMany line counts.Statements) None)
statement_fault past inner line what behind =
    where_too_many past.left (TooMany line counts.Statements) (if begins_compound what then where_too_many inner (TooDeep line) None else None)

abbrev pub body_fault : Past → (inner line : ℕ) → Symbol → (behind : List Word) → Option ParseFault
body_fault past inner line what behind = if ends_body what then None else statement_fault past inner line what behind

abbrev pub procedures_fault : Past → (line : ℕ) → Symbol → (behind : List Word) → Option ParseFault
procedures_fault past line what behind = if begins_proc what then None else body_fault past most_nesting line what behind

-- of any word; callable tells which names a `call` may name
abbrev pub fault_at : (callable : (name : List ℕ) → Bool) → Past → Part → (line : ℕ) → Symbol → (behind : List Word) → Option ParseFault
-- a new name
fault_at callable past (part.new named) line (Name x) behind =
    if is_some (thing_of past.scope x) then Some (Twice line) else unless (nat_lt (count_of named past) most_names) (TooMany line (counted_as named)) None
-- a name that has to be declared
fault_at callable past (part.asked a) line (Name x) behind = unless (fits a (thing_of past.scope x)) (Undeclared line) None
fault_at callable past (part.loop inner) line (Name x) behind = unless (fits an_index (thing_of past.scope x)) (Undeclared line) None
fault_at callable past part.index_or_end line (Name x) behind = unless (fits an_index (thing_of past.scope x)) (Undeclared line) None
fault_at callable past part.value line (Name x) behind = unless (fits an_index_or_scalar (thing_of past.scope x)) (Undeclared line) None
fault_at callable past part.right line (Name x) behind =
    unless (fits (asked_before ends_operand behind) (thing_of past.scope x)) (Undeclared line) None
fault_at callable past part.operand line (Name x) behind =
    unless (fits (asked_before ends_operand behind) (thing_of past.scope x)) (Undeclared line) None
fault_at callable past part.called line (Name x) behind = unless (callable x) (Undeclared line) None
-- a name of a list
fault_at callable past (part.dim room) line (Name x) behind =
    unless (fits an_index (thing_of past.scope x)) (Undeclared line) (where_too_many room (TooMany line counts.Names) None)
fault_at callable past (part.along inner room names) line (Name x) behind =
    unless (fits an_index (thing_of past.scope x)) (Undeclared line) (where_too_many room (TooMany line counts.Names) None)
fault_at callable past (part.slot room) line (Name x) behind =
    unless (fits an_index (thing_of past.scope x)) (Undeclared line) (where_too_many room (TooMany line counts.Names) None)
fault_at callable past (part.slot room) line what behind = where_too_many room (TooMany line counts.Names) None
-- a name behind an end word
fault_at callable past (part.named_end x) line (Name y) behind = unless (bytes_eq y x) (EndName line) None
fault_at callable past (part.list_end xs) line (Name y) behind = unless (is_listed past.scope xs y) (EndName line) None
fault_at callable past (part.list_name xs) line (Name y) behind = unless (is_listed past.scope xs y) (EndName line) None
fault_at callable past (part.list_more xs) line LineEnd behind = unless (are_over xs) (EndName line) None
-- a statement
fault_at callable past (part.body e inner) line what behind = body_fault past inner line what behind
fault_at callable past (part.wheres inner) line what behind = if is_where what then None else body_fault past inner line what behind
fault_at callable past part.procedures line what behind = procedures_fault past line what behind
fault_at callable past part.declarations line what behind = if begins_declaration what then None else procedures_fault past line what behind
fault_at callable past _ line what behind = None

-- what the words declare with one more, which may stand at a part
abbrev pub past_body : Symbol → Past → Past
past_body what past = if ends_body what then past else record past { left = less past.left }

abbrev pub past_procedures : Symbol → Past → Past
past_procedures what past = if begins_proc what then past else past_body what past

abbrev pub past_after : Part → Symbol → Past → Past
past_after (part.enters named x) what past = entered named x past
past_after (part.new a_procedure) (Name x) past = entered a_procedure x past
past_after (part.body e inner) what past = past_body what past
past_after (part.wheres inner) what past = if is_where what then past else past_body what past
past_after part.procedures what past = past_procedures what past
past_after part.declarations what past = if begins_declaration what then past else past_procedures what past
past_after _ what past = past

-- behind the end of the text nothing stands
abbrev pub at_text_end : Part → (behind : List Word) → Option (List Part) → Option (List Part)
at_text_end part.text_end (w ∷ ws) more = None
at_text_end other ws more = more

-- what is told of a word, or of those behind it
abbrev pub told : (line : ℕ) → Option (List Part) → Option ParseFault → (List Part → Result Past ParseFault) → Result Past ParseFault
told line None fault go = Err (Expected line)
told line (Some more) (Some fault) go = Err fault
told line (Some more) None go = go more

-- words that stand for parts, gone through one by one: what they declare in the end, or their first fault
abbrev pub checked : (callable : (name : List ℕ) → Bool) → Past → List Part → List Word → Result Past ParseFault
checked callable past [] [] = Ok past
checked callable past (p ∷ ps) [] = Err (Expected 0)
checked callable past [] (w ∷ ws) = Err (Expected w.line)
checked callable past (p ∷ ps) (w ∷ ws) =
    told w.line (at_text_end p ws (after p w.symbol)) (fault_at callable past p w.line w.symbol ws) (λ more. checked callable (past_after p w.symbol past) (more ++ ps) ws)

-- the fault of an answer
abbrev pub fault_in : {A : Type 0} → Result A ParseFault → Option ParseFault
fault_in (Ok x) = None
fault_in (Err fault) = Some fault

-- the first fault of a program's words, where such names may be called
abbrev pub first_fault : (callable : (name : List ℕ) → Bool) → List Word → Option ParseFault
first_fault callable ws = fault_in (checked callable at_start program ws)

-- what words declare that stand for parts, as far as they may stand there
abbrev pub known_then : Past → Option (List Part) → (List Part → Past) → Past
known_then past None go = past
known_then past (Some more) go = go more

abbrev pub known_behind : Past → List Part → List Word → Past
known_behind past [] ws = past
known_behind past (p ∷ ps) [] = past
known_behind past (p ∷ ps) (w ∷ ws) = known_then past (after p w.symbol) (λ more. known_behind (past_after p w.symbol past) (more ++ ps) ws)

-- the names that words from the first on declare
abbrev pub declared_by : List Word → Scope
declared_by ws = (known_behind at_start program ws).scope

-- whether a name is declared as a procedure
abbrev pub is_procedure : Option Thing → Bool
is_procedure (Some (Proc p)) = true
is_procedure other = false

-- whether a program's words declare a name as a procedure
abbrev pub is_procedure_of : List Word → (name : List ℕ) → Bool
is_procedure_of ws x = is_procedure (thing_of (declared_by ws) x)

-- any name may be called
abbrev pub any_name : (name : List ℕ) → Bool
any_name x = true

-- an undeclared procedure comes after all other faults
abbrev pub or_else : Option ParseFault → Option ParseFault → Option ParseFault
or_else (Some fault) other = Some fault
or_else None other = other

-- a name behind `call` that isn't callable
abbrev pub uncallable : (callable : (name : List ℕ) → Bool) → Symbol → (line : ℕ) → Option ParseFault
uncallable callable (Name x) line = unless (callable x) (Undeclared line) None
uncallable callable _ line = None

-- the same of the first word
abbrev pub first_uncallable : (callable : (name : List ℕ) → Bool) → List Word → Option ParseFault
first_uncallable callable [] = None
first_uncallable callable (w ∷ ws) = uncallable callable w.symbol w.line

abbrev pub is_call : Symbol → Bool
is_call (Key key.Call) = true
is_call _ = false

-- the first name behind a `call` that isn't callable
abbrev pub first_uncalled : (callable : (name : List ℕ) → Bool) → List Word → Option ParseFault
first_uncalled callable [] = None
first_uncalled callable (w ∷ ws) = or_else (if is_call w.symbol then first_uncallable callable ws else None) (first_uncalled callable ws)

-- the fault of a program's words: the first one, and only where there is none the first `call` of what isn't a procedure of theirs
abbrev pub fault_of : List Word → Option ParseFault
fault_of ws = or_else (first_fault any_name ws) (first_uncalled (is_procedure_of ws) ws)
