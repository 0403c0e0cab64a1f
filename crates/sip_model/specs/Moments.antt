-- Which distributed arrays may be present at once: the sets of arrays along the outer program.
use Rattle.std.specs.Prelude.{ℕ, List, [], ◌∷◌, ◌++◌, map, length, replicate, zip, Bool, true, false, ◌==◌, ◌&&◌, ◌||◌, slice_set}
use Rattle.std.specs.List.{list_any}
use Rattle.sial_syntax.specs.Boxes.{numbers_from}
use Rattle.sial_syntax.specs.SideRules.{reaches}
use Rattle.sial_syntax.specs.Tree.{Block, End, Then, Plain, Do, DoIn, If, IfElse, Call, Create, Delete}
use Rattle.sial_syntax.specs.Visits.{Visit, body_visits}
use Rattle.sial_meaning.specs.Setting.{Setting, procedure_body}

-- a set of arrays: a flag for each array
abbrev pub ArraySet : Type 0
ArraySet = List Bool

-- no array
abbrev pub no_arrays : Setting → ArraySet
no_arrays g = replicate (length g.program.arrays) false

-- the arrays of one set or the other
abbrev pub union : ArraySet → ArraySet → ArraySet
union a b = map (λ (p : Bool × Bool). p.0 || p.1) (zip a b)

-- whether a statement creates this array
abbrev pub is_create : (array : ℕ) → Plain → Bool
is_create array (Create other) = other == array
is_create array form = false

-- whether a procedure's own statements create an array
abbrev pub body_creates : Setting → (array procedure : ℕ) → Bool
body_creates g array procedure = list_any (λ (v : Visit). is_create array v.form) (body_visits (procedure_body g procedure))

-- whether a procedure, or one that it reaches by calls, creates an array
abbrev pub call_creates : Setting → (procedure array : ℕ) → Bool
call_creates g procedure array =
    list_any
    (λ q. reaches g.program (length g.program.procedures) procedure q && body_creates g array q)
    (numbers_from 0 (length g.program.procedures))

-- the arrays that a call may create
abbrev pub created_by_call : Setting → (procedure : ℕ) → ArraySet
created_by_call g procedure = map (call_creates g procedure) (numbers_from 0 (length g.program.arrays))

abbrev mutual
  -- the arrays that may be present behind statements, from those before
  pub after : Setting → Block → ArraySet → ArraySet
  after g End set = set
  after g (Then line form rest) set = after g rest (after_form g form set)

  -- the arrays that may be present behind a statement; a loop may be run or not, and a deletion inside a procedure isn't counted
  pub after_form : Setting → Plain → ArraySet → ArraySet
  after_form g (Create array) set = slice_set set array true
  after_form g (Delete array) set = slice_set set array false
  after_form g (Do index body) set = union set (after g body (no_arrays g))
  after_form g (DoIn sub index body) set = union set (after g body (no_arrays g))
  after_form g (If test body) set = union (after g body set) set
  after_form g (IfElse test body other) set = union (after g body set) (after g other set)
  after_form g (Call procedure) set = union set (created_by_call g procedure)
  after_form g form set = set

abbrev mutual
  -- the sets met before and behind statements, and inside them, from the set before
  pub moments_of : Setting → Block → ArraySet → List ArraySet
  moments_of g End set = set ∷ []
  moments_of g (Then line form rest) set = set ∷ (moments_in g form set ++ moments_of g rest (after_form g form set))

  -- the sets met inside a statement; a loop's body is gone through from the arrays before it and those that its turns leave
  pub moments_in : Setting → Plain → ArraySet → List ArraySet
  moments_in g (Do index body) set = moments_of g body (union set (after g body (no_arrays g)))
  moments_in g (DoIn sub index body) set = moments_of g body (union set (after g body (no_arrays g)))
  moments_in g (If test body) set = moments_of g body set
  moments_in g (IfElse test body other) set = moments_of g body set ++ moments_of g other set
  moments_in g form set = []

-- the moments of a program: the empty set at the beginning, and each set that is met
abbrev pub moments : Setting → List ArraySet
moments g = moments_of g g.program.body (no_arrays g)
