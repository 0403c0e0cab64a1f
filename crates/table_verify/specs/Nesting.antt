-- How code nests, read instruction by instruction.
use Rattle.std.specs.Prelude.{ℕ, zero, suc, ◌+◌, List, [], ◌∷◌, Bool, true, false, ◌==◌, ◌&&◌, ◌||◌, not, nat_lt, if◌then◌else◌, Option, Some, None, length}
use Rattle.sial_syntax.specs.Limits.{most_nesting}
use Rattle.table_verify.specs.declared.opener.Opener.{Opener}
use Rattle.table_verify.specs.declared.opener.Opens.{Opens}
use Rattle.table_verify.specs.declared.opener.Opens.TheVariants as opens
use Rattle.table_verify.specs.Outline.{Role, Alone, Loop, Pardo, Branch, Test, Other, EndLoop, EndPardo, EndBranch, EndProgram, EndProcedure, Mark}

-- what is open, innermost first; whether conditions may follow; whether the program's stop is still to come, and how many returns
pub record Nest : Type 0 where
  pub stack : List Opener
  pub heading : Bool
  pub stop : Bool
  pub returns : ℕ

-- no instruction has been read yet
abbrev pub start : (procedures : ℕ) → Nest
start procedures = record { stack = []; heading = false; stop = true; returns = procedures }

-- whether a body is still to be ended
abbrev pub is_alive : Nest → Bool
is_alive s = s.stop || nat_lt 0 s.returns

-- whether nothing is open
abbrev pub is_closed : List Opener → Bool
is_closed [] = true
is_closed (o ∷ stack) = false

-- whether all is ended
abbrev pub is_over : Nest → Bool
is_over s = is_closed s.stack && not (is_alive s)

-- a state, where a test holds
abbrev pub where_so : Bool → Nest → Option Nest
where_so true s = Some s
where_so false s = None

-- conditions may no longer follow
abbrev pub calm : Nest → Nest
calm s = record s { heading = false }

-- whether an opener is of a loop, a pardo or an `if`
abbrev pub is_loop : Opens → Bool
is_loop opens.Loop = true
is_loop _ = false

abbrev pub is_pardo : Opens → Bool
is_pardo opens.Pardo = true
is_pardo _ = false

abbrev pub is_first : Opens → Bool
is_first opens.First = true
is_first _ = false

abbrev pub is_branch : Opens → Bool
is_branch opens.First = true
is_branch opens.Second = true
is_branch _ = false

-- a statement that is open from here on
abbrev pub opened : Opens → (line : ℕ) → Nest → Option Nest
opened opens line s =
    where_so (is_alive s && nat_lt (length s.stack) most_nesting)
    (record s { stack = record { opens = opens; line = line } ∷ s.stack; heading = is_pardo opens })

-- the innermost statement is closed, if it is of the right kind and on this line
abbrev pub closed_in : (Opens → Bool) → (line : ℕ) → Nest → List Opener → Option Nest
closed_in test line s [] = None
closed_in test line s (o ∷ stack) = where_so (test o.opens && (o.line == line)) (record s { stack = stack; heading = false })

abbrev pub closed : (Opens → Bool) → (line : ℕ) → Nest → Option Nest
closed test line s = closed_in test line s s.stack

-- the other branch begins
abbrev pub turned_in : (line : ℕ) → Nest → List Opener → Option Nest
turned_in line s [] = None
turned_in line s (o ∷ stack) =
    where_so (is_first o.opens && (o.line == line)) (record s { stack = record { opens = opens.Second; line = line } ∷ stack; heading = false })

-- a condition of the innermost pardo
abbrev pub tested_in : (line : ℕ) → Nest → List Opener → Option Nest
tested_in line s [] = None
tested_in line s (o ∷ stack) = where_so (s.heading && (is_pardo o.opens && (o.line == line))) s

-- the program ends
abbrev pub stopped : (line : ℕ) → Nest → Option Nest
stopped line s = where_so (is_closed s.stack && (s.stop && (line == 0))) (record s { heading = false; stop = false })

-- a procedure ends
abbrev pub returned_of : (line : ℕ) → Nest → (returns : ℕ) → Option Nest
returned_of line s zero = None
returned_of line s (suc n) = where_so (is_closed s.stack && (not s.stop && (line == 0))) (record s { heading = false; returns = n })

-- what an instruction of this role and line makes of it, if it may stand there
abbrev pub step_of : Role → (line : ℕ) → Nest → Option Nest
step_of Alone line s = where_so (is_alive s) (calm s)
step_of Loop line s = opened opens.Loop line s
step_of Pardo line s = opened opens.Pardo line s
step_of Branch line s = opened opens.First line s
step_of Test line s = tested_in line s s.stack
step_of Other line s = turned_in line s s.stack
step_of EndLoop line s = closed is_loop line s
step_of EndPardo line s = closed is_pardo line s
step_of EndBranch line s = closed is_branch line s
step_of EndProgram line s = stopped line s
step_of EndProcedure line s = returned_of line s s.returns

abbrev pub step : Mark → Nest → Option Nest
step m s = step_of m.role m.line s

-- what follows a step
abbrev pub then_go : Option Nest → (Nest → Option Nest) → Option Nest
then_go None go = None
then_go (Some s) go = go s

-- what all of these make of it
abbrev pub run : List Mark → Nest → Option Nest
run [] s = Some s
run (m ∷ ms) s = then_go (step m s) (run ms)

-- the number of the first instruction that may not stand there, or of all of them where not all is ended
abbrev pub broken_on : (at : ℕ) → Option Nest → (Nest → Option ℕ) → Option ℕ
broken_on at None go = Some at
broken_on at (Some s) go = go s

abbrev pub broken_at : (at : ℕ) → List Mark → Nest → Option ℕ
broken_at at [] s = if is_over s then None else Some at
broken_at at (m ∷ ms) s = broken_on at (step m s) (broken_at (at + 1) ms)
