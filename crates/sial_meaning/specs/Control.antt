-- Control: how loops, branches, calls and pardos go on, by the rest of the work and what one worker holds alone.
use Rattle.std.specs.Prelude.{ℕ, zero, suc, ◌+◌, ◌-◌, List, length, Bool, true, false, nat_lt, Ok, Err}
use Rattle.sial_syntax.specs.declared.condition.Cond.{Cond}
use Rattle.sial_syntax.specs.Boxes.{volume, tuple_at}
use Rattle.sial_syntax.specs.Numbering.{sizes, entry_of}
use Rattle.sial_syntax.specs.Spaces.{first_of, count_of, box_of, pieces_of}
use Rattle.sial_syntax.specs.Tree.{Block, Plain, Do, DoIn, Pardo, If, IfElse, Call}
use Rattle.sial_meaning.specs.declared.trap.Trap.{Trap}
use Rattle.sial_meaning.specs.LocalStep.{Answer}
use Rattle.sial_meaning.specs.Meaning.{condition, all_met, taken_up, left, call_depth}
use Rattle.sial_meaning.specs.Own.{Own, value_of, bound, none_bound, with_values, unset}
use Rattle.sial_meaning.specs.Rest.{LoopAt, PardoAt, Rest, Over, Next, Turn, Join, Back, Within, push, depth}
use Rattle.sial_meaning.specs.Setting.{Setting, procedure_body}
use Rattle.sial_meaning.specs.Statement.{trap_at}

-- how deep procedures may still call
abbrev pub depth_left : Rest → ℕ
depth_left rest = call_depth - depth rest

-- where control goes: on to other work, with what the worker then holds, or to a trap
pub data Led : Type 0 where
  Goes : Rest → Own → Led
  Halts : Trap → Led

-- a loop entered: at its first number, or past it where it has none
abbrev pub entered : LoopAt → (first count : ℕ) → Rest → Own → Led
entered loop first zero rest own = Goes rest (bound loop.index 0 own)
entered loop first (suc n) rest own = Goes (push (loop.head + 1) loop.body (Turn loop (first + n) rest)) (bound loop.index first own)

-- the end of a loop's body: on to the next number, or past the loop
abbrev pub turned : (more : Bool) → LoopAt → (last : ℕ) → Rest → Own → Led
turned true loop last rest own = Goes (push (loop.head + 1) loop.body (Turn loop last rest)) (bound loop.index (value_of own loop.index + 1) own)
turned false loop last rest own = Goes rest (bound loop.index 0 own)

-- a branch by its condition
abbrev pub branched : (line : ℕ) → Answer Bool → (met unmet : Rest) → Own → Led
branched line (Ok true) met unmet own = Goes met own
branched line (Ok false) met unmet own = Goes unmet own
branched line (Err kind) met unmet own = Halts (trap_at line kind)

-- a procedure called, unless calls are as deep as they may be
abbrev pub called : Setting → (more : Bool) → (procedure : ℕ) → Rest → Own → Led
called g true procedure rest own =
    Goes
    (push (entry_of g.program procedure) (procedure_body g procedure) (Back (entry_of g.program procedure + sizes (procedure_body g procedure)) own.values rest))
    (none_bound own)
called g false procedure rest own = Goes rest own

-- a tuple of a pardo's box that was taken up: the body begins where the `where` lines hold
abbrev pub begun : (met : Bool) → PardoAt → (number : ℕ) → Rest → Own → Led
begun true pardo number rest own = Goes (push (pardo.head + 1 + length pardo.wheres) pardo.body (Within pardo (number + 1) rest)) own
begun false pardo number rest own = Goes (Within pardo (number + 1) rest) own

-- the tuple at a place of a pardo's box taken up
abbrev pub taken : Setting → PardoAt → (number : ℕ) → Rest → Own → Led
taken g pardo number rest own =
    let held = taken_up g pardo.indices (tuple_at (box_of g.spaces pardo.indices) number) own in
    begun (all_met held pardo.wheres) pardo number rest held

-- the end of a pardo's body: the next tuple, or past the pardo
abbrev pub went_within : Setting → (more : Bool) → PardoAt → (number : ℕ) → Rest → Own → Led
went_within g true pardo number rest own = taken g pardo number rest own
went_within g false pardo number rest own = Goes rest (left g pardo.indices own)

-- the loop that a statement at an instruction is
abbrev pub loop_at : (at index : ℕ) → Block → LoopAt
loop_at at index body = record { at = at + 1 + sizes body; head = at; index = index; body = body }

-- the pardo that a statement at an instruction is
abbrev pub pardo_at : (at : ℕ) → List ℕ → List Cond → Block → PardoAt
pardo_at at indices wheres body = record { at = at + 1 + length wheres + sizes body; head = at; indices = indices; wheres = wheres; body = body }

-- control at a statement; one that holds no other is passed
abbrev pub form_control : Setting → (at line : ℕ) → Plain → Rest → Own → Led
form_control g at line (Do index body) rest own = entered (loop_at at index body) (first_of g.spaces index) (count_of g.spaces index) rest own
form_control g at line (DoIn sub index body) rest own = entered (loop_at at sub body) 1 (pieces_of g.spaces sub (value_of own index)) rest own
form_control g at line (Pardo indices wheres body) rest own = Goes (Within (pardo_at at indices wheres body) 0 rest) (unset g own)
form_control g at line (If test body) rest own = branched line (condition own test) (push (at + 1) body (Join (at + 1 + sizes body) rest)) rest own
form_control g at line (IfElse test body other) rest own =
    branched
    line
    (condition own test)
    (push (at + 1) body (Join (at + 1 + sizes body) rest))
    (push (at + 2 + sizes body) other (Join (at + 2 + sizes body + sizes other) rest))
    own
form_control g at line (Call procedure) rest own = called g (nat_lt (depth rest) call_depth) procedure rest own
form_control g at line form rest own = Goes rest own

-- control at the first item of the rest of the work; the program's end is never left
abbrev pub control : Setting → Rest → Own → Led
control g (Over at) own = Goes (Over at) own
control g (Next at line form rest) own = form_control g at line form rest own
control g (Turn loop last rest) own = turned (nat_lt (value_of own loop.index) last) loop last rest own
control g (Join at rest) own = Goes rest own
control g (Back at values rest) own = Goes rest (with_values values own)
control g (Within pardo number rest) own = went_within g (nat_lt number (volume (box_of g.spaces pardo.indices))) pardo number rest own
