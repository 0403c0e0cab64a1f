-- The first fault of statements, looked for one statement after another.
use Rattle.std.specs.Prelude.{ℕ, List, [], ◌∷◌, ◌++◌, Bool, true, false, Option, Some, None}
use Rattle.sial_syntax.specs.declared.array.ArrayDecl.{ArrayDecl}
use Rattle.sial_syntax.specs.declared.index.IndexDecl.{IndexDecl}
use Rattle.sial_syntax.specs.Shapes.{Fault, earlier, index_breaks_kind, array_breaks_kind}
use Rattle.sial_syntax.specs.Tree.{Tree, Procedure, Block, End, Then, Plain, Do, DoIn, Pardo, If, IfElse}
use Rattle.shape_check.specs.declared.broken.Broken.{Broken}
use Rattle.shape_check.specs.Breaks.{form_breaks}

-- the earlier of two faults, where there are any
abbrev pub sooner : Option Fault → Option Fault → Option Fault
sooner None other = other
sooner (Some fault) other = Some (earlier fault other)

-- the fault of this rule on this line, where it is broken
abbrev pub fault_if : Bool → (line rule : ℕ) → Option Fault
fault_if true line rule = Some (record { line = line; rule = rule })
fault_if false line rule = None

-- this rule's fault, where it is broken, and else another's
abbrev pub or_else : Bool → (line rule : ℕ) → Option Fault → Option Fault
or_else true line rule other = Some (record { line = line; rule = rule })
or_else false line rule other = other

-- of the rules broken on a line, the one that is told
abbrev pub told : (line : ℕ) → Broken → Option Fault
told line b =
    or_else b.unbound line 1
    (or_else b.rebound line 2
    (or_else b.repeated line 3
    (or_else b.kind line 4
    (or_else b.indices line 5
    (or_else b.writable line 6 None)))))

abbrev mutual
  -- the earlier of a fault and the first one of a body
  pub first_in : Tree → List ℕ → Block → Option Fault → Option Fault
  first_in p bound End first = first
  first_in p bound (Then line form rest) first = first_in p bound rest (first_inside p bound form (sooner first (told line (form_breaks p bound form))))

  -- the earlier of a fault and the first one of the statements inside a statement
  pub first_inside : Tree → List ℕ → Plain → Option Fault → Option Fault
  first_inside p bound (Do index body) first = first_in p (index ∷ bound) body first
  first_inside p bound (DoIn sub index body) first = first_in p (sub ∷ bound) body first
  first_inside p bound (Pardo indices wheres body) first = first_in p (indices ++ bound) body first
  first_inside p bound (If cond body) first = first_in p bound body first
  first_inside p bound (IfElse cond body other) first = first_in p bound other (first_in p bound body first)
  first_inside p bound _ first = first

-- the same of procedures
abbrev pub first_of_procedures : Tree → List Procedure → Option Fault → Option Fault
first_of_procedures p [] first = first
first_of_procedures p (q ∷ qs) first = first_of_procedures p qs (first_in p [] q.body first)

-- the same of declarations of indices
abbrev pub first_of_indices : Tree → List IndexDecl → Option Fault → Option Fault
first_of_indices p [] first = first
first_of_indices p (i ∷ is) first = first_of_indices p is (sooner first (fault_if (index_breaks_kind p i) i.line 4))

-- the same of declarations of arrays
abbrev pub first_of_arrays : Tree → List ArrayDecl → Option Fault → Option Fault
first_of_arrays p [] first = first
first_of_arrays p (a ∷ others) first = first_of_arrays p others (sooner first (fault_if (array_breaks_kind p a) a.line 4))

-- the first fault of a program, looked for in its declarations, its body and then its procedures
abbrev pub first_of : Tree → Option Fault
first_of p = first_of_procedures p p.procedures (first_in p [] p.body (first_of_arrays p p.arrays (first_of_indices p p.indices None)))
