-- The side rules: for each rule, whether a statement breaks it, and the first fault.
use Rattle.std.specs.Prelude.{ℕ, zero, suc, ◌+◌, List, [], ◌∷◌, ◌++◌, map, filter, flat_map, length, ◌≡◌, max, min, Bool, true, false, ◌==◌, ◌&&◌, ◌||◌, not, nat_lt, Option, Some, None, slice_index_or, if◌then◌else◌, fold}
use Rattle.std.specs.List.{list_any, enumerate_from}
use Rattle.sial_syntax.specs.declared.array.ArrayKind.TheVariants.{Static, Local}
use Rattle.sial_syntax.specs.declared.classes.ScalarClass.{ScalarClass}
use Rattle.sial_syntax.specs.declared.classes.ScalarClass.TheVariants.{Replicated, Private, Partial}
use Rattle.sial_syntax.specs.declared.operand.Op.TheVariants.{Set}
use Rattle.sial_syntax.specs.declared.operand.Operand.TheVariants.{Number}
use Rattle.sial_syntax.specs.declared.operand.Right.{Right}
use Rattle.sial_syntax.specs.declared.operand.Right.TheVariants.{One}
use Rattle.sial_syntax.specs.declared.operand.Target.{Target}
use Rattle.sial_syntax.specs.declared.operand.Target.TheVariants as target
use Rattle.sial_syntax.specs.Agreeing.{contains, has_kind}
use Rattle.sial_syntax.specs.Limits.{most_depth}
use Rattle.sial_syntax.specs.Parts.{arrays_named}
use Rattle.sial_syntax.specs.Shapes.{Fault, first_fault, shape_fault}
use Rattle.sial_syntax.specs.Tree.{Tree, Procedure, End, Plain, Pardo, Assign, Put, Prepare, Create, Delete, Collective, SipBarrier, ServerBarrier, Print, PrintScalar, Integrals}
use Rattle.sial_syntax.specs.Visits.{Visit, body_visits}
use Rattle.sial_syntax.specs.Sides.{Sided, all_sided, is_outer, is_inner, writes, reads, called_by, scalar_classes}

-- whether a statement is a pardo
abbrev pub is_pardo : Plain → Bool
is_pardo (Pardo indices wheres body) = true
is_pardo _ = false

-- whether a statement writes a shared block
abbrev pub is_shared_write : Plain → Bool
is_shared_write (Put block how from) = true
is_shared_write (Prepare block how from) = true
is_shared_write _ = false

-- whether a statement waits for all workers
abbrev pub is_sync : Plain → Bool
is_sync (Create array) = true
is_sync (Delete array) = true
is_sync (Collective into from) = true
is_sync SipBarrier = true
is_sync ServerBarrier = true
is_sync _ = false

-- whether a statement prints
abbrev pub is_print : Plain → Bool
is_print (Print text) = true
is_print (PrintScalar scalar) = true
is_print _ = false

-- the array of a target
abbrev pub target_array : Target → List ℕ
target_array (target.Scalar s) = []
target_array (target.Block b) = b.array ∷ []

-- the arrays that an assignment or `compute_integrals` writes
abbrev pub arrays_written : Plain → List ℕ
arrays_written (Assign target op right) = target_array target
arrays_written (Integrals block) = block.array ∷ []
arrays_written _ = []

-- PardoInPardo: a pardo stands within
abbrev pub breaks_pardo : Sided → Bool
breaks_pardo s = is_inner s && is_pardo s.form

-- SharedWriteOutside: `put` or `prepare` stands outside
abbrev pub breaks_shared_write : Sided → Bool
breaks_shared_write s = is_outer s && is_shared_write s.form

-- SyncInside: `create`, `delete`, a barrier or `collective` stands within
abbrev pub breaks_sync : Sided → Bool
breaks_sync s = is_inner s && is_sync s.form

-- PrintInside: a print stands within
abbrev pub breaks_print : Sided → Bool
breaks_print s = is_inner s && is_print s.form

-- StaticWriteInside: a static array is written within
abbrev pub breaks_static : Tree → Sided → Bool
breaks_static p s = is_inner s && list_any (has_kind p Static) (arrays_written s.form)

-- the lesser of a line and perhaps another
abbrev pub least_with : ℕ → Option ℕ → ℕ
least_with x None = x
least_with x (Some y) = min x y

-- the least of some lines
abbrev pub least : List ℕ → Option ℕ
least [] = None
least (x ∷ xs) = Some (least_with x (least xs))

-- MixedLocal: the least line up to which the statements that name a local array stand on both sides
abbrev pub mixed_at : Option ℕ → Option ℕ → List ℕ
mixed_at None inner = []
mixed_at (Some outer) None = []
mixed_at (Some outer) (Some inner) = max outer inner ∷ []

-- the lines of the statements on a side that name an array
abbrev pub naming_lines : (Sided → Bool) → (array : ℕ) → List Sided → List ℕ
naming_lines side array all = map (λ (s : Sided). s.line) (filter (λ s. side s && contains (arrays_named s.form) array) all)

-- where a local array is mixed
abbrev pub local_mixed : Tree → (array : ℕ) → List ℕ
local_mixed p array = if has_kind p Local array then mixed_at (least (naming_lines is_outer array (all_sided p))) (least (naming_lines is_inner array (all_sided p))) else []

-- whether a right side is the number 0
abbrev pub is_zero : Right → Bool
is_zero (One (Number n)) = n == 0
is_zero _ = false

-- whether a statement sets its target to 0
abbrev pub sets_zero : Plain → Bool
sets_zero (Assign target Set right) = is_zero right
sets_zero _ = false

-- MixedScalar of a scalar of this class: a private one is named outside, or a partial one is written outside other than by `= 0`
abbrev pub mixes : ScalarClass → (scalar : ℕ) → Sided → Bool
mixes Replicated scalar s = false
mixes Private scalar s = is_outer s && (writes scalar s || reads scalar s)
mixes Partial scalar s = is_outer s && (writes scalar s && not (sets_zero s.form))

-- whether a class is partial
abbrev pub is_partial : ScalarClass → Bool
is_partial Replicated = false
is_partial Private = false
is_partial Partial = true

-- MixedScalar of a `collective`: its source isn't partial
abbrev pub wrong_source : List ScalarClass → Plain → Bool
wrong_source classes (Collective into from) = not (is_partial (slice_index_or classes from Replicated))
wrong_source classes _ = false

-- MixedScalar: a statement mixes a scalar's sides, or collects one that isn't partial
abbrev pub breaks_scalar : List ScalarClass → Sided → Bool
breaks_scalar classes s = list_any (λ (c : ℕ × ScalarClass). mixes c.1 c.0 s) (enumerate_from 0 classes) || wrong_source classes s.form

-- the partial scalars that a statement may read: `collective`'s source
abbrev pub collected_by : Plain → List ℕ
collected_by (Collective into from) = from ∷ []
collected_by _ = []

-- PartialRead: a partial scalar is read other than as the source of `collective`
abbrev pub breaks_partial : List ScalarClass → Sided → Bool
breaks_partial classes s =
    list_any (λ (c : ℕ × ScalarClass). is_partial c.1 && (reads c.0 s && not (contains (collected_by s.form) c.0))) (enumerate_from 0 classes)

-- the procedures that a procedure calls
abbrev pub calls_of : Tree → (procedure : ℕ) → List ℕ
calls_of p procedure = flat_map (λ (v : Visit). called_by v.form) (body_visits (slice_index_or p.procedures procedure (record { name = []; body = End })).body)

-- whether a procedure is reached by a chain of at most so many calls
abbrev pub reaches : Tree → (most from to : ℕ) → Bool
reaches p zero from to = from == to
reaches p (suc most) from to = (from == to) || list_any (λ q. reaches p most q to) (calls_of p from)

-- the calls of a procedure's body that lead back to it
abbrev pub recursive_calls : Tree → ℕ × Procedure → List ℕ
recursive_calls p q =
    map (λ (v : Visit). v.line) (filter (λ (v : Visit). list_any (λ called. reaches p (length p.procedures) called q.0) (called_by v.form)) (body_visits q.1.body))

-- Recursion: the first call, by line, within a procedure that the called procedure reaches by calls
abbrev pub recursion : Tree → Option ℕ
recursion p = least (flat_map (recursive_calls p) (enumerate_from 0 p.procedures))

-- how deep a procedure calls, itself counted, where calls go at most so deep
abbrev pub depth_of : Tree → (most procedure : ℕ) → ℕ
depth_of p zero procedure = 0
depth_of p (suc most) procedure = 1 + fold max 0 (map (depth_of p most) (calls_of p procedure))

-- how deep a procedure calls, itself counted; without recursion calls go no deeper than there are procedures
abbrev pub procedure_depth : Tree → (procedure : ℕ) → ℕ
procedure_depth p procedure = depth_of p (length p.procedures + 1) procedure

-- CallTooDeep: a call of a procedure that is too deep
abbrev pub breaks_depth : Tree → Sided → Bool
breaks_depth p s = list_any (λ q. nat_lt most_depth (procedure_depth p q)) (called_by s.form)

-- a rule, broken at the lines of these statements
abbrev pub side_broken : (rule : ℕ) → (Sided → Bool) → List Sided → List Fault
side_broken rule breaks all = map (λ (s : Sided). record { line = s.line; rule = rule }) (filter breaks all)

-- the lines where local arrays are mixed, in order of the arrays
abbrev pub locals_mixed : Tree → List Fault
locals_mixed p = map (λ line. record { line = line; rule = 6 }) (flat_map (λ x. local_mixed p x.0) (enumerate_from 0 p.arrays))

-- all faults of sides but recursion: 1 PardoInPardo, 2 SharedWriteOutside, 3 SyncInside, 4 PrintInside, 5 StaticWriteInside, 6 MixedLocal, 7 MixedScalar, 8 PartialRead, 10 CallTooDeep
abbrev pub side_faults : Tree → List Fault
side_faults p =
    side_broken 1 breaks_pardo (all_sided p)
    ++ side_broken 2 breaks_shared_write (all_sided p)
    ++ side_broken 3 breaks_sync (all_sided p)
    ++ side_broken 4 breaks_print (all_sided p)
    ++ side_broken 5 (breaks_static p) (all_sided p)
    ++ locals_mixed p
    ++ side_broken 7 (breaks_scalar (scalar_classes p)) (all_sided p)
    ++ side_broken 8 (breaks_partial (scalar_classes p)) (all_sided p)
    ++ side_broken 10 (breaks_depth p) (all_sided p)

-- the first fault of sides: recursion, numbered 9, is looked for first
abbrev pub recursion_or : Option ℕ → Option Fault → Option Fault
recursion_or None other = other
recursion_or (Some line) other = Some (record { line = line; rule = 9 })

-- the first fault of sides, none where the side rules grant the program
abbrev pub side_fault : Tree → Option Fault
side_fault p = recursion_or (recursion p) (first_fault (side_faults p))

-- the shape rules and the side rules grant a program
pub record IsGranted (p : Tree) : Type 0 where
  pub shapes : shape_fault p ≡ None
  pub sides : side_fault p ≡ None
