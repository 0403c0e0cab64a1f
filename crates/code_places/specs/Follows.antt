-- The rest of the work as it stands in a program's code.
use Rattle.std.specs.Prelude.{◌≡◌, ℕ, ◌+◌, List, [], ◌∷◌, ◌++◌}
use Rattle.sial_syntax.specs.Numbering.{size}
use Rattle.sial_syntax.specs.Tree.{Tree, Plain, Do, DoIn, Pardo}
use Rattle.sial_meaning.specs.Control.{loop_at, pardo_at}
use Rattle.sial_meaning.specs.Rest.{LoopAt, PardoAt, Rest, Over, Next, Turn, Join, Back, Within, place}
use Rattle.sip_tables.specs.Code.{instruction}
use Rattle.sip_tables.specs.declared.instruction.Operation.{Operation}
use Rattle.sip_tables.specs.declared.instruction.Operation.TheVariants as op
use Rattle.code_places.specs.Standing.{HasAt, FormStands}

-- the statement at an instruction is this loop, over segments or over the pieces of one
abbrev pub IsLoop : LoopAt → Plain → Type 0
IsLoop loop (Do index body) = loop ≡ loop_at loop.head index body
IsLoop loop (DoIn sub index body) = loop ≡ loop_at loop.head sub body
IsLoop loop _ = ⊥

-- a loop in progress stands in the code
pub record LoopStands (p : Tree) (loop : LoopAt) : Type 0 where
  pub line : ℕ
  pub form : Plain
  pub is_loop : IsLoop loop form
  pub form_stands : FormStands p loop.head line form

-- a pardo in progress stands in the code
pub record PardoStands (p : Tree) (pardo : PardoAt) : Type 0 where
  pub line : ℕ
  pub is_pardo : pardo ≡ pardo_at pardo.head pardo.indices pardo.wheres pardo.body
  pub form_stands : FormStands p pardo.head line (Pardo pardo.indices pardo.wheres pardo.body)

-- the end of a branch leads to a place: over the other branch, or on
abbrev pub Joins : Operation → (at to : ℕ) → Type 0
Joins (op.Else past) at to = to ≡ past
Joins op.EndIf at to = to ≡ at + 1
Joins _ at to = ⊥

-- the end of a branch stands in the code, and leads to a place
pub record BranchEnds (p : Tree) (at to : ℕ) : Type 0 where
  pub line : ℕ
  pub operation : Operation
  pub stands : HasAt p at (instruction line operation)
  pub joins : Joins operation at to

-- a program's code has the rest of the work: each item's code stands at its place, with what comes next behind it
abbrev pub Follows : Tree → Rest → Type 0
Follows p (Over at) = HasAt p at (instruction 0 op.Stop)
Follows p (Next at line form rest) = FormStands p at line form × (place rest ≡ at + size form) × Follows p rest
Follows p (Turn loop last rest) = LoopStands p loop × (place rest ≡ loop.at + 1) × Follows p rest
Follows p (Join at rest) = BranchEnds p at (place rest) × Follows p rest
Follows p (Back at values rest) = HasAt p at (instruction 0 op.Return) × Follows p rest
Follows p (Within pardo number rest) = PardoStands p pardo × (place rest ≡ pardo.at + 1) × Follows p rest

-- where the calls in progress return to, the last of them last
abbrev pub return_places : Rest → List ℕ
return_places (Over at) = []
return_places (Next at line form rest) = return_places rest
return_places (Turn loop last rest) = return_places rest
return_places (Join at rest) = return_places rest
return_places (Back at values rest) = return_places rest ++ place rest ∷ []
return_places (Within pardo number rest) = return_places rest

-- the index numbers that the callers get back, those of the last call last
abbrev pub saved_values : Rest → List (List ℕ)
saved_values (Over at) = []
saved_values (Next at line form rest) = saved_values rest
saved_values (Turn loop last rest) = saved_values rest
saved_values (Join at rest) = saved_values rest
saved_values (Back at values rest) = saved_values rest ++ values ∷ []
saved_values (Within pardo number rest) = saved_values rest
