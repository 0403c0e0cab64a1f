-- What an assignment to a block leaves is what its target reads from then on.
use Rattle.std.specs.Prelude.{◌≡◌, ℕ, List, [], ◌||◌, Ok}
use Rattle.sial_syntax.specs.declared.operand.BlockRef.{BlockRef}
use Rattle.sial_syntax.specs.declared.operand.Op.{Op}
use Rattle.sial_syntax.specs.declared.operand.Right.{Right}
use Rattle.sial_syntax.specs.declared.operand.Target.TheVariants as target
use Rattle.sial_syntax.specs.Tree.{Plain, Assign}
use Rattle.sial_meaning.specs.LocalStep.{side_read, needs_old, old_words, words_of}
use Rattle.sial_meaning.specs.Own.{sight}
use Rattle.sial_meaning.specs.Rest.{Rest, Next}
use Rattle.sial_meaning.specs.Step.{Moved, steps, start_work}
use Rattle.sial_meaning.specs.Right.{Side, assigned, is_insertion}
use Rattle.sial_meaning.specs.Setting.{Setting, array_kind}
use Rattle.sial_meaning.specs.Sound.{IsSound}
use Rattle.sial_meaning.specs.State.{State}
use Rattle.sial_meaning.specs.Statement.{Reading, Went, reads_of, values_of, statement}

-- what an assignment to a block says
abbrev pub to_block_of : BlockRef → Op → Right → Plain
to_block_of to op right = Assign (target.Block to) op right

-- the right side was read as this, the target held these elements, and named again it holds those of the assignment
pub record IsHeld (reading : Reading) (g : Setting) (to : BlockRef) (op : Op) (right : Right) (s t : State) (side : Side) (old : List ℕ) : Type 0 where
  pub side_is : side_read g s.own right (values_of g reading s (reads_of g (to_block_of to op right))) ≡ Ok side
  pub old_is : old_words g s.own to (needs_old op || is_insertion g.spaces to.at side) (array_kind g to.array) ≡ Ok old
  pub held : words_of g t.own to [] ≡ Ok (assigned g.spaces op (sight g s.own to old) side)

-- wherever steps lead to an assignment to a block that doesn't trap, its target holds what the assignment makes of it
abbrev pub AssignmentsAreHeld : Type 0
AssignmentsAreHeld =
    (reading : Reading) (g : Setting) (count at line : ℕ) (to : BlockRef) (op : Op) (right : Right) (rest : Rest) (s t : State)
    → IsSound g
    → steps reading g count (start_work g) ≡ Moved (record { rest = Next at line (to_block_of to op right) rest; state = s })
    → statement reading g line (to_block_of to op right) s ≡ Went t
    → (side : Side) × (old : List ℕ) × IsHeld reading g to op right s t side old
