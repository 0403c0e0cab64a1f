-- What one block assigned to another reads back in a program that the rules grant.
use Rattle.std.specs.Prelude.{◌≡◌, ℕ, List, map, Bool, true, false, ◌⊎◌}
use Rattle.std.specs.List.{Contains}
use Rattle.sial_syntax.specs.declared.operand.BlockRef.{BlockRef}
use Rattle.sial_syntax.specs.declared.operand.Op.{Op}
use Rattle.sial_syntax.specs.declared.operand.Operand.TheVariants as operand
use Rattle.sial_syntax.specs.declared.operand.Right.TheVariants.{One}
use Rattle.sial_syntax.specs.declared.operand.Target.TheVariants as target
use Rattle.sial_syntax.specs.Agreeing.{same_set, cuts_all}
use Rattle.sial_syntax.specs.Boxes.{IsTupleOf}
use Rattle.sial_syntax.specs.Spaces.{extent}
use Rattle.sial_syntax.specs.Tree.{Tree, Assign}
use Rattle.sial_syntax.specs.Visits.{Visit, all_visits}
use Rattle.sial_meaning.specs.LocalStep.{whole_positions}
use Rattle.sial_meaning.specs.Number.{combined}
use Rattle.sial_meaning.specs.ReadBackLaws.{named_block, after_assignment, under, word_of}
use Rattle.sial_meaning.specs.Right.{Alone, Shown}
use Rattle.sial_meaning.specs.Setting.{Setting}
use Rattle.sial_meaning.specs.Sight.{Sight, lengths, all_lie, word_at}
use Rattle.sial_meaning.specs.Sound.{IsSound}

-- a statement of a program assigns one block to another
abbrev pub Copies : Tree → (to : BlockRef) → Op → (from : BlockRef) → Type 0
Copies p to op from = (v : Visit) × Contains (all_visits p) v × (v.form ≡ Assign (target.Block to) op (One (operand.Block from)))

-- a named block with these elements, where the indices have these numbers
abbrev pub shown : Setting → (values : List ℕ) → BlockRef → (words : List ℕ) → Sight
shown g values block words = named_block g.spaces values block.at words

-- the target after the statement
abbrev pub copied : Setting → (values : List ℕ) → (to : BlockRef) → (old : List ℕ) → Op → (from : BlockRef) → (words : List ℕ) → Sight
copied g values to old op from words = after_assignment g.spaces op (shown g values to old) (Alone (Shown (shown g values from words)))

-- a tuple of offsets of a block
abbrev pub IsOffset : Setting → (values : List ℕ) → BlockRef → (tuple : List ℕ) → Type 0
IsOffset g values block tuple = IsTupleOf (lengths (map (extent g.spaces values) block.at)) tuple

-- the whole positions that a tuple of offsets of a block names
abbrev pub positions : Setting → (values : List ℕ) → BlockRef → (tuple : List ℕ) → List ℕ
positions g values block tuple = whole_positions (map (extent g.spaces values) block.at) tuple

-- whether whole positions lie on a block
abbrev pub lie_on : Setting → (values : List ℕ) → BlockRef → (positions : List ℕ) → Bool
lie_on g values block positions = all_lie (map (extent g.spaces values) block.at) positions

-- each of these statements has the same indices in both blocks, takes a slice or inserts
abbrev pub EachIsOneOfThree : Type 0
EachIsOneOfThree =
    (g : Setting) (to from : BlockRef) (op : Op)
    → IsSound g → Copies g.program to op from
    → (same_set to.at from.at ≡ true) ⊎ ((cuts_all g.program to.at from.at ≡ true) ⊎ (cuts_all g.program from.at to.at ≡ true))

-- a copy: each element is the source's at the members that stand under its own indices
abbrev pub CopiesReadBack : Type 0
CopiesReadBack =
    (g : Setting) (to from : BlockRef) (op : Op) (values old words tuple : List ℕ)
    → IsSound g → Copies g.program to op from → same_set to.at from.at ≡ true → IsOffset g values to tuple
    → word_at (copied g values to old op from words) tuple
    ≡ combined op (word_at (shown g values to old) tuple) (word_at (shown g values from words) (map (under to.at tuple) from.at))

-- a slice: each element is the source's at the same whole positions
abbrev pub SlicesReadBack : Type 0
SlicesReadBack =
    (g : Setting) (to from : BlockRef) (op : Op) (values old words tuple : List ℕ)
    → IsSound g → Copies g.program to op from → cuts_all g.program to.at from.at ≡ true → IsOffset g values to tuple
    → word_at (copied g values to old op from words) tuple
    ≡ combined op (word_at (shown g values to old) tuple) (word_of (shown g values from words) (positions g values to tuple))

-- an insertion: at the source's positions the elements are the source's
abbrev pub InsertionsReadBack : Type 0
InsertionsReadBack =
    (g : Setting) (to from : BlockRef) (op : Op) (values old words tuple : List ℕ)
    → IsSound g → Copies g.program to op from → cuts_all g.program from.at to.at ≡ true → IsOffset g values to tuple
    → lie_on g values from (positions g values to tuple) ≡ true
    → word_at (copied g values to old op from words) tuple
    ≡ combined op (word_at (shown g values to old) tuple) (word_of (shown g values from words) (positions g values to tuple))

-- and all other elements stay
abbrev pub InsertionsLeaveTheRest : Type 0
InsertionsLeaveTheRest =
    (g : Setting) (to from : BlockRef) (op : Op) (values old words tuple : List ℕ)
    → IsSound g → Copies g.program to op from → cuts_all g.program from.at to.at ≡ true → IsOffset g values to tuple
    → lie_on g values from (positions g values to tuple) ≡ false
    → word_at (copied g values to old op from words) tuple ≡ word_at (shown g values to old) tuple
