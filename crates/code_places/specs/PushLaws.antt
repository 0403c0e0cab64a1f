-- A body before the rest of the work; how many calls are in progress.
use Rattle.std.specs.Prelude.{◌≡◌, ℕ, ◌+◌, length}
use Rattle.sial_syntax.specs.Numbering.{sizes}
use Rattle.sial_syntax.specs.Tree.{Tree, Block}
use Rattle.sial_meaning.specs.Rest.{Rest, place, push, depth}
use Rattle.code_places.specs.Follows.{Follows, return_places, saved_values}
use Rattle.code_places.specs.Standing.{BodyStands}

-- where the rest stands behind a body, the cursor stands at the body's place
abbrev pub PushHasPlace : Type 0
PushHasPlace = (at : ℕ) (body : Block) (rest : Rest) → place rest ≡ at + sizes body → place (push at body rest) ≡ at

-- and the code has the body, and then the rest
abbrev pub PushFollows : Type 0
PushFollows =
    (p : Tree) (at : ℕ) (body : Block) (rest : Rest) → BodyStands p at body → place rest ≡ at + sizes body → Follows p rest
    → Follows p (push at body rest)

-- no call begins with a body
abbrev pub PushKeepsReturns : Type 0
PushKeepsReturns = (at : ℕ) (body : Block) (rest : Rest) → return_places (push at body rest) ≡ return_places rest

-- nor are other numbers saved
abbrev pub PushKeepsValues : Type 0
PushKeepsValues = (at : ℕ) (body : Block) (rest : Rest) → saved_values (push at body rest) ≡ saved_values rest

-- the calls in progress are as many as the rest of the work has
abbrev pub ReturnsAreDepth : Type 0
ReturnsAreDepth = (rest : Rest) → length (return_places rest) ≡ depth rest
