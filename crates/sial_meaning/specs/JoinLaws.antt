-- What sums, differences, products and scalings of blocks read back, element by element, by the names of indices.
use Rattle.std.specs.Prelude.{◌≡◌, ℕ, ◌*◌, ◌%◌, ◌^◌, List, [], ◌++◌, map, filter, sum_by, unwrap_or, true, false}
use Rattle.std.specs.List.{Contains}
use Rattle.sial_syntax.specs.declared.operand.Bin.{Bin}
use Rattle.sial_syntax.specs.declared.operand.Bin.TheVariants.{Plus, Minus, Times, Outer}
use Rattle.sial_syntax.specs.declared.operand.BlockRef.{BlockRef}
use Rattle.sial_syntax.specs.declared.operand.Op.{Op}
use Rattle.sial_syntax.specs.declared.operand.Operand.{Operand}
use Rattle.sial_syntax.specs.declared.operand.Operand.TheVariants as operand
use Rattle.sial_syntax.specs.declared.operand.Right.{Right}
use Rattle.sial_syntax.specs.declared.operand.Right.TheVariants.{Two}
use Rattle.sial_syntax.specs.declared.operand.Target.TheVariants as target
use Rattle.sial_syntax.specs.Agreeing.{contains, all_in, has_twice, is_block}
use Rattle.sial_syntax.specs.Boxes.{tuples, IsTupleOf}
use Rattle.sial_syntax.specs.Spaces.{Spaces, extent}
use Rattle.sial_syntax.specs.Tree.{Tree, Assign}
use Rattle.sial_syntax.specs.Visits.{Visit, all_visits}
use Rattle.sial_meaning.specs.CopyLaws.{shown, IsOffset}
use Rattle.sial_meaning.specs.Number.{plus, minus, times, combined}
use Rattle.sial_meaning.specs.ReadBackLaws.{named_block, after_assignment, under}
use Rattle.sial_meaning.specs.Right.{Plain, Shown, Side, Alone, Joined, side_at}
use Rattle.sial_meaning.specs.Setting.{Setting}
use Rattle.sial_meaning.specs.Sight.{Sight, lengths, word_at}
use Rattle.sial_meaning.specs.Sound.{IsSound}

-- the indices that two blocks share, in the order of the first
abbrev pub shared_indices : List ℕ → List ℕ → List ℕ
shared_indices a b = filter (contains b) a

-- the element of a block at the members that stand under its own indices
abbrev pub word_under : (names tuple : List ℕ) → Sight → ℕ
word_under names tuple block = word_at block (map (under names tuple) block.at)

-- the positions of some indices, counted from the starts of what they lie on
abbrev pub offsets_of : Spaces → (values indices : List ℕ) → List (List ℕ)
offsets_of spaces values indices = tuples (lengths (map (extent spaces values) indices))

-- the product of two blocks summed over all positions of the indices that they share, where the others have the members of a tuple
abbrev pub contracted : Spaces → (values names tuple : List ℕ) → (left right : Sight) → ℕ
contracted spaces values names tuple left right =
    sum_by
    (λ t. word_under (names ++ shared_indices left.at right.at) (tuple ++ t) left * word_under (names ++ shared_indices left.at right.at) (tuple ++ t) right)
    (offsets_of spaces values (shared_indices left.at right.at))
    % 2 ^ 64

-- two blocks joined element by element: no index stands twice in the target, and each of theirs stands in it
abbrev pub JoinsByName : Bin → (ℕ → ℕ → ℕ) → Type 0
JoinsByName bin f =
    (spaces : Spaces) (op : Op) (values to a b old left right tuple : List ℕ)
    → has_twice to ≡ false → all_in a to ≡ true → all_in b to ≡ true → IsTupleOf (lengths (map (extent spaces values) to)) tuple
    → word_at (after_assignment spaces op (named_block spaces values to old) (Joined (Shown (named_block spaces values a left)) bin (Shown (named_block spaces values b right)))) tuple
    ≡ combined op (word_at (named_block spaces values to old) tuple) (f (word_under to tuple (named_block spaces values a left)) (word_under to tuple (named_block spaces values b right)))

-- sums
abbrev pub SumsByName : Type 0
SumsByName = JoinsByName Plus plus

-- differences
abbrev pub DifferencesByName : Type 0
DifferencesByName = JoinsByName Minus minus

-- outer products
abbrev pub OuterProductsByName : Type 0
OuterProductsByName = JoinsByName Outer times

-- a block scaled by a number, on either side
abbrev pub ScalingsByName : Type 0
ScalingsByName =
    (spaces : Spaces) (op : Op) (n : ℕ) (values to from old words tuple : List ℕ)
    → has_twice to ≡ false → all_in from to ≡ true → IsTupleOf (lengths (map (extent spaces values) to)) tuple
    → (word_at (after_assignment spaces op (named_block spaces values to old) (Joined (Plain n) Times (Shown (named_block spaces values from words)))) tuple
    ≡ combined op (word_at (named_block spaces values to old) tuple) (times n (word_under to tuple (named_block spaces values from words))))
    × (word_at (after_assignment spaces op (named_block spaces values to old) (Joined (Shown (named_block spaces values from words)) Times (Plain n))) tuple
    ≡ combined op (word_at (named_block spaces values to old) tuple) (times (word_under to tuple (named_block spaces values from words)) n))

-- a number alone fills
abbrev pub FillsEverywhere : Type 0
FillsEverywhere =
    (spaces : Spaces) (op : Op) (n : ℕ) (values to old tuple : List ℕ)
    → IsTupleOf (lengths (map (extent spaces values) to)) tuple
    → word_at (after_assignment spaces op (named_block spaces values to old) (Alone (Plain n))) tuple ≡ combined op (word_at (named_block spaces values to old) tuple) n

-- contractions: no index stands twice in the target and among those that are summed over, and each of both blocks stands there
abbrev pub ContractionsByName : Type 0
ContractionsByName =
    (spaces : Spaces) (op : Op) (values to a b old left right tuple : List ℕ)
    → has_twice (to ++ shared_indices a b) ≡ false → all_in a (to ++ shared_indices a b) ≡ true → all_in b (to ++ shared_indices a b) ≡ true
    → IsTupleOf (lengths (map (extent spaces values) to)) tuple
    → word_at (after_assignment spaces op (named_block spaces values to old) (Joined (Shown (named_block spaces values a left)) Times (Shown (named_block spaces values b right)))) tuple
    ≡ combined op (word_at (named_block spaces values to old) tuple) (contracted spaces values to tuple (named_block spaces values a left) (named_block spaces values b right))

-- contractions of two blocks with the same indices, to a number
abbrev pub ContractionsToNumbers : Type 0
ContractionsToNumbers =
    (spaces : Spaces) (values a b left right : List ℕ)
    → has_twice (shared_indices a b) ≡ false → all_in a (shared_indices a b) ≡ true → all_in b (shared_indices a b) ≡ true
    → unwrap_or (side_at spaces [] (Joined (Shown (named_block spaces values a left)) Times (Shown (named_block spaces values b right)))) 0
    ≡ contracted spaces values [] [] (named_block spaces values a left) (named_block spaces values b right)

-- a statement of a program assigns this right side to a block
abbrev pub Assigns : Tree → (to : BlockRef) → Op → Right → Type 0
Assigns p to op right = (v : Visit) × Contains (all_visits p) v × (v.form ≡ Assign (target.Block to) op right)

-- the target after such a statement whose right side was read as this
abbrev pub assigned_block : Setting → (values : List ℕ) → (to : BlockRef) → (old : List ℕ) → Op → Side → Sight
assigned_block g values to old op side = after_assignment g.spaces op (shown g values to old) side

-- two blocks joined element by element by a statement of a granted program
abbrev pub JoinsReadBack : Bin → (ℕ → ℕ → ℕ) → Type 0
JoinsReadBack bin f =
    (g : Setting) (to a b : BlockRef) (op : Op) (values old left right tuple : List ℕ)
    → IsSound g → Assigns g.program to op (Two (operand.Block a) bin (operand.Block b)) → IsOffset g values to tuple
    → word_at (assigned_block g values to old op (Joined (Shown (shown g values a left)) bin (Shown (shown g values b right)))) tuple
    ≡ combined op (word_at (shown g values to old) tuple) (f (word_under to.at tuple (shown g values a left)) (word_under to.at tuple (shown g values b right)))

-- sums in a granted program
abbrev pub SumsReadBack : Type 0
SumsReadBack = JoinsReadBack Plus plus

-- differences in a granted program
abbrev pub DifferencesReadBack : Type 0
DifferencesReadBack = JoinsReadBack Minus minus

-- outer products in a granted program
abbrev pub OuterProductsReadBack : Type 0
OuterProductsReadBack = JoinsReadBack Outer times

-- contractions in a granted program
abbrev pub ContractionsReadBack : Type 0
ContractionsReadBack =
    (g : Setting) (to a b : BlockRef) (op : Op) (values old left right tuple : List ℕ)
    → IsSound g → Assigns g.program to op (Two (operand.Block a) Times (operand.Block b)) → IsOffset g values to tuple
    → word_at (assigned_block g values to old op (Joined (Shown (shown g values a left)) Times (Shown (shown g values b right)))) tuple
    ≡ combined op (word_at (shown g values to old) tuple) (contracted g.spaces values to.at tuple (shown g values a left) (shown g values b right))

-- scalings in a granted program, by a literal or a scalar on either side
abbrev pub ScalingsReadBack : Type 0
ScalingsReadBack =
    (g : Setting) (to from : BlockRef) (by : Operand) (op : Op) (n : ℕ) (values old words tuple : List ℕ)
    → IsSound g → is_block by ≡ false → IsOffset g values to tuple
    → (Assigns g.program to op (Two by Times (operand.Block from))
    → word_at (assigned_block g values to old op (Joined (Plain n) Times (Shown (shown g values from words)))) tuple
    ≡ combined op (word_at (shown g values to old) tuple) (times n (word_under to.at tuple (shown g values from words))))
    × (Assigns g.program to op (Two (operand.Block from) Times by)
    → word_at (assigned_block g values to old op (Joined (Shown (shown g values from words)) Times (Plain n))) tuple
    ≡ combined op (word_at (shown g values to old) tuple) (times (word_under to.at tuple (shown g values from words)) n))
