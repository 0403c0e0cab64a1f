-- Right sides that a target can be assigned: each block is named as the indices have numbers now, and their indices agree.
use Rattle.std.specs.Prelude.{◌≡◌, ℕ, ◌^◌, ◌<◌, ◌≤◌, List, [], map, length, Bool, true, false, ◌||◌, unwrap_or}
use Rattle.sial_syntax.specs.declared.operand.Bin.{Bin}
use Rattle.sial_syntax.specs.declared.operand.Bin.TheVariants.{Times}
use Rattle.sial_syntax.specs.declared.operand.Op.{Op}
use Rattle.sial_syntax.specs.declared.operand.Op.TheVariants as op
use Rattle.sial_syntax.specs.Agreeing.{has_twice, same_set, pair_agrees}
use Rattle.sial_syntax.specs.Boxes.{volume}
use Rattle.sial_syntax.specs.Spaces.{Spaces, extent}
use Rattle.sial_meaning.specs.ReadBackLaws.{NoPartOfPart, cuts_each}
use Rattle.sial_meaning.specs.Right.{Term, Plain, Shown, Side, Alone, Joined, assigned, side_at}
use Rattle.sial_meaning.specs.Sight.{Sight, lengths}

-- a block with one to six indices, none twice, that lies where they have these numbers, and has a number for each position
pub record IsNamed (spaces : Spaces) (values : List ℕ) (block : Sight) : Type 0 where
  pub once : has_twice block.at ≡ false
  pub some : 1 ≤ length block.at
  pub most : length block.at ≤ 6
  pub extents : block.extents ≡ map (extent spaces values) block.at
  pub words : length block.words ≡ volume (lengths block.extents)
  pub few : length block.words < 2 ^ 32

-- the same of an operand, where it is a block
abbrev pub IsTerm : Spaces → List ℕ → Term → Type 0
IsTerm spaces values (Plain n) = Unit {0}
IsTerm spaces values (Shown block) = IsNamed spaces values block

-- the same of each operand of a right side
abbrev pub IsSide : Spaces → List ℕ → Side → Type 0
IsSide spaces values (Alone a) = IsTerm spaces values a
IsSide spaces values (Joined a bin b) = IsTerm spaces values a × IsTerm spaces values b

-- whether one block can be assigned to another: the same indices in any order, a slice or an insertion
abbrev pub copy_fits : Spaces → (target source : List ℕ) → Bool
copy_fits spaces target source = same_set target source || (cuts_each spaces target source || cuts_each spaces source target)

-- whether two operands can be joined so for a target
abbrev pub pair_fits : (target : List ℕ) → Term → Bin → Term → Bool
pair_fits target (Shown a) bin (Shown b) = pair_agrees target bin a.at b.at
pair_fits target (Shown a) Times (Plain n) = same_set target a.at
pair_fits target (Plain n) Times (Shown b) = same_set target b.at
pair_fits target _ _ _ = false

-- whether a target can be assigned a right side; `*=` takes a number
abbrev pub side_fits : Spaces → Op → (target : List ℕ) → Side → Bool
side_fits spaces op target (Alone (Plain n)) = true
side_fits spaces op.Scale target _ = false
side_fits spaces op target (Alone (Shown block)) = copy_fits spaces target block.at
side_fits spaces op target (Joined a bin b) = pair_fits target a bin b

-- an assignment that its indices' names and extents allow
pub record Fits (spaces : Spaces) (values : List ℕ) (op : Op) (to : Sight) (right : Side) : Type 0 where
  pub target : IsNamed spaces values to
  pub side : IsSide spaces values right
  pub agrees : side_fits spaces op to.at right ≡ true
  pub flat : NoPartOfPart spaces

-- indices have some numbers with which the assignment is allowed
abbrev pub CanAssign : Op → Sight → Side → Type 0
CanAssign op to right = (spaces : Spaces) × (values : List ℕ) × Fits spaces values op to right

-- these are the target's numbers after it, whatever the indices' numbers are
abbrev pub IsAssigned : Op → Sight → Side → List ℕ → Type 0
IsAssigned op to right new = (spaces : Spaces) (values : List ℕ) → Fits spaces values op to right → new ≡ assigned spaces op to right

-- whether a right side is one number: two of them joined, or a block contracted with one that has the same indices
abbrev pub number_fits : Side → Bool
number_fits (Alone (Plain n)) = true
number_fits (Alone (Shown block)) = false
number_fits (Joined (Plain n) bin (Plain m)) = true
number_fits (Joined (Shown a) Times (Shown b)) = same_set a.at b.at
number_fits (Joined _ _ _) = false

-- a right side for a scalar that its indices' names and extents allow
pub record FitsNumber (spaces : Spaces) (values : List ℕ) (right : Side) : Type 0 where
  pub side : IsSide spaces values right
  pub agrees : number_fits right ≡ true

-- indices have some numbers with which it is allowed
abbrev pub HasNumber : Side → Type 0
HasNumber right = (spaces : Spaces) × (values : List ℕ) × FitsNumber spaces values right

-- this is its number, whatever the indices' numbers are
abbrev pub IsNumberOf : Side → ℕ → Type 0
IsNumberOf right number = (spaces : Spaces) (values : List ℕ) → FitsNumber spaces values right → number ≡ unwrap_or (side_at spaces [] right) 0
