-- Words of the shape rules: kinds of indices, forms of assignments, and index sets that agree.
use Rattle.std.specs.Prelude.{ℕ, List, [], ◌∷◌, ◌++◌, filter, Bool, true, false, ◌==◌, ◌&&◌, ◌||◌, not, is_some, Option, Some, None, slice_index_or}
use Rattle.std.specs.List.{list_all, list_any}
use Rattle.sial_syntax.specs.declared.array.ArrayDecl.{ArrayDecl}
use Rattle.sial_syntax.specs.declared.array.ArrayKind.{ArrayKind}
use Rattle.sial_syntax.specs.declared.array.ArrayKind.TheVariants.{Static, Temp, Local, Distributed, Served}
use Rattle.sial_syntax.specs.declared.index.Bound.TheVariants as bound
use Rattle.sial_syntax.specs.declared.index.IndexDecl.{IndexDecl}
use Rattle.sial_syntax.specs.declared.index.Kind.{Kind}
use Rattle.sial_syntax.specs.declared.index.Kind.TheVariants.{Ao, Mo, Moa, Mob, Index}
use Rattle.sial_syntax.specs.declared.index.Range.{Range}
use Rattle.sial_syntax.specs.declared.index.Range.TheVariants.{Segments, Sub}
use Rattle.sial_syntax.specs.declared.operand.Bin.{Bin}
use Rattle.sial_syntax.specs.declared.operand.Bin.TheVariants.{Plus, Minus, Times, Outer}
use Rattle.sial_syntax.specs.declared.operand.Op.{Op}
use Rattle.sial_syntax.specs.declared.operand.Op.TheVariants as op
use Rattle.sial_syntax.specs.declared.operand.Operand.{Operand}
use Rattle.sial_syntax.specs.declared.operand.Operand.TheVariants.{Number, Scalar, Block}
use Rattle.sial_syntax.specs.declared.operand.Right.{Right}
use Rattle.sial_syntax.specs.declared.operand.Right.TheVariants.{One, Two}
use Rattle.sial_syntax.specs.declared.operand.Slot.{Slot}
use Rattle.sial_syntax.specs.declared.operand.Slot.TheVariants.{At, All}
use Rattle.sial_syntax.specs.declared.operand.Target.{Target}
use Rattle.sial_syntax.specs.declared.operand.Target.TheVariants as target
use Rattle.sial_syntax.specs.Spaces.{same_kind}
use Rattle.sial_syntax.specs.Tree.{Tree}

-- whether a list has an index
abbrev pub contains : List ℕ → ℕ → Bool
contains indices index = list_any (λ i. i == index) indices

-- whether each index of the first list stands in the second
abbrev pub all_in : List ℕ → List ℕ → Bool
all_in xs ys = list_all (contains ys) xs

-- whether two lists have the same indices, in any order
abbrev pub same_set : List ℕ → List ℕ → Bool
same_set xs ys = all_in xs ys && all_in ys xs

-- whether two lists are the same
abbrev pub same_list : List ℕ → List ℕ → Bool
same_list [] [] = true
same_list [] (y ∷ ys) = false
same_list (x ∷ xs) [] = false
same_list (x ∷ xs) (y ∷ ys) = (x == y) && same_list xs ys

-- whether an index stands twice
abbrev pub has_twice : List ℕ → Bool
has_twice [] = false
has_twice (x ∷ xs) = contains xs x || has_twice xs

-- the range of an index of a program
abbrev pub range_in : Tree → ℕ → Range
range_in p index = (slice_index_or p.indices index (record { name = []; line = 0; range = Segments Index (bound.Number 1) (bound.Number 0) })).range

-- the index that a range cuts
abbrev pub range_super : Range → Option ℕ
range_super (Segments kind lo hi) = None
range_super (Sub super) = Some super

-- the kind of a range, where those of the indices before it are known; a subindex has that of its super index
abbrev pub range_kind : List Kind → Range → Kind
range_kind before (Segments kind lo hi) = kind
range_kind before (Sub super) = slice_index_or before super Index

-- the kinds of indices in order of declaration, behind those that are known
abbrev pub kinds_after : List Kind → List IndexDecl → List Kind
kinds_after before [] = before
kinds_after before (i ∷ is) = kinds_after (before ++ range_kind before i.range ∷ []) is

-- the kind of an index; as each subindex has that of its super index, it has that of the end of its chain
abbrev pub index_kind : Tree → ℕ → Kind
index_kind p index = slice_index_or (kinds_after [] p.indices) index Index

-- whether an index is a subindex
abbrev pub is_sub : Tree → ℕ → Bool
is_sub p index = is_some (range_super (range_in p index))

-- whether something is this index
abbrev pub is_this : Option ℕ → ℕ → Bool
is_this None index = false
is_this (Some i) index = i == index

-- whether the first is a subindex of the second
abbrev pub is_sub_of : Tree → (sub index : ℕ) → Bool
is_sub_of p sub index = is_this (range_super (range_in p sub)) index

-- whether two kinds are one
abbrev pub is_kind : Kind → Kind → Bool
is_kind Ao Ao = true
is_kind Mo Mo = true
is_kind Moa Moa = true
is_kind Mob Mob = true
is_kind Index Index = true
is_kind _ _ = false

-- whether two flags are the same
abbrev pub same_flag : Bool → Bool → Bool
same_flag true b = b
same_flag false b = not b

-- whether an index may stand where another is declared: of one kind, and both or neither a subindex
abbrev pub may_stand_for : Tree → (used declared : ℕ) → Bool
may_stand_for p used declared = is_kind (index_kind p used) (index_kind p declared) && same_flag (is_sub p used) (is_sub p declared)

-- whether the indices at the places that both lists have may stand there
abbrev pub fits_dims : Tree → (used declared : List ℕ) → Bool
fits_dims p [] declared = true
fits_dims p (u ∷ us) [] = true
fits_dims p (u ∷ us) (d ∷ ds) = may_stand_for p u d && fits_dims p us ds

-- whether a slot may stand where an index is declared
abbrev pub slot_fits : Tree → Slot → (declared : ℕ) → Bool
slot_fits p (At index) declared = may_stand_for p index declared
slot_fits p All declared = true

-- whether the slots at the places that both lists have may stand there
abbrev pub slots_fit : Tree → List Slot → (declared : List ℕ) → Bool
slots_fit p [] declared = true
slots_fit p (s ∷ ss) [] = true
slots_fit p (s ∷ ss) (d ∷ ds) = slot_fits p s d && slots_fit p ss ds

-- the declaration of an array
abbrev pub array_in : Tree → ℕ → ArrayDecl
array_in p array = slice_index_or p.arrays array (record { name = []; line = 0; kind = Temp; dims = [] })

-- whether an array is of a kind
abbrev pub has_kind : Tree → ArrayKind → ℕ → Bool
has_kind p kind array = same_kind (array_in p array).kind kind

-- whether an array is a worker's own
abbrev pub is_own : ArrayKind → Bool
is_own Static = true
is_own Temp = true
is_own Local = true
is_own Distributed = false
is_own Served = false

-- whether an operand is a block
abbrev pub is_block : Operand → Bool
is_block (Number n) = false
is_block (Scalar s) = false
is_block (Block b) = true

-- whether the operands' combination is a form that a block can be assigned
abbrev pub block_form : (left right : Bool) → Bin → Bool
block_form true true bin = true
block_form true false Times = true
block_form false true Times = true
block_form left right bin = false

-- whether the operands' combination is a form that a scalar can be assigned
abbrev pub scalar_form : (left right : Bool) → Bin → Bool
scalar_form false false Plus = true
scalar_form false false Minus = true
scalar_form false false Times = true
scalar_form true true Times = true
scalar_form left right bin = false

-- whether an assignment has one of its forms; `*=` takes one number or scalar alone
abbrev pub form_stands : Target → Op → Right → Bool
form_stands target op.Scale (One a) = not (is_block a)
form_stands target op.Scale (Two a bin b) = false
form_stands (target.Scalar s) op (One a) = not (is_block a)
form_stands (target.Scalar s) op (Two a bin b) = scalar_form (is_block a) (is_block b) bin
form_stands (target.Block t) op (One a) = true
form_stands (target.Block t) op (Two a bin b) = block_form (is_block a) (is_block b) bin

-- the indices that stand in exactly one of two blocks
abbrev pub in_one : List ℕ → List ℕ → List ℕ
in_one xs ys = filter (λ x. not (contains ys x)) xs ++ filter (λ y. not (contains xs y)) ys

-- whether two blocks share an index
abbrev pub share_any : List ℕ → List ℕ → Bool
share_any xs ys = list_any (contains ys) xs

-- whether a block cuts another: position by position the same index or the first's a subindex of the second's
abbrev pub cuts_all : Tree → (parts wholes : List ℕ) → Bool
cuts_all p [] [] = true
cuts_all p [] (w ∷ ws) = false
cuts_all p (x ∷ xs) [] = false
cuts_all p (x ∷ xs) (w ∷ ws) = ((x == w) || is_sub_of p x w) && cuts_all p xs ws

-- whether a copy's indices agree: the same in any order, a slice or an insertion
abbrev pub copy_agrees : Tree → (target source : List ℕ) → Bool
copy_agrees p target source = same_set target source || (cuts_all p target source || cuts_all p source target)

-- whether two blocks' indices agree with the target's
abbrev pub pair_agrees : List ℕ → Bin → (left right : List ℕ) → Bool
pair_agrees target Plus left right = same_set target left && same_set target right
pair_agrees target Minus left right = same_set target left && same_set target right
pair_agrees target Times left right = same_set target (in_one left right)
pair_agrees target Outer left right = not (share_any left right) && same_set target (left ++ right)

-- whether the indices of a right side agree with those of a block
abbrev pub block_agrees : Tree → List ℕ → Right → Bool
block_agrees p target (One (Block b)) = copy_agrees p target b.at
block_agrees p target (One _) = true
block_agrees p target (Two (Block a) bin (Block b)) = pair_agrees target bin a.at b.at
block_agrees p target (Two (Block a) bin _) = same_set target a.at
block_agrees p target (Two _ bin (Block b)) = same_set target b.at
block_agrees p target (Two _ bin _) = true

-- whether the indices of a right side agree with a scalar
abbrev pub scalar_agrees : Right → Bool
scalar_agrees (Two (Block a) bin (Block b)) = same_set a.at b.at
scalar_agrees _ = true

-- whether the indices of an assignment that has one of its forms agree
abbrev pub assignment_agrees : Tree → Target → Right → Bool
assignment_agrees p (target.Scalar s) right = scalar_agrees right
assignment_agrees p (target.Block t) right = block_agrees p t.at right
